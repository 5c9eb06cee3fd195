-- The text of instructions, maps and images: the one spelling of each.
use Rattle.std.specs.Prelude.{◌≡◌, ℕ, ◌<◌, ◌^◌, ◌/◌, ◌%◌, zero, suc, List, [], ◌∷◌, ◌++◌, ℤ, pos, negsuc, codes}
use Rattle.std.specs.Fmt.{decimal, signed_decimal}
use Rattle.std.specs.List.{flat_map}
use Rattle.isa.specs.declared.operation.Register.{Register}
use Rattle.isa.specs.declared.operation.Register.TheVariants.{R0, R1, R2, R3, R4, R5, R6, R7, R8, R9, R10}
use Rattle.isa.specs.declared.operation.SourceOperand.{SourceOperand}
use Rattle.isa.specs.declared.operation.SourceOperand.TheVariants.{Imm, Reg}
use Rattle.ebpf_decode.specs.declared.insn.Insn.{Insn}
use Rattle.ebpf_decode.specs.declared.insn.Insn.TheVariants as insns
use Rattle.ebpf_decode.specs.declared.map.MapDef.{MapDef}
use Rattle.ebpf_decode.specs.declared.map.MapKind.{MapKind}
use Rattle.ebpf_decode.specs.declared.map.MapKind.TheVariants.{Hash, Array, LruHash}
use Rattle.ebpf_decode.specs.declared.version.Version.{Version}
use Rattle.ebpf_decode.specs.declared.version.Version.TheVariants.{V1, V2}
use Rattle.ebpf_decode.specs.InstructionEncoding.{FieldsFit}
use Rattle.ebpf_decode.specs.ImageContents.{Contents, IsEncodable}
use Rattle.text_lines.specs.Lines.{ended}
use Rattle.text_lines.specs.Digits.{hex_digit}
use Rattle.disasm.specs.declared.head.Head.{Head}
use Rattle.disasm.specs.declared.head.Head.TheVariants.{Alu, Neg, Movsx, Movsx32, End, Ja, Ja32, JumpIf, Ldx, Ldxs, St, Stx, Atomic}
use Rattle.disasm.specs.declared.head.Head.TheVariants.{Lddw, Ldmap, Ldval, Call, Exit}
use Rattle.disasm.specs.declared.operand.Operand.{Operand}
use Rattle.disasm.specs.declared.operand.Operand.TheVariants as operands
use Rattle.disasm.specs.declared.operand.Operands.{Operands}
use Rattle.disasm.specs.declared.operand.Operands.TheVariants.{Zero, One, Two, Three}
use Rattle.disasm.specs.Names.{head_name}

-- ---- operands

-- registers (RFC 9669, section 3.1)
abbrev pub register_text : Register → List ℕ
register_text R0 = codes "r0"
register_text R1 = codes "r1"
register_text R2 = codes "r2"
register_text R3 = codes "r3"
register_text R4 = codes "r4"
register_text R5 = codes "r5"
register_text R6 = codes "r6"
register_text R7 = codes "r7"
register_text R8 = codes "r8"
register_text R9 = codes "r9"
register_text R10 = codes "r10"

-- a distance or an offset, always with its sign
abbrev pub with_sign : ℤ → List ℕ
with_sign (pos n) = codes "+" ++ decimal n
with_sign (negsuc n) = codes "-" ++ decimal (suc n)

-- the last this many hexadecimal digits
unfoldable pub hex_digits : ℕ → ℕ → List ℕ
hex_digits zero n = []
hex_digits (suc k) n = hex_digits k (n / 16) ++ (hex_digit (n % 16) ∷ [])

unfoldable pub operand_text : Operand → List ℕ
operand_text (operands.Register r) = register_text r
operand_text (operands.Number value) = signed_decimal value
operand_text (operands.Distance value) = with_sign value
operand_text (operands.Place r offset) = codes "[" ++ (register_text r ++ (with_sign offset ++ codes "]"))
operand_text (operands.Wide value) = codes "0x" ++ hex_digits 16 value

abbrev pub after_comma : Operand → List ℕ
after_comma o = codes ", " ++ operand_text o

-- each operand after a comma but the first
unfoldable pub list_text : Operands → List ℕ
list_text Zero = []
list_text (One a) = operand_text a
list_text (Two a b) = operand_text a ++ after_comma b
list_text (Three a b c) = operand_text a ++ (after_comma b ++ after_comma c)

-- after the first word
unfoldable pub operands_text : Operands → List ℕ
operands_text Zero = []
operands_text os = codes " " ++ list_text os

-- ---- instructions: the first word, and the operands

unfoldable pub head_of : Insn → Head
head_of (insns.Alu width op dst source) = Alu width op
head_of (insns.Neg width dst) = Neg width
head_of (insns.Movsx extension dst src) = Movsx extension
head_of (insns.Movsx32 extension dst src) = Movsx32 extension
head_of (insns.End order swap_width dst) = End order swap_width
head_of (insns.Ja distance) = Ja
head_of (insns.Ja32 distance) = Ja32
head_of (insns.JumpIf width test dst source distance) = JumpIf width test
head_of (insns.Ldx size dst src offset) = Ldx size
head_of (insns.Ldxs extension dst src offset) = Ldxs extension
head_of (insns.St size dst offset immediate) = St size
head_of (insns.Stx size dst src offset) = Stx size
head_of (insns.AtomicUpdate width op dst src offset) = Atomic width op
head_of (insns.Lddw dst value) = Lddw
head_of (insns.Ldmap dst map) = Ldmap
head_of (insns.Ldval dst map offset) = Ldval
head_of (insns.CallHelper helper) = Call
head_of insns.Exit = Exit

-- an immediate, or a register
abbrev pub source_operand : SourceOperand → Operand
source_operand (Imm value) = operands.Number value
source_operand (Reg register) = operands.Register register

unfoldable pub operands_of : Insn → Operands
operands_of (insns.Alu width op dst source) = Two (operands.Register dst) (source_operand source)
operands_of (insns.Neg width dst) = One (operands.Register dst)
operands_of (insns.Movsx extension dst src) = Two (operands.Register dst) (operands.Register src)
operands_of (insns.Movsx32 extension dst src) = Two (operands.Register dst) (operands.Register src)
operands_of (insns.End order swap_width dst) = One (operands.Register dst)
operands_of (insns.Ja distance) = One (operands.Distance distance)
operands_of (insns.Ja32 distance) = One (operands.Distance distance)
operands_of (insns.JumpIf width test dst source distance) =
    Three (operands.Register dst) (source_operand source) (operands.Distance distance)
operands_of (insns.Ldx size dst src offset) = Two (operands.Register dst) (operands.Place src offset)
operands_of (insns.Ldxs extension dst src offset) = Two (operands.Register dst) (operands.Place src offset)
operands_of (insns.St size dst offset immediate) = Two (operands.Place dst offset) (operands.Number immediate)
operands_of (insns.Stx size dst src offset) = Two (operands.Place dst offset) (operands.Register src)
operands_of (insns.AtomicUpdate width op dst src offset) = Two (operands.Place dst offset) (operands.Register src)
operands_of (insns.Lddw dst value) = Two (operands.Register dst) (operands.Wide value)
operands_of (insns.Ldmap dst map) = Two (operands.Register dst) (operands.Number map)
operands_of (insns.Ldval dst map offset) = Three (operands.Register dst) (operands.Number map) (operands.Number (pos offset))
operands_of (insns.CallHelper helper) = One (operands.Number helper)
operands_of insns.Exit = Zero

unfoldable pub line_of : Insn → List ℕ
line_of insn = head_name (head_of insn) ++ operands_text (operands_of insn)

-- the line, without its line feed, is the instruction's
pub record IsAssemblyLine (insn : Insn) (line : List ℕ) : Type 0 where
  pub fields_fit : FieldsFit insn
  pub spelled : line ≡ line_of insn

-- ---- maps

abbrev pub kind_name : MapKind → List ℕ
kind_name Hash = codes "hash"
kind_name Array = codes "array"
kind_name LruHash = codes "lru"

abbrev pub after_space : ℕ → List ℕ
after_space n = codes " " ++ decimal n

unfoldable pub map_line_of : MapDef → List ℕ
map_line_of m = codes "map " ++ (kind_name m.kind ++ (after_space m.key_size ++ (after_space m.value_size ++ after_space m.max_entries)))

-- each number of the map has 32 bits
pub record MapFits (m : MapDef) : Type 0 where
  pub key_size : m.key_size < 2 ^ 32
  pub value_size : m.value_size < 2 ^ 32
  pub max_entries : m.max_entries < 2 ^ 32

-- the line, without its line feed, is the map's
pub record IsMapLine (m : MapDef) (line : List ℕ) : Type 0 where
  pub fits : MapFits m
  pub spelled : line ≡ map_line_of m

-- ---- images

abbrev pub version_text : Version → List ℕ
version_text V1 = ended (codes "version 1")
version_text V2 = ended (codes "version 2")

abbrev pub maps_text : List MapDef → List ℕ
maps_text maps = flat_map (λ m. ended (map_line_of m)) maps

abbrev pub code_text : List Insn → List ℕ
code_text code = flat_map (λ insn. ended (line_of insn)) code

-- the first line, one for each map, one for each instruction
abbrev pub parts_text : Version → List MapDef → List Insn → List ℕ
parts_text version maps code = version_text version ++ maps_text maps ++ code_text code

-- the text is the image's
pub record IsAssemblyText (text : List ℕ) (image : Contents) : Type 0 where
  pub encodable : IsEncodable image.version image.maps image.code
  pub spelled : text ≡ parts_text image.version image.maps image.code
