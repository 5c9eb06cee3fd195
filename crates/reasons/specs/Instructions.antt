-- An instruction in words, with what is known of the registers and the words of the stack that it uses.
use Rattle.std.specs.Prelude.{ℕ, zero, suc, ◌+◌, ◌-◌, ◌*◌, ◌/◌, ◌==◌, nat_lt, nat_le, ℤ, pos, negsuc, ◌+ℤ◌, List, [], ◌∷◌, ◌++◌, Option}
use Rattle.std.specs.Prelude.{Some, None, slice_get, codes, decimal, if◌then◌else◌}
use Rattle.std.specs.List.{flat_map}
use Rattle.isa.specs.declared.operation.AluOp.{AluOp}
use Rattle.isa.specs.declared.operation.AluOp.TheVariants.{Mov}
use Rattle.isa.specs.declared.operation.AtomicOp.{AtomicOp}
use Rattle.isa.specs.Atomic.{compares_r0}
use Rattle.isa.specs.declared.operation.Register.{Register}
use Rattle.isa.specs.declared.operation.Register.TheVariants.{R0, R1, R2, R3, R4}
use Rattle.isa.specs.declared.operation.SourceOperand.{SourceOperand}
use Rattle.isa.specs.declared.operation.SourceOperand.TheVariants.{Imm, Reg}
use Rattle.isa.specs.InstructionCodes.{register_number}
use Rattle.ebpf_decode.specs.declared.insn.Insn.{Insn}
use Rattle.ebpf_decode.specs.declared.insn.Insn.TheVariants.{Alu, Neg, Movsx, Movsx32, End, JumpIf, Ldx, Ldxs, St, Stx, AtomicUpdate}
use Rattle.ebpf_decode.specs.declared.insn.Insn.TheVariants.{CallHelper, Exit}
use Rattle.ebpf_decode.specs.declared.map.MapDef.{MapDef}
use Rattle.disasm.specs.AssemblyText.{line_of}
use Rattle.semantics.specs.Linux.{helper_of}
use Rattle.semantics.specs.declared.linux.Helper.{Helper}
use Rattle.semantics.specs.declared.linux.Helper.TheVariants.{MapLookupElem, MapUpdateElem, MapDeleteElem, XdpAdjustHead}
use Rattle.abstract_state.specs.declared.kind.Kind.{Kind}
use Rattle.abstract_state.specs.declared.kind.Kind.TheVariants.{Stack, Map}
use Rattle.abstract_state.specs.declared.state.State.{State}
use Rattle.abstract_state.specs.States.{kind_of, word_of}
use Rattle.reasons.specs.declared.cause.Access.{Access}
use Rattle.reasons.specs.Wording.{kind_text, word_text}
use Rattle.reasons.specs.Causes.{access_of}

-- each line of an explanation begins with two spaces
abbrev pub slot_line : ℕ → Insn → List ℕ
slot_line slot insn = codes "  slot " ++ (decimal slot ++ (codes ": " ++ (line_of insn ++ codes "\n")))

-- ---- registers

abbrev pub register_line : State → Register → List ℕ
register_line state register =
    codes "  r" ++ (decimal (register_number register) ++ (codes ": " ++ (kind_text (kind_of state register) ++ codes "\n")))

abbrev pub used_line : State → Option Register → List ℕ
used_line state (Some register) = register_line state register
used_line state None = []

abbrev pub register_of_source : SourceOperand → Option Register
register_of_source (Imm immediate) = None
register_of_source (Reg register) = Some register

-- at most four registers
abbrev pub one_register : Option Register → List (Option Register)
one_register first = first ∷ None ∷ None ∷ None ∷ []

abbrev pub two_registers : Register → Option Register → List (Option Register)
two_registers first second = Some first ∷ second ∷ None ∷ None ∷ []

-- by the helper: a map and a key, these with a value and flags, or the context and a number
abbrev pub called_registers : Option Helper → List (Option Register)
called_registers (Some MapLookupElem) = two_registers R1 (Some R2)
called_registers (Some MapUpdateElem) = Some R1 ∷ Some R2 ∷ Some R3 ∷ Some R4 ∷ []
called_registers (Some MapDeleteElem) = two_registers R1 (Some R2)
called_registers (Some XdpAdjustHead) = two_registers R1 (Some R2)
called_registers helper = one_register None

-- a move does not read what it overwrites
abbrev pub computing_registers : AluOp → Register → Option Register → List (Option Register)
computing_registers Mov dst source = one_register source
computing_registers op dst source = two_registers dst source

-- the register with which an atomic operation compares what it finds, if it does
abbrev pub compared_register : AtomicOp → Option Register
compared_register op = if compares_r0 op then Some R0 else None

-- the registers that an instruction reads
abbrev pub used_registers : Insn → List (Option Register)
used_registers (Alu width op dst source) = computing_registers op dst (register_of_source source)
used_registers (Neg width dst) = one_register (Some dst)
used_registers (Movsx extension dst src) = one_register (Some src)
used_registers (Movsx32 extension dst src) = one_register (Some src)
used_registers (End order width dst) = one_register (Some dst)
used_registers (JumpIf width test dst source distance) = two_registers dst (register_of_source source)
used_registers (Ldx size dst src offset) = one_register (Some src)
used_registers (Ldxs extension dst src offset) = one_register (Some src)
used_registers (St size dst offset immediate) = one_register (Some dst)
used_registers (Stx size dst src offset) = two_registers dst (Some src)
used_registers (AtomicUpdate width op dst src offset) = Some dst ∷ Some src ∷ compared_register op ∷ None ∷ []
used_registers (CallHelper number) = called_registers (helper_of number)
used_registers Exit = one_register (Some R0)
used_registers insn = one_register None

-- ---- the stack

-- the word that has a place
abbrev pub place_word : ℤ → Option ℕ
place_word (pos place) = if nat_lt place 512 then Some (place / 8) else None
place_word (negsuc below) = None

abbrev pub word_from : Kind → ℤ → Option ℕ
word_from (Stack place) offset = place_word (pos place +ℤ offset)
word_from other offset = None

-- the word that an access touches first
abbrev pub stack_word : Option Access → Option ℕ
stack_word (Some access) = word_from access.base access.offset
stack_word None = None

-- a word by how far its lowest byte lies below r10
unfoldable pub word_head : ℕ → List ℕ
word_head below = codes "  stack r10-" ++ (decimal below ++ codes ": ")

abbrev pub word_line : State → ℕ → List ℕ
word_line state word = word_head (512 - 8 * word) ++ (word_text (word_of state word) ++ codes "\n")

abbrev pub line_of_word : State → Option ℕ → List ℕ
line_of_word state (Some word) = word_line state word
line_of_word state None = []

abbrev pub stack_word_text : State → Option Access → List ℕ
stack_word_text state access = line_of_word state (stack_word access)

-- ---- what a call reads of the stack

-- this many words from one on
unfoldable pub words_text : State → ℕ → ℕ → List ℕ
words_text state first zero = []
words_text state first (suc count) = word_line state first ++ words_text state (first + 1) count

-- the words that have this many bytes, where these lie inside the stack
unfoldable pub stack_range_text : State → ℕ → ℕ → List ℕ
stack_range_text state place size =
    if size == 0 then []
    else (if nat_le (place + size) 512 then words_text state (place / 8) ((place + size + 7) / 8 - place / 8) else [])

abbrev pub argument_text : State → Kind → ℕ → List ℕ
argument_text state (Stack place) size = stack_range_text state place size
argument_text state other size = []

abbrev pub called_map : List MapDef → Kind → Option MapDef
called_map maps (Map map) = slice_get maps map
called_map maps other = None

-- for a key, and for a value
abbrev pub sizes_of : Option Helper → MapDef → ℕ × ℕ
sizes_of (Some MapLookupElem) definition = (definition.key_size, 0)
sizes_of (Some MapUpdateElem) definition = (definition.key_size, definition.value_size)
sizes_of (Some MapDeleteElem) definition = (definition.key_size, 0)
sizes_of helper definition = (0, 0)

abbrev pub sizes_read : Option Helper → Option MapDef → ℕ × ℕ
sizes_read helper (Some definition) = sizes_of helper definition
sizes_read helper None = (0, 0)

abbrev pub sized_text : State → ℕ × ℕ → List ℕ
sized_text state sizes = argument_text state (kind_of state R2) sizes.0 ++ argument_text state (kind_of state R3) sizes.1

abbrev pub arguments_text : List MapDef → State → Option Helper → List ℕ
arguments_text maps state helper = sized_text state (sizes_read helper (called_map maps (kind_of state R1)))

-- the words that an instruction touches
abbrev pub touched_text : List MapDef → State → Insn → List ℕ
touched_text maps state (CallHelper number) = arguments_text maps state (helper_of number)
touched_text maps state insn = stack_word_text state (access_of state insn)

-- ---- both

abbrev pub used_text : List MapDef → State → Insn → List ℕ
used_text maps state insn = flat_map (used_line state) (used_registers insn) ++ touched_text maps state insn
