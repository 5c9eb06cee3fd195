-- The first word of an instruction's line: a stem, and a suffix for the width or the size.
use Rattle.std.specs.Prelude.{◌≡◌, ℕ, List, [], ◌++◌, codes}
use Rattle.isa.specs.declared.operation.Width.{Width}
use Rattle.isa.specs.declared.operation.Width.TheVariants.{Bits32, Bits64}
use Rattle.isa.specs.declared.operation.AluOp.{AluOp}
use Rattle.isa.specs.declared.operation.AluOp.TheVariants.{Add, Sub, Mul, Div, Sdiv, Or, And, Lsh, Rsh, Mod, Smod, Xor, Mov, Arsh}
use Rattle.isa.specs.declared.operation.Extension.{Extension}
use Rattle.isa.specs.declared.operation.Extension.TheVariants.{I8, I16, I32}
use Rattle.isa.specs.declared.operation.ShortExtension.{ShortExtension}
use Rattle.isa.specs.declared.operation.ShortExtension.TheVariants.{Short8, Short16}
use Rattle.isa.specs.declared.operation.ByteOrder.{ByteOrder}
use Rattle.isa.specs.declared.operation.ByteOrder.TheVariants.{ToLittle, ToBig, Swapped}
use Rattle.isa.specs.declared.operation.SwapWidth.{SwapWidth}
use Rattle.isa.specs.declared.operation.SwapWidth.TheVariants.{Swap16, Swap32, Swap64}
use Rattle.isa.specs.declared.operation.Test.{Test}
use Rattle.isa.specs.declared.operation.Test.TheVariants.{Eq, Gt, Ge, Set, Ne, Sgt, Sge, Lt, Le, Slt, Sle}
use Rattle.isa.specs.declared.operation.AtomicOp.{AtomicOp}
use Rattle.isa.specs.declared.operation.AtomicOp.TheVariants.{AtomicAdd, AtomicOr, AtomicAnd, AtomicXor, FetchAdd, FetchOr, FetchAnd}
use Rattle.isa.specs.declared.operation.AtomicOp.TheVariants.{FetchXor, Exchange, CompareExchange}
use Rattle.isa.specs.declared.operation.Size.{Size}
use Rattle.isa.specs.declared.operation.Size.TheVariants.{U8, U16, U32, U64}
use Rattle.isa.specs.InstructionCodes.{extension_size, width_size}
use Rattle.disasm.specs.declared.head.Head.{Head}
use Rattle.disasm.specs.declared.head.Head.TheVariants.{Alu, Neg, Movsx, Movsx32, End, Ja, Ja32, JumpIf, Ldx, Ldxs, St, Stx, Atomic}
use Rattle.disasm.specs.declared.head.Head.TheVariants.{Lddw, Ldmap, Ldval, Call, Exit}

-- arithmetic (RFC 9669, section 4.1)
abbrev pub alu_name : AluOp → List ℕ
alu_name Add = codes "add"
alu_name Sub = codes "sub"
alu_name Mul = codes "mul"
alu_name Div = codes "div"
alu_name Sdiv = codes "sdiv"
alu_name Or = codes "or"
alu_name And = codes "and"
alu_name Lsh = codes "lsh"
alu_name Rsh = codes "rsh"
alu_name Mod = codes "mod"
alu_name Smod = codes "smod"
alu_name Xor = codes "xor"
alu_name Mov = codes "mov"
alu_name Arsh = codes "arsh"

-- the classes ALU and JMP32 are marked
abbrev pub width_suffix : Width → List ℕ
width_suffix Bits64 = []
width_suffix Bits32 = codes "32"

-- sign-extending moves
abbrev pub extension_bits_text : Extension → List ℕ
extension_bits_text I8 = codes "8"
extension_bits_text I16 = codes "16"
extension_bits_text I32 = codes "32"

-- in 32 bits
abbrev pub short_bits : ShortExtension → List ℕ
short_bits Short8 = codes "832"
short_bits Short16 = codes "1632"

-- byte swaps (section 4.2)
abbrev pub order_name : ByteOrder → List ℕ
order_name ToLittle = codes "le"
order_name ToBig = codes "be"
order_name Swapped = codes "swap"

abbrev pub swap_bits_text : SwapWidth → List ℕ
swap_bits_text Swap16 = codes "16"
swap_bits_text Swap32 = codes "32"
swap_bits_text Swap64 = codes "64"

-- conditional jumps (section 4.3)
abbrev pub test_name : Test → List ℕ
test_name Eq = codes "jeq"
test_name Gt = codes "jgt"
test_name Ge = codes "jge"
test_name Set = codes "jset"
test_name Ne = codes "jne"
test_name Sgt = codes "jsgt"
test_name Sge = codes "jsge"
test_name Lt = codes "jlt"
test_name Le = codes "jle"
test_name Slt = codes "jslt"
test_name Sle = codes "jsle"

-- loads and stores (section 5)
abbrev pub size_letters : Size → List ℕ
size_letters U8 = codes "b"
size_letters U16 = codes "h"
size_letters U32 = codes "w"
size_letters U64 = codes "dw"

-- atomic operations (section 5.3)
abbrev pub atomic_name : AtomicOp → List ℕ
atomic_name AtomicAdd = codes "aadd"
atomic_name AtomicOr = codes "aor"
atomic_name AtomicAnd = codes "aand"
atomic_name AtomicXor = codes "axor"
atomic_name FetchAdd = codes "afadd"
atomic_name FetchOr = codes "afor"
atomic_name FetchAnd = codes "afand"
atomic_name FetchXor = codes "afxor"
atomic_name Exchange = codes "axchg"
atomic_name CompareExchange = codes "acmpxchg"

abbrev pub head_stem : Head → List ℕ
head_stem (Alu width op) = alu_name op
head_stem (Neg width) = codes "neg"
head_stem (Movsx extension) = codes "movsx"
head_stem (Movsx32 extension) = codes "movsx"
head_stem (End order swap_width) = order_name order
head_stem Ja = codes "ja"
head_stem Ja32 = codes "ja"
head_stem (JumpIf width test) = test_name test
head_stem (Ldx size) = codes "ldx"
head_stem (Ldxs extension) = codes "ldxs"
head_stem (St size) = codes "st"
head_stem (Stx size) = codes "stx"
head_stem (Atomic width op) = atomic_name op
head_stem Lddw = codes "lddw"
head_stem Ldmap = codes "ldmap"
head_stem Ldval = codes "ldval"
head_stem Call = codes "call"
head_stem Exit = codes "exit"

abbrev pub head_suffix : Head → List ℕ
head_suffix (Alu width op) = width_suffix width
head_suffix (Neg width) = width_suffix width
head_suffix (Movsx extension) = extension_bits_text extension
head_suffix (Movsx32 extension) = short_bits extension
head_suffix (End order swap_width) = swap_bits_text swap_width
head_suffix Ja32 = codes "32"
head_suffix (JumpIf width test) = width_suffix width
head_suffix (Ldx size) = size_letters size
head_suffix (Ldxs extension) = size_letters (extension_size extension)
head_suffix (St size) = size_letters size
head_suffix (Stx size) = size_letters size
head_suffix (Atomic width op) = size_letters (width_size width)
head_suffix head = []

unfoldable pub head_name : Head → List ℕ
head_name head = head_stem head ++ head_suffix head

-- the word is the first of an instruction's line
pub record Spells (word : List ℕ) : Type 0 where
  pub head : Head
  pub is : word ≡ head_name head
