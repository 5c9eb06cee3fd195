-- The slots of an instruction whose numbers are in range have bytes.
use Rattle.std.proofs.Common.{ℕ, ◌^◌, ◌<◌, List, [], ◌∷◌, ◌++◌, pos, arith, lit<, w32}
use Rattle.std.specs.Prelude.{FitsSigned}
use Rattle.std.specs.Int.{w16}
use Rattle.std.specs.List.{AllByRecursion}
use Rattle.std.proofs.Math.Facts.{sfits_to_z}
use Rattle.std.proofs.lemmas.Nat.{shr_below, mod_below}
use Rattle.isa.specs.declared.operation.Width.{Width}
use Rattle.isa.specs.declared.operation.Width.TheVariants.{Bits32}
use Rattle.isa.specs.declared.operation.Class.{Class}
use Rattle.isa.specs.declared.operation.Class.TheVariants as classes
use Rattle.isa.specs.declared.operation.Mode.{Mode}
use Rattle.isa.specs.declared.operation.Mode.TheVariants as modes
use Rattle.isa.specs.declared.operation.AluOp.{AluOp}
use Rattle.isa.specs.declared.operation.AluOp.TheVariants.{Add}
use Rattle.isa.specs.declared.operation.Extension.{Extension}
use Rattle.isa.specs.declared.operation.Extension.TheVariants.{I8}
use Rattle.isa.specs.declared.operation.ShortExtension.{ShortExtension}
use Rattle.isa.specs.declared.operation.ShortExtension.TheVariants.{Short8}
use Rattle.isa.specs.declared.operation.ByteOrder.{ByteOrder}
use Rattle.isa.specs.declared.operation.ByteOrder.TheVariants.{ToLittle}
use Rattle.isa.specs.declared.operation.SwapWidth.{SwapWidth}
use Rattle.isa.specs.declared.operation.SwapWidth.TheVariants.{Swap16}
use Rattle.isa.specs.declared.operation.Test.{Test}
use Rattle.isa.specs.declared.operation.Test.TheVariants.{Eq}
use Rattle.isa.specs.declared.operation.AtomicOp.{AtomicOp}
use Rattle.isa.specs.declared.operation.AtomicOp.TheVariants.{AtomicAdd}
use Rattle.isa.specs.declared.operation.Size.{Size}
use Rattle.isa.specs.declared.operation.Size.TheVariants.{U8}
use Rattle.isa.specs.declared.operation.SourceOperand.{SourceOperand}
use Rattle.isa.specs.declared.operation.SourceOperand.TheVariants.{Imm, Reg}
use Rattle.ebpf_decode.specs.declared.slot.CodeSlot.{CodeSlot}
use Rattle.ebpf_decode.specs.declared.insn.Insn.{Insn}
use Rattle.ebpf_decode.specs.declared.insn.Insn.TheVariants.{Alu, Neg, Movsx, Movsx32, End, Ja, Ja32, JumpIf, Ldx, Ldxs, St, Stx, AtomicUpdate, Lddw, Ldmap, Ldval, CallHelper, Exit}
use Rattle.isa.specs.InstructionCodes.{class_number, alu_class, jump_class, alu_code, alu_offset, mode_number, test_code, size_code, extension_size, width_size, atomic_code}
use Rattle.isa.specs.Alu.{extension_bits, short_extension_bits}
use Rattle.isa.specs.Swap.{swap_bits}
use Rattle.ebpf_decode.specs.InstructionEncoding.{operation_opcode, memory_opcode, neg_opcode, order_opcode, source_bit, slot_of, more_slots_of, slots_of_instruction, FieldsFit}
use Rattle.ebpf_decode.proofs.Slots.{SlotFits, slots_of}
use Rattle.ebpf_decode.proofs.SlotFacts.{slot_small}

-- ---- opcodes

class_small : (c : Class) → class_number c < 8
class_small classes.Ld = lit< tt
class_small c = lit< tt

mode_small : (mode : Mode) → mode_number mode < 8
mode_small modes.Imm = lit< tt
mode_small mode = lit< tt

size_code_small : (size : Size) → size_code size < 4
size_code_small U8 = lit< tt
size_code_small size = lit< tt

operation_small : (code bit : ℕ) (c : Class) → code < 16 → bit < 2 → operation_opcode code bit c < 256
operation_small code bit c low one = omega (arith, class_small c)

memory_small : (mode : Mode) (size : Size) (c : Class) → memory_opcode mode size c < 256
memory_small mode size c = omega (arith, mode_small mode, size_code_small size, class_small c)

alu_code_small : (op : AluOp) → alu_code op < 16
alu_code_small Add = lit< tt
alu_code_small op = lit< tt

test_code_small : (test : Test) → test_code test < 16
test_code_small Eq = lit< tt
test_code_small test = lit< tt

source_bit_small : (source : SourceOperand) → source_bit source < 2
source_bit_small (Imm value) = lit< tt
source_bit_small (Reg src) = lit< tt

neg_opcode_small : (width : Width) → neg_opcode width < 256
neg_opcode_small Bits32 = lit< tt
neg_opcode_small width = lit< tt

order_opcode_small : (order : ByteOrder) → order_opcode order < 256
order_opcode_small ToLittle = lit< tt
order_opcode_small order = lit< tt

opcode_small : (insn : Insn) → (slot_of insn).opcode < 256
unfolding slot_of
opcode_small (Alu width op dst source) = operation_small (alu_code op) (source_bit source) (alu_class width) (alu_code_small op) (source_bit_small source)
opcode_small (Neg width dst) = neg_opcode_small width
opcode_small (Movsx extension dst src) = lit< tt
opcode_small (Movsx32 extension dst src) = lit< tt
opcode_small (End order swap_width dst) = order_opcode_small order
opcode_small (Ja distance) = lit< tt
opcode_small (Ja32 distance) = lit< tt
opcode_small (JumpIf width test dst source distance) = operation_small (test_code test) (source_bit source) (jump_class width) (test_code_small test) (source_bit_small source)
opcode_small (Ldx size dst src offset) = memory_small modes.Mem size classes.Ldx
opcode_small (Ldxs extension dst src offset) = memory_small modes.MemSx (extension_size extension) classes.Ldx
opcode_small (St size dst offset immediate) = memory_small modes.Mem size classes.St
opcode_small (Stx size dst src offset) = memory_small modes.Mem size classes.Stx
opcode_small (AtomicUpdate width op dst src offset) = memory_small modes.Atomic (width_size width) classes.Stx
opcode_small (Lddw dst value) = lit< tt
opcode_small (Ldmap dst map) = lit< tt
opcode_small (Ldval dst map offset) = lit< tt
opcode_small (CallHelper helper) = lit< tt
opcode_small Exit = lit< tt

-- ---- offsets and immediates

none16 : FitsSigned w16 (pos 0)
none16 = record { sfits = lit< tt }

none32 : FitsSigned w32 (pos 0)
none32 = record { sfits = lit< tt }

alu_offset_fits : (op : AluOp) → FitsSigned w16 (pos (alu_offset op))
alu_offset_fits Add = record { sfits = lit< tt }
alu_offset_fits op = record { sfits = lit< tt }

extension_fits : (extension : Extension) → FitsSigned w16 (pos (extension_bits extension))
extension_fits I8 = record { sfits = lit< tt }
extension_fits extension = record { sfits = lit< tt }

short_fits : (extension : ShortExtension) → FitsSigned w16 (pos (short_extension_bits extension))
short_fits Short8 = record { sfits = lit< tt }
short_fits extension = record { sfits = lit< tt }

swap_fits : (width : SwapWidth) → FitsSigned w32 (pos (swap_bits width))
swap_fits Swap16 = record { sfits = lit< tt }
swap_fits width = record { sfits = lit< tt }

atomic_fits : (op : AtomicOp) → FitsSigned w32 (pos (atomic_code op))
atomic_fits AtomicAdd = record { sfits = lit< tt }
atomic_fits op = record { sfits = lit< tt }

NumbersFit : CodeSlot → Type 0
NumbersFit s = FitsSigned w16 s.offset × FitsSigned w32 s.immediate

numbers_fit : (insn : Insn) → FieldsFit insn → NumbersFit (slot_of insn)
unfolding NumbersFit slot_of FieldsFit
numbers_fit (Alu width op dst (Imm value)) fits = (alu_offset_fits op, fits)
numbers_fit (Alu width op dst (Reg src)) fits = (alu_offset_fits op, none32)
numbers_fit (Neg width dst) fits = (none16, none32)
numbers_fit (Movsx extension dst src) fits = (extension_fits extension, none32)
numbers_fit (Movsx32 extension dst src) fits = (short_fits extension, none32)
numbers_fit (End order swap_width dst) fits = (none16, swap_fits swap_width)
numbers_fit (Ja distance) fits = (fits, none32)
numbers_fit (Ja32 distance) fits = (none16, fits)
numbers_fit (JumpIf width test dst (Imm value) distance) fits = (fits.0, fits.1)
numbers_fit (JumpIf width test dst (Reg src) distance) fits = (fits.0, none32)
numbers_fit (Ldx size dst src offset) fits = (fits, none32)
numbers_fit (Ldxs extension dst src offset) fits = (fits, none32)
numbers_fit (St size dst offset immediate) fits = (fits.0, fits.1)
numbers_fit (Stx size dst src offset) fits = (fits, none32)
numbers_fit (AtomicUpdate width op dst src offset) fits = (fits, atomic_fits op)
numbers_fit (Lddw dst value) fits = (none16, sfits_to_z {w = w32} (record { fits = mod_below value (2 ^ 32) (lit< tt) }))
numbers_fit (Ldmap dst map) fits = (none16, fits)
numbers_fit (Ldval dst map offset) fits = (none16, fits.0)
numbers_fit (CallHelper helper) fits = (none16, fits)
numbers_fit Exit fits = (none16, none32)

first_fits : (insn : Insn) → FieldsFit insn → SlotFits (slot_of insn)
unfolding NumbersFit
first_fits insn fits =
    let small = slot_small insn in
    let numbers = numbers_fit insn fits in
    record { opcode = opcode_small insn; dst = small.0; src = small.1; offset = numbers.0; immediate = numbers.1 }

more_fit : (insn : Insn) → FieldsFit insn → AllByRecursion SlotFits (more_slots_of insn)
unfolding more_slots_of FieldsFit
more_fit (Lddw dst value) fits = (record { opcode = lit< tt; dst = lit< tt; src = lit< tt; offset = none16; immediate = sfits_to_z {w = w32} (record { fits = shr_below value 32 32 fits }) }, tt)
more_fit (Ldmap dst map) fits = (record { opcode = lit< tt; dst = lit< tt; src = lit< tt; offset = none16; immediate = none32 }, tt)
more_fit (Ldval dst map offset) fits = (record { opcode = lit< tt; dst = lit< tt; src = lit< tt; offset = none16; immediate = sfits_to_z {w = w32} (record { fits = fits.1 }) }, tt)
more_fit insn fits = tt

all_slots : (xs ys : List CodeSlot) → AllByRecursion SlotFits xs → AllByRecursion SlotFits ys → AllByRecursion SlotFits (xs ++ ys)
all_slots [] ys fx fy = fy
all_slots (x ∷ xs) ys fx fy = (fx.0, all_slots xs ys fx.1 fy)

pub slots_of_fit : (code : List Insn) → AllByRecursion FieldsFit code → AllByRecursion SlotFits (slots_of code)
slots_of_fit [] fits = tt
slots_of_fit (insn ∷ code) fits = all_slots (slots_of_instruction insn) (slots_of code) (first_fits insn fits.0, more_fit insn fits.0) (slots_of_fit code fits.1)
