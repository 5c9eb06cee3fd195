-- What is read of a line that is spelled right.
use Rattle.std.specs.Prelude.{◌≡◌, ℕ, ◌<◌, ◌^◌, Bool, List, ◌==◌, ℤ, pos, negsuc, FitsSigned, nat_lt, if◌then◌else◌}
use Rattle.std.specs.Int.{w16, w32, w64}
use Rattle.std.specs.List.{starts_with}
use Rattle.isa.specs.declared.operation.Register.{Register}
use Rattle.isa.specs.declared.operation.Register.TheVariants.{R0}
use Rattle.isa.specs.declared.operation.SourceOperand.{SourceOperand}
use Rattle.isa.specs.declared.operation.SourceOperand.TheVariants.{Imm, Reg}
use Rattle.ebpf_decode.specs.declared.insn.Insn.{Insn}
use Rattle.ebpf_decode.specs.declared.insn.Insn.TheVariants as insns
use Rattle.disasm.specs.declared.head.Head.{Head}
use Rattle.disasm.specs.declared.head.Head.TheVariants.{Alu, Neg, Movsx, Movsx32, End, Ja, Ja32, JumpIf, Ldx, Ldxs, St, Stx, Atomic}
use Rattle.disasm.specs.declared.head.Head.TheVariants.{Lddw, Ldmap, Ldval, Call, Exit}
use Rattle.disasm.specs.declared.operand.Operand.{Operand}
use Rattle.disasm.specs.declared.operand.Operand.TheVariants as operands
use Rattle.disasm.specs.declared.operand.Operands.{Operands}
use Rattle.disasm.specs.declared.operand.Operands.TheVariants.{Zero, One, Two, Three}
use Rattle.disasm.specs.AssemblyText.{register_text}

abbrev pub begins_with_register : List ℕ → Register → Bool
begins_with_register text r = starts_with (λ a b. a == b) text (register_text r)

-- a number fits 64 bits, a distance 32; that they fit the fields is tested when the line is printed again
abbrev pub OperandFits : Operand → Type 0
OperandFits (operands.Register r) = Unit {0}
OperandFits (operands.Number value) = FitsSigned w64 value
OperandFits (operands.Distance value) = FitsSigned w32 value
OperandFits (operands.Place r offset) = FitsSigned w16 offset
OperandFits (operands.Wide value) = value < 2 ^ 64

-- a distance is read as a number
abbrev pub as_read : Operand → Operand
as_read (operands.Register r) = operands.Register r
as_read (operands.Number value) = operands.Number value
as_read (operands.Distance value) = operands.Number value
as_read (operands.Place r offset) = operands.Place r offset
as_read (operands.Wide value) = operands.Wide value

unfoldable pub OperandsFit : Operands → Type 0
OperandsFit Zero = Unit {0}
OperandsFit (One a) = OperandFits a
OperandsFit (Two a b) = OperandFits a × OperandFits b
OperandsFit (Three a b c) = OperandFits a × OperandFits b × OperandFits c

-- the operands that there are were read as these
unfoldable pub AreOperandsRead : Operands → Operand → Operand → Operand → Type 0
AreOperandsRead Zero x y z = Unit {0}
AreOperandsRead (One a) x y z = x ≡ as_read a
AreOperandsRead (Two a b) x y z = (x ≡ as_read a) × (y ≡ as_read b)
AreOperandsRead (Three a b c) x y z = (x ≡ as_read a) × (y ≡ as_read b) × (z ≡ as_read c)

-- ---- what an operand returns, or zero

abbrev pub register_in : Operand → Register
register_in (operands.Register r) = r
register_in (operands.Place r offset) = r
register_in o = R0

abbrev pub operand_number : Operand → ℤ
operand_number (operands.Number value) = value
operand_number o = pos 0

abbrev pub operand_offset : Operand → ℤ
operand_offset (operands.Place r offset) = offset
operand_offset o = pos 0

abbrev pub wide_in : Operand → ℕ
wide_in (operands.Wide value) = value
wide_in o = 0

-- a number that fits 32 bits, or zero
abbrev pub word_or_zero : ℤ → ℤ
word_or_zero (pos n) = if nat_lt n 0x8000_0000 then pos n else pos 0
word_or_zero (negsuc n) = if nat_lt n 0x8000_0000 then negsuc n else pos 0

-- an unsigned number that fits 32 bits, or zero
abbrev pub count_or_zero : ℤ → ℕ
count_or_zero (pos n) = if nat_lt n 0x1_0000_0000 then n else 0
count_or_zero (negsuc n) = 0

abbrev pub operand_source : Operand → SourceOperand
operand_source (operands.Register r) = Reg r
operand_source o = Imm (word_or_zero (operand_number o))

-- a number that fits 16 bits, or zero
abbrev pub short_in : ℤ → ℤ
short_in (pos n) = if nat_lt n 32768 then pos n else pos 0
short_in (negsuc n) = if nat_lt n 32768 then negsuc n else pos 0

unfoldable pub insn_made : Head → Operand → Operand → Operand → Insn
insn_made (Alu width op) x y z = insns.Alu width op (register_in x) (operand_source y)
insn_made (Neg width) x y z = insns.Neg width (register_in x)
insn_made (Movsx extension) x y z = insns.Movsx extension (register_in x) (register_in y)
insn_made (Movsx32 extension) x y z = insns.Movsx32 extension (register_in x) (register_in y)
insn_made (End order swap_width) x y z = insns.End order swap_width (register_in x)
insn_made Ja x y z = insns.Ja (short_in (operand_number x))
insn_made Ja32 x y z = insns.Ja32 (word_or_zero (operand_number x))
insn_made (JumpIf width test) x y z = insns.JumpIf width test (register_in x) (operand_source y) (short_in (operand_number z))
insn_made (Ldx size) x y z = insns.Ldx size (register_in x) (register_in y) (operand_offset y)
insn_made (Ldxs extension) x y z = insns.Ldxs extension (register_in x) (register_in y) (operand_offset y)
insn_made (St size) x y z = insns.St size (register_in x) (operand_offset x) (word_or_zero (operand_number y))
insn_made (Stx size) x y z = insns.Stx size (register_in x) (register_in y) (operand_offset x)
insn_made (Atomic width op) x y z = insns.AtomicUpdate width op (register_in x) (register_in y) (operand_offset x)
insn_made Lddw x y z = insns.Lddw (register_in x) (wide_in y)
insn_made Ldmap x y z = insns.Ldmap (register_in x) (word_or_zero (operand_number y))
insn_made Ldval x y z = insns.Ldval (register_in x) (word_or_zero (operand_number y)) (count_or_zero (operand_number z))
insn_made Call x y z = insns.CallHelper (word_or_zero (operand_number x))
insn_made Exit x y z = insns.Exit
