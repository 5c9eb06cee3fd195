-- The register fields of an encoding fit four bits.
use Rattle.std.proofs.Common.{◌≡◌, ◌<◌, [], ◌∷◌, subst, lit<}
use Rattle.isa.specs.declared.operation.Register.{Register}
use Rattle.isa.specs.declared.operation.Register.TheVariants.{R0}
use Rattle.isa.specs.declared.operation.SourceOperand.{SourceOperand}
use Rattle.isa.specs.declared.operation.SourceOperand.TheVariants.{Imm, Reg}
use Rattle.ebpf_decode.specs.declared.slot.CodeSlot.{CodeSlot}
use Rattle.ebpf_decode.specs.declared.insn.Insn.{Insn}
use Rattle.ebpf_decode.specs.declared.insn.Insn.TheVariants.{Alu, Neg, Movsx, Movsx32, End, Ja, Ja32, JumpIf, Ldx, Ldxs, St, Stx, AtomicUpdate, Lddw, Ldmap, Ldval, CallHelper, Exit}
use Rattle.isa.specs.InstructionCodes.{register_number}
use Rattle.ebpf_decode.specs.InstructionEncoding.{slot_of, more_slots_of, source_register}

pub register_small : (r : Register) → register_number r < 16
register_small R0 = lit< tt
register_small r = lit< tt

source_small : (source : SourceOperand) → source_register source < 16
source_small (Imm value) = lit< tt
source_small (Reg r) = register_small r

abbrev pub IsSmall : CodeSlot → Type 0
IsSmall s = (s.dst < 16) × (s.src < 16)

none : (0 < 16) × (0 < 16)
none = (lit< tt, lit< tt)

pub slot_small : (insn : Insn) → IsSmall (slot_of insn)
unfolding slot_of
slot_small (Alu width op dst source) = (register_small dst, source_small source)
slot_small (Neg width dst) = (register_small dst, lit< tt)
slot_small (Movsx extension dst src) = (register_small dst, register_small src)
slot_small (Movsx32 extension dst src) = (register_small dst, register_small src)
slot_small (End order swap_width dst) = (register_small dst, lit< tt)
slot_small (Ja distance) = (lit< tt, lit< tt)
slot_small (Ja32 distance) = (lit< tt, lit< tt)
slot_small (JumpIf width test dst source distance) = (register_small dst, source_small source)
slot_small (Ldx size dst src offset) = (register_small dst, register_small src)
slot_small (Ldxs extension dst src offset) = (register_small dst, register_small src)
slot_small (St size dst offset immediate) = (register_small dst, lit< tt)
slot_small (Stx size dst src offset) = (register_small dst, register_small src)
slot_small (AtomicUpdate width op dst src offset) = (register_small dst, register_small src)
slot_small (Lddw dst value) = (register_small dst, lit< tt)
slot_small (Ldmap dst map) = (register_small dst, lit< tt)
slot_small (Ldval dst map offset) = (register_small dst, lit< tt)
slot_small (CallHelper helper) = (lit< tt, lit< tt)
slot_small Exit = (lit< tt, lit< tt)

same_head : (a b : CodeSlot) → a ∷ [] ≡ b ∷ [] → a ≡ b
same_head a b e = cc

pub more_small : (insn : Insn) (s : CodeSlot) → more_slots_of insn ≡ s ∷ [] → IsSmall s
unfolding more_slots_of
more_small (Lddw dst value) s e = subst IsSmall (same_head _ s e) (lit< tt, lit< tt)
more_small (Ldmap dst map) s e = subst IsSmall (same_head _ s e) (lit< tt, lit< tt)
more_small (Ldval dst map offset) s e = subst IsSmall (same_head _ s e) (lit< tt, lit< tt)
more_small insn s e = absurd cc
