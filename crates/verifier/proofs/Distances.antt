-- Where an instruction jumps: what flows along a jump comes from an instruction that has a target.
use Rattle.std.proofs.Common.{◌≡◌, ℕ, ◌+◌, ◌==◌, true, false, ℤ, pos, negsuc, ◌+ℤ◌, List, Some, None, Ok, Err, refl, sym, ap}
use Rattle.isa.specs.declared.operation.Register.TheVariants.{R0}
use Rattle.ebpf_decode.specs.declared.insn.Insn.{Insn}
use Rattle.ebpf_decode.specs.declared.insn.Insn.TheVariants.{Alu, Neg, Movsx, Movsx32, End, Ja, Ja32, JumpIf, Ldx, Ldxs, St, Stx, AtomicUpdate, Lddw, Ldmap, Ldval, CallHelper, Exit}
use Rattle.ebpf_decode.specs.declared.map.MapDef.{MapDef}
use Rattle.ebpf_decode.specs.Jumps.{jump_distance, distance_of_jump, jump_target}
use Rattle.abstract_state.specs.declared.flow.Flow.{Flow}
use Rattle.abstract_state.specs.declared.flow.Flow.TheVariants.{Ends, Falls}
use Rattle.abstract_state.specs.declared.state.State.{State}
use Rattle.abstract_state.specs.States.{Checked, ◌>>=◌, kind_of}
use Rattle.abstract_state.specs.Flow.{reads, verdict_kind, falls, flow_of}
use Rattle.image_shape.specs.Layouts.{HasNoNegativeTarget}
use Rattle.verifier.specs.Dataflow.{is_at, is_target, jumps}

pub no_target : (slot : ℕ) (insn : Insn) → jump_distance insn ≡ None → jump_target slot insn ≡ None
no_target slot insn none = rw none refl

-- ---- what flows out of an instruction that is no jump

falls_on : (after : Checked State) (flow : Flow) → falls after ≡ Ok flow → jumps flow ≡ false
falls_on (Ok state) flow e = let is : flow ≡ Falls state = cc in rw is refl
falls_on (Err why) flow e = absurd cc

ends_so : (first second : Checked (Unit {0})) (flow : Flow) → (first >>= (λ _. second >>= (λ _. Ok Ends))) ≡ Ok flow → jumps flow ≡ false
ends_so (Ok one) (Ok two) flow e = let is : flow ≡ Ends = cc in rw is refl
ends_so (Ok one) (Err why) flow e = absurd cc
ends_so (Err why) second flow e = absurd cc

pub stays : (maps : List MapDef) (state : State) (slot : ℕ) (insn : Insn) (flow : Flow) → jump_distance insn ≡ None → flow_of maps state slot insn ≡ Ok flow → jumps flow ≡ false
unfolding jump_distance
stays maps state slot (Ja distance) flow none e = absurd cc
stays maps state slot (Ja32 distance) flow none e = absurd cc
stays maps state slot (JumpIf width test dst source distance) flow none e = absurd cc
stays maps state slot (Alu width op dst source) flow none e = falls_on _ flow e
stays maps state slot (Neg width dst) flow none e = falls_on _ flow e
stays maps state slot (Movsx extension dst src) flow none e = falls_on _ flow e
stays maps state slot (Movsx32 extension dst src) flow none e = falls_on _ flow e
stays maps state slot (End order width dst) flow none e = falls_on _ flow e
stays maps state slot (Lddw dst value) flow none e = falls_on _ flow e
stays maps state slot (Ldmap dst map) flow none e = falls_on _ flow e
stays maps state slot (Ldx size dst src offset) flow none e = falls_on _ flow e
stays maps state slot (Ldxs extension dst src offset) flow none e = falls_on _ flow e
stays maps state slot (St size dst offset immediate) flow none e = falls_on _ flow e
stays maps state slot (Stx size dst src offset) flow none e = falls_on _ flow e
stays maps state slot (AtomicUpdate width op dst src offset) flow none e = falls_on _ flow e
stays maps state slot (Ldval dst map offset) flow none e = falls_on _ flow e
stays maps state slot (CallHelper helper) flow none e = falls_on _ flow e
stays maps state slot Exit flow none e = ends_so (reads state R0) (verdict_kind (kind_of state R0)) flow e

-- ---- what flows along a jump

pub jump_goes : (maps : List MapDef) (state : State) (slot : ℕ) (insn : Insn) (flow : Flow) → flow_of maps state slot insn ≡ Ok flow → jumps flow ≡ true →
    jump_target slot insn ≡ Some (pos (slot + 1) +ℤ distance_of_jump insn)
unfolding jump_distance
jump_goes maps state slot (Ja distance) flow e is_jump = refl
jump_goes maps state slot (Ja32 distance) flow e is_jump = refl
jump_goes maps state slot (JumpIf width test dst source distance) flow e is_jump = refl
jump_goes maps state slot insn flow e is_jump = absurd (let quiet : jumps flow ≡ false = stays maps state slot insn flow refl e in cc)

-- ---- the target, as a slot

-- the target of a jump that is not below 0 is a slot, and the only one that the jump goes to
pub target_slot : (slot : ℕ) (insn : Insn) (target : ℤ) → HasNoNegativeTarget slot insn → jump_target slot insn ≡ Some target →
    (at : ℕ) × (target ≡ pos at) × ((other : ℕ) → (other == at) ≡ is_target slot insn other)
target_slot slot insn (pos at) up is = (at, refl, λ other. sym (ap (λ found. is_at found other) is))
target_slot slot insn (negsuc below) up is = absurd (up (negsuc below) is).le
