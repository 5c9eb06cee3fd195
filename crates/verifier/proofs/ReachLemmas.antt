-- Every instruction of an accepted program has an entry state: a path of edges leads to it, and something flows along each edge.
use Rattle.std.proofs.Common.{◌≡◌, inl, inr, ℕ, zero, suc, ◌+◌, ◌-◌, ◌<◌, Bool, true, false, pos, List, Option, Some, None, Ok, Err, refl, sym, subst, ◌∙◌, arith}
use Rattle.std.specs.Prelude.{IsSome, IsTrue}
use Rattle.ebpf_decode.specs.declared.version.Version.{Version}
use Rattle.ebpf_decode.specs.declared.insn.Insn.{Insn}
use Rattle.ebpf_decode.specs.declared.insn.Insn.TheVariants.{Ja, Ja32, JumpIf, Exit}
use Rattle.ebpf_decode.specs.declared.map.MapDef.{MapDef}
use Rattle.ebpf_decode.specs.InstructionEncoding.{total_slots}
use Rattle.isa.specs.declared.operation.Width.{Width}
use Rattle.isa.specs.declared.operation.Test.{Test}
use Rattle.isa.specs.declared.operation.Register.{Register}
use Rattle.isa.specs.declared.operation.SourceOperand.{SourceOperand}
use Rattle.semantics.specs.Program.{instruction_at}
use Rattle.ebpf_decode.specs.Jumps.{jump_distance}
use Rattle.verifier.proofs.Distances.{no_target}
use Rattle.image_shape.specs.Edges.{falls_through, IsEdge, is_begin, IsReachableSlot, reached_start, reached_along}
use Rattle.image_shape.proofs.shared.LawLemmas.{edges_go_up}
use Rattle.abstract_state.specs.declared.flow.Flow.{Flow}
use Rattle.abstract_state.specs.declared.flow.Flow.TheVariants.{Ends, Falls, Jumps, Splits}
use Rattle.abstract_state.specs.declared.state.State.{State}
use Rattle.abstract_state.specs.States.{Checked, ◌>>=◌, kind_of}
use Rattle.abstract_state.specs.Arithmetic.{source_kind}
use Rattle.abstract_state.specs.Refinement.{allowed_test, refine_state}
use Rattle.abstract_state.specs.Flow.{reads_both, test_flow, falls, flow_of}
use Rattle.abstract_state.proofs.shared.Inverting.{ok_value, ok_then}
use Rattle.verifier.specs.Dataflow.{known_at, join_known, joined_where, is_target, is_next, arriving, arriving_if, arriving_from, arrived, Accepts}
use Rattle.verifier.specs.Answers.{EachInstructionHasState}
use Rattle.verifier.proofs.ArrivalLemmas.{IsTaken, by_fall, by_jump, by_test, by_no_test}
use Rattle.verifier.proofs.InstructionLemmas.{begins_within, let_through}
use Rattle.verifier.proofs.shared.PlaceLemmas.{falls_there, jumps_there}

-- ---- one more edge takes nothing away

join_some : (known : Option State) (state : State) → IsSome (join_known known state)
join_some None state = refl
join_some (Some known) state = refl

where_stays : (there : Bool) (state : State) (known : Option State) → IsSome known → IsSome (joined_where there state known)
where_stays true state known some = join_some known state
where_stays false state known some = some

where_counts : (there : Bool) (state : State) (known : Option State) → there ≡ true → IsSome (joined_where there state known)
where_counts true state known e = join_some known state
where_counts false state known e = absurd cc

arriving_stays : (slot : ℕ) (insn : Insn) (target : ℕ) (flow : Flow) (known : Option State) → IsSome known → IsSome (arriving slot insn target flow known)
arriving_stays slot insn target Ends known some = some
arriving_stays slot insn target (Falls state) known some = where_stays (is_next slot insn target) state known some
arriving_stays slot insn target (Jumps state) known some = where_stays (is_target slot insn target) state known some
arriving_stays slot insn target (Splits taken fallen) known some =
    where_stays (is_next slot insn target) fallen (joined_where (is_target slot insn target) taken known)
    (where_stays (is_target slot insn target) taken known some)

-- and an edge that something flows along brings it
arriving_counts : (slot : ℕ) (insn : Insn) (target : ℕ) (state : State) (flow : Flow) (known : Option State) → IsTaken slot insn target state flow →
    IsSome (arriving slot insn target flow known)
arriving_counts slot insn target state Ends known taken = elim taken [ ]
arriving_counts slot insn target state (Falls state') known (by_fall e) = where_counts (is_next slot insn target) state known e
arriving_counts slot insn target state (Jumps state') known (by_jump e) = where_counts (is_target slot insn target) state known e
arriving_counts slot insn target state (Splits state' fallen) known (by_test fallen' e) =
    where_stays (is_next slot insn target) fallen (joined_where (is_target slot insn target) state known)
    (where_counts (is_target slot insn target) state known e)
arriving_counts slot insn target state (Splits taken state') known (by_no_test taken' e) =
    where_counts (is_next slot insn target) state (joined_where (is_target slot insn target) taken known) e

if_stays : (slot : ℕ) (insn : Insn) (target : ℕ) (after : Checked Flow) (known : Option State) → IsSome known → IsSome (arriving_if slot insn target after known)
if_stays slot insn target (Ok flow) known some = arriving_stays slot insn target flow known some
if_stays slot insn target (Err why) known some = some

from_stays : (maps : List MapDef) (slot : ℕ) (begins : Option Insn) (here : Option State) (target : ℕ) (known : Option State) → IsSome known →
    IsSome (arriving_from maps slot begins here target known)
from_stays maps slot (Some insn) (Some state) target known some = if_stays slot insn target (flow_of maps state slot insn) known some
from_stays maps slot (Some insn) None target known some = some
from_stays maps slot None here target known some = some

arrived_stays : (version : Version) (maps : List MapDef) (code : List Insn) (states : List (Option State)) (target start more : ℕ) → IsSome (arrived version maps code states target start) →
    IsSome (arrived version maps code states target (start + more))
arrived_stays version maps code states target start zero some = let e : start + zero ≡ start = omega arith in rw e some
arrived_stays version maps code states target start (suc more) some =
    let e : start + suc more ≡ suc (start + more) = omega arith
    in rw e (from_stays maps (start + more) (instruction_at code (start + more)) (known_at states (start + more)) target
    (arrived version maps code states target (start + more)) (arrived_stays version maps code states target start more some))

-- ---- something flows along each edge

-- what flows along an edge out of an instruction
pub record Flows (slot : ℕ) (insn : Insn) (target : ℕ) (flow : Flow) : Type 0 where
  pub there : State
  pub taken : IsTaken slot insn target there flow

falls_is : (after : Checked State) (flow : Flow) → falls after ≡ Ok flow → (state : State) × (Falls state ≡ flow)
falls_is (Ok state) flow e = (state, ok_value (Falls state) flow e)
falls_is (Err why) flow e = absurd cc

-- out of an instruction that doesn't jump
falls_along : (slot : ℕ) (insn : Insn) (target : ℕ) (after : Checked State) (flow : Flow) → falls after ≡ Ok flow → jump_distance insn ≡ None → IsEdge slot insn target →
    Flows slot insn target flow
falls_along slot insn target after flow e none (inl fall) =
    let is = falls_is after flow e in record { there = is.0; taken = subst (IsTaken slot insn target is.0) is.1 (by_fall (falls_there slot insn target fall.1)) }
falls_along slot insn target after flow e none (inr jump) = absurd (let some : None ≡ Some (pos target) = sym (no_target slot insn none) ∙ jump in cc)

-- out of one that only jumps
jumps_along : (slot : ℕ) (insn : Insn) (target : ℕ) (state : State) (flow : Flow) → Jumps state ≡ flow → falls_through insn ≡ false → IsEdge slot insn target →
    Flows slot insn target flow
jumps_along slot insn target state flow e none (inl fall) = absurd (let some : falls_through insn ≡ true = fall.0 in cc)
jumps_along slot insn target state flow e none (inr jump) =
    record { there = state; taken = subst (IsTaken slot insn target state) e (by_jump (jumps_there slot insn target jump)) }

-- out of one that does either
splits_along : (slot : ℕ) (insn : Insn) (target : ℕ) (taken fallen : State) (flow : Flow) → Splits taken fallen ≡ flow → IsEdge slot insn target → Flows slot insn target flow
splits_along slot insn target taken fallen flow e (inl fall) =
    record { there = fallen; taken = subst (IsTaken slot insn target fallen) e (by_no_test taken (falls_there slot insn target fall.1)) }
splits_along slot insn target taken fallen flow e (inr jump) =
    record { there = taken; taken = subst (IsTaken slot insn target taken) e (by_test fallen (jumps_there slot insn target jump)) }

test_splits : (state : State) (width : Width) (test : Test) (dst : Register) (source : SourceOperand) (flow : Flow) → test_flow state width test dst source ≡ Ok flow →
    Splits (refine_state state width test dst source true) (refine_state state width test dst source false) ≡ flow
test_splits state width test dst source flow e =
    let read = ok_then (reads_both state dst source) (λ _. allowed_test width test (kind_of state dst) (source_kind state source) dst source >>=
    (λ _. Ok (Splits (refine_state state width test dst source true) (refine_state state width test dst source false)))) flow e
    in let allowed = ok_then (allowed_test width test (kind_of state dst) (source_kind state source) dst source)
    (λ _. Ok (Splits (refine_state state width test dst source true) (refine_state state width test dst source false))) flow read.next
    in ok_value (Splits (refine_state state width test dst source true) (refine_state state width test dst source false)) flow allowed.next

no_edge : (slot target : ℕ) → IsEdge slot Exit target → ⊥
unfolding jump_distance falls_through
no_edge slot target (inl fall) = absurd (let some : false ≡ true = fall.0 in cc)
no_edge slot target (inr jump) = absurd (let some : None ≡ Some (pos target) = jump in cc)

flows_along : (maps : List MapDef) (state : State) (slot : ℕ) (insn : Insn) (target : ℕ) (flow : Flow) → flow_of maps state slot insn ≡ Ok flow → IsEdge slot insn target →
    Flows slot insn target flow
unfolding jump_distance falls_through
flows_along maps state slot (Ja distance) target flow e edge = jumps_along slot (Ja distance) target state flow (ok_value (Jumps state) flow e) refl edge
flows_along maps state slot (Ja32 distance) target flow e edge = jumps_along slot (Ja32 distance) target state flow (ok_value (Jumps state) flow e) refl edge
flows_along maps state slot (JumpIf width test dst source distance) target flow e edge =
    splits_along slot (JumpIf width test dst source distance) target (refine_state state width test dst source true) (refine_state state width test dst source false) flow
    (test_splits state width test dst source flow e) edge
flows_along maps state slot Exit target flow e edge = absurd (no_edge slot target edge)
flows_along maps state slot insn target flow e edge = falls_along slot insn target _ flow e refl edge

-- ---- along a path

some_is : (known : Option State) → IsSome known → (state : State) × (known ≡ Some state)
some_is (Some state) some = (state, refl)
some_is None some = absurd cc

known_along : (version : Version) (maps : List MapDef) (code : List Insn) (states : List (Option State)) (from : ℕ) (insn : Insn) (target : ℕ) → Accepts version maps code states →
    instruction_at code from ≡ Some insn → IsEdge from insn target → IsSome (known_at states from) → IsSome (known_at states target)
known_along version maps code states from insn target accepted found edge some =
    let here = some_is (known_at states from) some
    in let through = let_through (flow_of maps here.0 from insn) (accepted.passes from insn here.0 found here.1)
    in let flows = flows_along maps here.0 from insn target through.0 through.1 edge
    in let up = edges_go_up code from insn target accepted.shape found edge
    in let first : IsSome (arrived version maps code states target (suc from)) =
    rw (found, here.1, through.1) (arriving_counts from insn target flows.there through.0 (arrived version maps code states target from) flows.taken)
    in let e : target ≡ suc from + (target - suc from) = omega (arith, up.0)
    in rw (accepted.entry target (begins_within code target up.1))
    (subst (λ end. IsSome (arrived version maps code states target end)) (sym e) (arrived_stays version maps code states target (suc from) (target - suc from) first))

known_if_reached : (version : Version) (maps : List MapDef) (code : List Insn) (states : List (Option State)) (slot : ℕ) → Accepts version maps code states → 0 < total_slots code → IsReachableSlot code slot →
    IsSome (known_at states slot)
known_if_reached version maps code states slot accepted some_code reached_start = rw (accepted.entry 0 some_code) refl
known_if_reached version maps code states slot accepted some_code (reached_along from insn target path found edge) =
    known_along version maps code states from insn target accepted found edge (known_if_reached version maps code states from accepted some_code path)

pub each_has_state : EachInstructionHasState
each_has_state version maps code states slot insn accepted found =
    let begins : IsTrue (is_begin code slot) = rw found refl
    in let within : slot < total_slots code = begins_within code slot begins
    in known_if_reached version maps code states slot accepted (omega arith) (accepted.shape.reachable slot begins)
