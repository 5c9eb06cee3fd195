-- A place in a run at which what is known is sound: the instruction there does not trap, and where the run goes on, what is known is
-- sound again. Nothing is said of other runs, nor of who holds which cell.
use Rattle.std.proofs.Common.{◌≡◌, inl, inr, ℕ, ◌+◌, ◌<◌, ◌≤◌, ◌==◌, true, pos, List, Option, Some, Ok, Err, IsTrue, refl, sym, ap, subst, ◌∙◌, arith}
use Rattle.std.specs.Prelude.{◌+ℤ◌}
use Rattle.std.specs.List.{AllByRecursion}
use Rattle.std.proofs.lemmas.Bool.Decides.{nat_tests}
use Rattle.ebpf_decode.specs.declared.version.Version.{Version}
use Rattle.ebpf_decode.specs.declared.insn.Insn.{Insn}
use Rattle.ebpf_decode.specs.declared.insn.Insn.TheVariants.{Lddw, Ldmap, Ldval}
use Rattle.ebpf_decode.specs.declared.map.MapDef.{MapDef}
use Rattle.ebpf_decode.specs.ImageContents.{IsEncodable}
use Rattle.ebpf_decode.specs.InstructionEncoding.{slot_count, total_slots, FieldsFit}
use Rattle.ebpf_decode.specs.Jumps.{distance_of_jump, jump_target}
use Rattle.semantics.specs.declared.call.Call.{Call}
use Rattle.semantics.specs.declared.call.Reply.{Reply}
use Rattle.semantics.specs.MachineState.{MachineState}
use Rattle.semantics.specs.PlanLimits.{HasImageSizes}
use Rattle.semantics.proofs.shared.ImageSizes.{image_sizes}
use Rattle.semantics.specs.Program.{Program, instruction_at}
use Rattle.semantics.specs.Step.{Continues, CallsMap}
use Rattle.semantics.specs.Semantics.{next_step}
use Rattle.semantics.specs.RunTrace.{IsReplyTo}
use Rattle.abstract_state.specs.declared.flow.Flow.{Flow}
use Rattle.abstract_state.specs.declared.flow.Flow.TheVariants.{Ends, Falls, Jumps, Splits}
use Rattle.abstract_state.specs.declared.state.State.{State}
use Rattle.abstract_state.specs.States.{Checked}
use Rattle.abstract_state.specs.Flow.{falls, flow_of}
use Rattle.abstract_state.specs.Abstraction.{Held, Abstracts}
use Rattle.abstract_state.specs.Soundness.{IsShaped, HoldsAfter, GoesOnAt, Lands, JumpsForward, Follows}
use Rattle.abstract_state.proofs.shared.FlowLaw.{flow_sound}
use Rattle.image_shape.specs.Edges.{IsEdge, is_begin}
use Rattle.image_shape.specs.Runs.{GoesTo}
use Rattle.image_shape.proofs.shared.LawLemmas.{edges_go_up}
use Rattle.image_shape.proofs.shared.RunLemmas.{runs_follow_edges}
use Rattle.verifier.specs.Dataflow.{known_at, is_at, is_target, is_next, Accepts}
use Rattle.verifier.proofs.Distances.{jump_goes}
use Rattle.verifier.proofs.SweepLemmas.{forward}
use Rattle.verifier.proofs.ArrivalLemmas.{IsWhole, whole_below, IsSoundAt, IsTaken, by_fall, by_jump, by_test, by_no_test, sound_there}
use Rattle.verifier.proofs.InstructionLemmas.{fields_here, begins_within, begun, let_through}

-- the fields of the instructions hold their numbers, and the maps have sizes that the image format allows
abbrev pub PartsFit : List MapDef → List Insn → Type 0
PartsFit maps code = AllByRecursion FieldsFit code × AllByRecursion HasImageSizes maps

pub parts_fit : (version : Version) (maps : List MapDef) (code : List Insn) → IsEncodable version maps code → PartsFit maps code
parts_fit version maps code encodable = (encodable.fields_fit, image_sizes version maps encodable.maps_allowed)

-- what is known at the run's slot is sound for it, for the cells that are held
pub record IsSoundPlace (maps : List MapDef) (code : List Insn) (states : List (Option State)) (held : Held) (machine : MachineState) : Type 0 where
  pub known : State
  pub at : known_at states machine.slot ≡ Some known
  pub begins : IsTrue (is_begin code machine.slot)
  pub sound : Abstracts maps held known machine
  pub few : machine.steps ≤ machine.slot

-- such a place, further up, one instruction later
pub record IsNextPlace (maps : List MapDef) (code : List Insn) (states : List (Option State)) (held : Held) (before after : MachineState) : Type 0 where
  pub place : IsSoundPlace maps code states held after
  pub counted : after.steps ≡ before.steps + 1
  pub up : before.slot < after.slot

-- ---- the instruction at such a place

pub record Here (program : Program) (held : Held) (state : MachineState) (known : State) : Type 0 where
  pub insn : Insn
  pub found : instruction_at program.code state.slot ≡ Some insn
  pub within : state.slot < total_slots program.code
  pub shaped : IsShaped known
  pub fits : FieldsFit insn
  pub jumps : JumpsForward insn
  pub flow : Flow
  pub flows : flow_of program.maps known state.slot insn ≡ Ok flow
  pub follows : Follows program held flow state insn (next_step program state)

-- where the instruction that is there leads
leads : (program : Program) (held : Held) (state : MachineState) (known : State) (insn : Insn) (flow : Flow) → IsShaped known → Abstracts program.maps held known state →
    AllByRecursion HasImageSizes program.maps → FieldsFit insn → JumpsForward insn → instruction_at program.code state.slot ≡ Some insn → flow_of program.maps known state.slot insn ≡ Ok flow →
    Follows program held flow state insn (next_step program state)
leads program held state known insn flow shaped sound sizes fits jumps found flows =
    rw found (flow_sound program held known state insn flow shaped sound sizes fits jumps flows)

pub here_of : (version : Version) (program : Program) (states : List (Option State)) (held : Held) (state : MachineState) → Accepts version program.maps program.code states →
    PartsFit program.maps program.code → (place : IsSoundPlace program.maps program.code states held state) → Here program held state place.known
here_of version program states held state accepted all_fit place =
    let here = begun (instruction_at program.code state.slot) place.begins
    in let within : state.slot < total_slots program.code = begins_within program.code state.slot place.begins
    in let through = let_through (flow_of program.maps place.known state.slot here.0) (accepted.passes state.slot here.0 place.known here.1 place.at)
    in let whole : IsWhole (known_at states state.slot) =
    whole_below version program.maps program.code states (total_slots program.code) (total_slots program.code) accepted.entry (omega arith) state.slot within
    in let shaped : IsShaped place.known = subst IsWhole place.at whole
    in let fits : FieldsFit here.0 = fields_here program.code state.slot here.0 all_fit.0 here.1
    in let jumps : JumpsForward here.0 = forward program.code state.slot here.0 accepted.shape here.1
    in record {
      insn = here.0;
      found = here.1;
      within = within;
      shaped = shaped;
      fits = fits;
      jumps = jumps;
      flow = through.0;
      flows = through.1;
      follows = leads program held state place.known here.0 through.0 shaped place.sound all_fit.1 fits jumps here.1 through.1;
    }

-- ---- along one edge

-- what flows along the edge that a run took is sound for it
pub record Arrives (maps : List MapDef) (held : Held) (state : MachineState) (insn : Insn) (flow : Flow) (next : MachineState) : Type 0 where
  pub there : State
  pub taken : IsTaken state.slot insn next.slot there flow
  pub sound : Abstracts maps held there next
  pub counted : next.steps ≡ state.steps + 1

lands_soundly : (version : Version) (maps : List MapDef) (code : List Insn) (states : List (Option State)) (held' : Held) (state : MachineState) (insn : Insn) (here : State) (flow : Flow) (st : State) (next : MachineState) →
    Accepts version maps code states → instruction_at code state.slot ≡ Some insn → known_at states state.slot ≡ Some here → flow_of maps here state.slot insn ≡ Ok flow →
    state.steps ≤ state.slot → IsEdge state.slot insn next.slot → IsTaken state.slot insn next.slot st flow → Abstracts maps held' st next → next.steps ≡ state.steps + 1 →
    IsNextPlace maps code states held' state next
lands_soundly version maps code states held' state insn here flow st next accepted found at flows few edge taken sound counted =
    let up = edges_go_up code state.slot insn next.slot accepted.shape found edge
    in let there : IsSoundAt maps held' next (known_at states next.slot) =
    sound_there version maps held' next code states state.slot insn here next.slot st flow accepted.entry found at flows up.0
    (begins_within code next.slot up.1) taken sound
    in record {
      place = record { known = there.state; at = there.is; begins = up.1; sound = there.sound; few = omega (arith, up.0, counted, few) };
      counted = counted;
      up = up.0;
    }

-- ---- which edge a step takes

same_true : (a b : ℕ) → a ≡ b → (a == b) ≡ true
same_true a b h = grind (arith, nat_tests)

pub falls_there : (slot : ℕ) (insn : Insn) (target : ℕ) → target ≡ slot + slot_count insn → is_next slot insn target ≡ true
falls_there slot insn target e = same_true target (slot + slot_count insn) e

pub jumps_there : (slot : ℕ) (insn : Insn) (target : ℕ) → jump_target slot insn ≡ Some (pos target) → is_target slot insn target ≡ true
jumps_there slot insn target e = subst (λ place. is_at place target ≡ true) (sym e) (same_true target target refl)

-- only a conditional jump splits, and it takes one slot
no_split : (first : Checked State) (taken fallen : State) → falls first ≡ Ok (Splits taken fallen) → ⊥
no_split (Ok state) taken fallen e = absurd cc
no_split (Err why) taken fallen e = absurd cc

splits_in_one : (maps : List MapDef) (state : State) (slot : ℕ) (insn : Insn) (taken fallen : State) → flow_of maps state slot insn ≡ Ok (Splits taken fallen) → slot_count insn ≡ 1
unfolding slot_count
splits_in_one maps state slot (Lddw dst value) taken fallen e = absurd (no_split _ taken fallen e)
splits_in_one maps state slot (Ldmap dst map) taken fallen e = absurd (no_split _ taken fallen e)
splits_in_one maps state slot (Ldval dst map offset) taken fallen e = absurd (no_split _ taken fallen e)
splits_in_one maps state slot insn taken fallen e = refl

falls_arrive : (maps : List MapDef) (held : Held) (state : MachineState) (insn : Insn) (there : State) (next : MachineState) →
    GoesOnAt maps held there state next (state.slot + slot_count insn) → Arrives maps held state insn (Falls there) next
falls_arrive maps held state insn there next on =
    record { there = there; taken = by_fall (falls_there state.slot insn next.slot on.at); sound = on.sound; counted = on.counted }

-- the instruction's target counts its distance from the next slot
abbrev HasTarget : MachineState → Insn → Type 0
HasTarget state insn = jump_target state.slot insn ≡ Some (pos (state.slot + 1) +ℤ distance_of_jump insn)

target_there : (maps : List MapDef) (held : Held) (state : MachineState) (insn : Insn) (there : State) (next : MachineState) → HasTarget state insn →
    (lands : Lands maps held there state next (distance_of_jump insn)) → is_target state.slot insn next.slot ≡ true
target_there maps held state insn there next goes lands =
    subst (λ slot. is_target state.slot insn slot ≡ true) (sym lands.goes_on.at) (jumps_there state.slot insn lands.slot (goes ∙ ap Some (sym lands.target)))

jumps_arrive : (maps : List MapDef) (held : Held) (state : MachineState) (insn : Insn) (there : State) (next : MachineState) → HasTarget state insn →
    Lands maps held there state next (distance_of_jump insn) → Arrives maps held state insn (Jumps there) next
jumps_arrive maps held state insn there next goes lands =
    record { there = there; taken = by_jump (target_there maps held state insn there next goes lands); sound = lands.goes_on.sound; counted = lands.goes_on.counted }

taken_arrives : (maps : List MapDef) (held : Held) (state : MachineState) (insn : Insn) (taken fallen : State) (next : MachineState) → HasTarget state insn →
    Lands maps held taken state next (distance_of_jump insn) → Arrives maps held state insn (Splits taken fallen) next
taken_arrives maps held state insn taken fallen next goes lands =
    record { there = taken; taken = by_test fallen (target_there maps held state insn taken next goes lands); sound = lands.goes_on.sound; counted = lands.goes_on.counted }

fallen_arrives : (maps : List MapDef) (held : Held) (state : MachineState) (insn : Insn) (taken fallen : State) (next : MachineState) → slot_count insn ≡ 1 →
    GoesOnAt maps held fallen state next (state.slot + 1) → Arrives maps held state insn (Splits taken fallen) next
fallen_arrives maps held state insn taken fallen next one on =
    record { there = fallen; taken = by_no_test taken (falls_there state.slot insn next.slot (let at : next.slot ≡ state.slot + 1 = on.at in omega (arith, one))); sound = on.sound; counted = on.counted }

-- where a run goes on without a call
goes_on : (program : Program) (held : Held) (known : State) (state : MachineState) (insn : Insn) (flow : Flow) (next : MachineState) →
    flow_of program.maps known state.slot insn ≡ Ok flow → Follows program held flow state insn (Continues next) → Arrives program.maps held state insn flow next
goes_on program held known state insn Ends next flows follows = absurd follows
goes_on program held known state insn (Falls there) next flows follows = falls_arrive program.maps held state insn there next follows
goes_on program held known state insn (Jumps there) next flows follows =
    jumps_arrive program.maps held state insn there next (jump_goes program.maps known state.slot insn (Jumps there) flows refl) follows
goes_on program held known state insn (Splits taken fallen) next flows (inl lands) =
    taken_arrives program.maps held state insn taken fallen next (jump_goes program.maps known state.slot insn (Splits taken fallen) flows refl) lands
goes_on program held known state insn (Splits taken fallen) next flows (inr on) =
    fallen_arrives program.maps held state insn taken fallen next (splits_in_one program.maps known state.slot insn taken fallen flows) on

-- and after a reply
goes_on_by : (program : Program) (held : Held) (state : MachineState) (insn : Insn) (flow : Flow) (call : Call) (go : Reply → MachineState) →
    Follows program held flow state insn (CallsMap call go) → (reply : Reply) → IsReplyTo program call reply → (held' : Held) → HoldsAfter program held held' call reply →
    Arrives program.maps held' state insn flow (go reply)
goes_on_by program held state insn Ends call go follows reply is held' after = absurd follows
goes_on_by program held state insn (Falls there) call go follows reply is held' after =
    falls_arrive program.maps held' state insn there (go reply) (follows.1 reply is held' after)
goes_on_by program held state insn (Jumps there) call go follows reply is held' after = absurd follows
goes_on_by program held state insn (Splits taken fallen) call go follows reply is held' after = absurd follows

-- ---- where it goes on

-- over an instruction that calls nothing
pub continues_there : (version : Version) (program : Program) (states : List (Option State)) (held : Held) (state next : MachineState) → Accepts version program.maps program.code states →
    PartsFit program.maps program.code → IsSoundPlace program.maps program.code states held state → next_step program state ≡ Continues next →
    IsNextPlace program.maps program.code states held state next
continues_there version program states held state next accepted all_fit place steps =
    let here : Here program held state place.known = here_of version program states held state accepted all_fit place
    in let arrives : Arrives program.maps held state here.insn here.flow next =
    goes_on program held place.known state here.insn here.flow next here.flows (subst (Follows program held here.flow state here.insn) steps here.follows)
    in let edge : IsEdge state.slot here.insn next.slot = subst (GoesTo (IsEdge state.slot here.insn)) steps (runs_follow_edges program state here.insn here.found)
    in lands_soundly version program.maps program.code states held state here.insn place.known here.flow arrives.there next accepted here.found place.at here.flows place.few
    edge arrives.taken arrives.sound arrives.counted

-- over a call, for each reply to it
pub answered_there : (version : Version) (program : Program) (states : List (Option State)) (held : Held) (state : MachineState) (call : Call) (go : Reply → MachineState) →
    Accepts version program.maps program.code states → PartsFit program.maps program.code → IsSoundPlace program.maps program.code states held state →
    next_step program state ≡ CallsMap call go → (reply : Reply) → IsReplyTo program call reply → (held' : Held) → HoldsAfter program held held' call reply →
    IsNextPlace program.maps program.code states held' state (go reply)
answered_there version program states held state call go accepted all_fit place steps reply is held' after =
    let here : Here program held state place.known = here_of version program states held state accepted all_fit place
    in let arrives : Arrives program.maps held' state here.insn here.flow (go reply) =
    goes_on_by program held state here.insn here.flow call go (subst (Follows program held here.flow state here.insn) steps here.follows) reply is held' after
    in let edges : GoesTo (IsEdge state.slot here.insn) (CallsMap call go) =
    subst (GoesTo (IsEdge state.slot here.insn)) steps (runs_follow_edges program state here.insn here.found)
    in lands_soundly version program.maps program.code states held' state here.insn place.known here.flow arrives.there (go reply) accepted here.found place.at here.flows place.few
    (edges reply) arrives.taken arrives.sound arrives.counted
