-- What flows along an edge is sound at the slot where it leads, whatever else is joined to it there.
use Rattle.std.proofs.Common.{◌≡◌, ◌⊎◌, inl, inr, ℕ, zero, suc, ◌+◌, ◌<◌, ◌≤◌, ◌-◌, Bool, true, false, List, Option, Some, None, Ok, Err, refl, sym, subst, arith}
use Rattle.std.specs.Prelude.{if◌then◌else◌, ◌==◌}
use Rattle.ebpf_decode.specs.declared.version.Version.{Version}
use Rattle.ebpf_decode.specs.declared.insn.Insn.{Insn}
use Rattle.ebpf_decode.specs.declared.map.MapDef.{MapDef}
use Rattle.ebpf_decode.specs.InstructionEncoding.{total_slots}
use Rattle.semantics.specs.MachineState.{MachineState}
use Rattle.semantics.specs.Program.{instruction_at}
use Rattle.abstract_state.specs.declared.flow.Flow.{Flow}
use Rattle.abstract_state.specs.declared.flow.Flow.TheVariants.{Ends, Falls, Jumps, Splits}
use Rattle.abstract_state.specs.declared.state.State.{State}
use Rattle.abstract_state.specs.States.{Checked, opening_state}
use Rattle.abstract_state.specs.Join.{join_of}
use Rattle.abstract_state.specs.Flow.{flow_of}
use Rattle.abstract_state.specs.Abstraction.{Held, Abstracts}
use Rattle.abstract_state.specs.Soundness.{IsShaped, FlowIsShaped}
use Rattle.abstract_state.proofs.shared.Shapes.{states_shaped}
use Rattle.abstract_state.proofs.shared.JoinStates.{join_sound}
use Rattle.verifier.specs.Dataflow.{AreEntryStates, known_at, join_known, joined_where, is_target, is_next, arriving, arriving_if, arriving_from, arrived}

-- what is known, if anything, has its shape
abbrev pub IsWhole : Option State → Type 0
IsWhole (Some state) = IsShaped state
IsWhole None = Unit {0}

-- what is known is sound for the run's state
pub record IsSoundAt (maps : List MapDef) (held : Held) (machine : MachineState) (known : Option State) : Type 0 where
  pub state : State
  pub is : known ≡ Some state
  pub sound : Abstracts maps held state machine

-- ---- shapes

join_whole : (known : Option State) (state : State) → IsWhole known → IsShaped state → IsWhole (join_known known state)
join_whole None state h k = k
join_whole (Some known) state h k = states_shaped.joined known state h k

where_whole : (there : Bool) (state : State) (known : Option State) → IsWhole known → IsShaped state → IsWhole (joined_where there state known)
where_whole true state known h k = join_whole known state h k
where_whole false state known h k = h

arriving_whole : (slot : ℕ) (insn : Insn) (target : ℕ) (flow : Flow) (known : Option State) → FlowIsShaped flow → IsWhole known →
    IsWhole (arriving slot insn target flow known)
arriving_whole slot insn target Ends known k h = h
arriving_whole slot insn target (Falls state) known k h = where_whole (is_next slot insn target) state known h k
arriving_whole slot insn target (Jumps state) known k h = where_whole (is_target slot insn target) state known h k
arriving_whole slot insn target (Splits taken fallen) known k h =
    where_whole (is_next slot insn target) fallen (joined_where (is_target slot insn target) taken known)
    (where_whole (is_target slot insn target) taken known h k.0) k.1

if_whole : (maps : List MapDef) (slot : ℕ) (insn : Insn) (state : State) (target : ℕ) (after : Checked Flow) (known : Option State) →
    flow_of maps state slot insn ≡ after → IsShaped state → IsWhole known → IsWhole (arriving_if slot insn target after known)
if_whole maps slot insn state target (Ok flow) known same k h =
    arriving_whole slot insn target flow known (states_shaped.flowed maps state slot insn flow k same) h
if_whole maps slot insn state target (Err why) known same k h = h

from_whole : (maps : List MapDef) (slot : ℕ) (begins : Option Insn) (here : Option State) (target : ℕ) (known : Option State) → IsWhole here → IsWhole known →
    IsWhole (arriving_from maps slot begins here target known)
from_whole maps slot (Some insn) (Some state) target known k h = if_whole maps slot insn state target (flow_of maps state slot insn) known refl k h
from_whole maps slot (Some insn) None target known k h = h
from_whole maps slot None here target known k h = h

opening_whole : (version : Version) (there : Bool) → IsWhole (if there then Some (opening_state version) else None)
opening_whole version true = states_shaped.opening version
opening_whole version false = tt

pub arrived_whole : (version : Version) (maps : List MapDef) (code : List Insn) (states : List (Option State)) (target end : ℕ) →
    ((slot : ℕ) → slot < end → IsWhole (known_at states slot)) → IsWhole (arrived version maps code states target end)
arrived_whole version maps code states target zero h = opening_whole version (target == 0)
arrived_whole version maps code states target (suc end) h =
    from_whole maps end (instruction_at code end) (known_at states end) target (arrived version maps code states target end) (h end (omega arith))
    (arrived_whole version maps code states target end (λ slot k. h slot (omega arith)))

-- by the slots in turn: what is known at each is what arrives from those below it
pub whole_below : (version : Version) (maps : List MapDef) (code : List Insn) (states : List (Option State)) (total bound : ℕ) → AreEntryStates version maps code states total → bound ≤ total →
    (slot : ℕ) → slot < bound → IsWhole (known_at states slot)
whole_below version maps code states total zero entry h slot k = absurd (omega arith)
whole_below version maps code states total (suc bound) entry h slot k =
    rw (entry slot (omega arith)) (arrived_whole version maps code states slot slot (λ below g. whole_below version maps code states total bound entry (omega arith) below (omega arith)))

-- ---- soundness

join_sound_at : (maps : List MapDef) (held : Held) (machine : MachineState) (known : Option State) (state : State) → IsWhole known → IsShaped state →
    IsSoundAt maps held machine known ⊎ Abstracts maps held state machine → IsSoundAt maps held machine (join_known known state)
join_sound_at maps held machine None state h k (inl one) = let none : None ≡ Some one.state = one.is in absurd cc
join_sound_at maps held machine None state h k (inr sound) = record { state = state; is = refl; sound = sound }
join_sound_at maps held machine (Some known) state h k (inl one) =
    let same : known ≡ one.state = (let e : Some known ≡ Some one.state = one.is in cc)
    in record {
      state = join_of known state;
      is = refl;
      sound = join_sound maps held known state machine h.eleven k.eleven h.words k.words (inl (rw same one.sound));
    }
join_sound_at maps held machine (Some known) state h k (inr sound) = record {
  state = join_of known state;
  is = refl;
  sound = join_sound maps held known state machine h.eleven k.eleven h.words k.words (inr sound);
}

-- one more edge takes nothing away
where_stays : (maps : List MapDef) (held : Held) (machine : MachineState) (there : Bool) (known : Option State) (state : State) → IsWhole known → IsShaped state →
    IsSoundAt maps held machine known → IsSoundAt maps held machine (joined_where there state known)
where_stays maps held machine true known state h k sound = join_sound_at maps held machine known state h k (inl sound)
where_stays maps held machine false known state h k sound = sound

-- and the edge that a run took is counted
where_counts : (maps : List MapDef) (held : Held) (machine : MachineState) (there : Bool) (known : Option State) (state : State) → there ≡ true → IsWhole known → IsShaped state →
    Abstracts maps held state machine → IsSoundAt maps held machine (joined_where there state known)
where_counts maps held machine true known state e h k sound = join_sound_at maps held machine known state h k (inr sound)
where_counts maps held machine false known state e h k sound = absurd cc

arriving_stays : (maps : List MapDef) (held : Held) (machine : MachineState) (slot : ℕ) (insn : Insn) (target : ℕ) (flow : Flow) (known : Option State) →
    FlowIsShaped flow → IsWhole known → IsSoundAt maps held machine known → IsSoundAt maps held machine (arriving slot insn target flow known)
arriving_stays maps held machine slot insn target Ends known k h sound = sound
arriving_stays maps held machine slot insn target (Falls state) known k h sound = where_stays maps held machine (is_next slot insn target) known state h k sound
arriving_stays maps held machine slot insn target (Jumps state) known k h sound = where_stays maps held machine (is_target slot insn target) known state h k sound
arriving_stays maps held machine slot insn target (Splits taken fallen) known k h sound =
    where_stays maps held machine (is_next slot insn target) (joined_where (is_target slot insn target) taken known) fallen
    (where_whole (is_target slot insn target) taken known h k.0) k.1
    (where_stays maps held machine (is_target slot insn target) known taken h k.0 sound)

if_stays : (maps : List MapDef) (held : Held) (machine : MachineState) (slot : ℕ) (insn : Insn) (state : State) (target : ℕ) (after : Checked Flow) (known : Option State) →
    flow_of maps state slot insn ≡ after → IsShaped state → IsWhole known → IsSoundAt maps held machine known →
    IsSoundAt maps held machine (arriving_if slot insn target after known)
if_stays maps held machine slot insn state target (Ok flow) known same k h sound =
    arriving_stays maps held machine slot insn target flow known (states_shaped.flowed maps state slot insn flow k same) h sound
if_stays maps held machine slot insn state target (Err why) known same k h sound = sound

from_stays : (maps : List MapDef) (held : Held) (machine : MachineState) (slot : ℕ) (begins : Option Insn) (here : Option State) (target : ℕ) (known : Option State) →
    IsWhole here → IsWhole known → IsSoundAt maps held machine known → IsSoundAt maps held machine (arriving_from maps slot begins here target known)
from_stays maps held machine slot (Some insn) (Some state) target known k h sound =
    if_stays maps held machine slot insn state target (flow_of maps state slot insn) known refl k h sound
from_stays maps held machine slot (Some insn) None target known k h sound = sound
from_stays maps held machine slot None here target known k h sound = sound

-- what arrived from some slots stays sound whatever the further slots bring
arrived_stays : (version : Version) (maps : List MapDef) (held : Held) (machine : MachineState) (code : List Insn) (states : List (Option State)) (target start more : ℕ) →
    ((slot : ℕ) → slot < start + more → IsWhole (known_at states slot)) → IsSoundAt maps held machine (arrived version maps code states target start) →
    IsSoundAt maps held machine (arrived version maps code states target (start + more))
arrived_stays version maps held machine code states target start zero h sound = let e : start + zero ≡ start = omega arith in rw e sound
arrived_stays version maps held machine code states target start (suc more) h sound =
    let e : start + suc more ≡ suc (start + more) = omega arith
    in rw e (from_stays maps held machine (start + more) (instruction_at code (start + more)) (known_at states (start + more)) target
    (arrived version maps code states target (start + more)) (h (start + more) (omega arith))
    (arrived_whole version maps code states target (start + more) (λ slot k. h slot (omega arith)))
    (arrived_stays version maps held machine code states target start more (λ slot k. h slot (omega arith)) sound))

-- ---- the edge that a run takes

-- one of the edges out of an instruction, with what flows along it
pub data IsTaken (slot : ℕ) (insn : Insn) (target : ℕ) (state : State) : Flow → Type 0 where
  by_fall : is_next slot insn target ≡ true → IsTaken slot insn target state (Falls state)
  by_jump : is_target slot insn target ≡ true → IsTaken slot insn target state (Jumps state)
  by_test : (fallen : State) → is_target slot insn target ≡ true → IsTaken slot insn target state (Splits state fallen)
  by_no_test : (taken : State) → is_next slot insn target ≡ true → IsTaken slot insn target state (Splits taken state)

pub arriving_counts : (maps : List MapDef) (held : Held) (machine : MachineState) (slot : ℕ) (insn : Insn) (target : ℕ) (state : State) (flow : Flow) (known : Option State) →
    FlowIsShaped flow → IsWhole known → IsTaken slot insn target state flow → Abstracts maps held state machine →
    IsSoundAt maps held machine (arriving slot insn target flow known)
arriving_counts maps held machine slot insn target state Ends known k h taken sound = elim taken [ ]
arriving_counts maps held machine slot insn target state (Falls state') known k h (by_fall e) sound =
    where_counts maps held machine (is_next slot insn target) known state e h k sound
arriving_counts maps held machine slot insn target state (Jumps state') known k h (by_jump e) sound =
    where_counts maps held machine (is_target slot insn target) known state e h k sound
arriving_counts maps held machine slot insn target state (Splits state' fallen) known k h (by_test fallen' e) sound =
    where_stays maps held machine (is_next slot insn target) (joined_where (is_target slot insn target) state known) fallen
    (where_whole (is_target slot insn target) state known h k.0) k.1
    (where_counts maps held machine (is_target slot insn target) known state e h k.0 sound)
arriving_counts maps held machine slot insn target state (Splits taken state') known k h (by_no_test taken' e) sound =
    where_counts maps held machine (is_next slot insn target) (joined_where (is_target slot insn target) taken known) state e
    (where_whole (is_target slot insn target) taken known h k.0) k.1 sound

-- what flows along the edge that a run takes is sound at the slot where it leads, with all that is joined to it there
pub sound_there : (version : Version) (maps : List MapDef) (held : Held) (machine : MachineState) (code : List Insn) (states : List (Option State)) (slot : ℕ) (insn : Insn) (here : State) (target : ℕ)
    (state : State) (flow : Flow) → AreEntryStates version maps code states (total_slots code) → instruction_at code slot ≡ Some insn → known_at states slot ≡ Some here →
    flow_of maps here slot insn ≡ Ok flow → slot < target → target < total_slots code → IsTaken slot insn target state flow → Abstracts maps held state machine →
    IsSoundAt maps held machine (known_at states target)
sound_there version maps held machine code states slot insn here target state flow entry found known flows up within taken sound =
    let whole : (k : ℕ) → k < total_slots code → IsWhole (known_at states k) = whole_below version maps code states (total_slots code) (total_slots code) entry (omega arith)
    in let shaped : IsShaped here = (let w : IsWhole (known_at states slot) = whole slot (omega arith) in subst IsWhole known w)
    in let first : IsSoundAt maps held machine (arrived version maps code states target (suc slot)) =
    rw (found, known, flows) (arriving_counts maps held machine slot insn target state flow (arrived version maps code states target slot)
    (states_shaped.flowed maps here slot insn flow shaped flows) (arrived_whole version maps code states target slot (λ k h. whole k (omega arith))) taken sound)
    in let e : target ≡ suc slot + (target - suc slot) = omega arith
    in let all : IsSoundAt maps held machine (arrived version maps code states target (suc slot + (target - suc slot))) =
    arrived_stays version maps held machine code states target (suc slot) (target - suc slot) (λ k h. whole k (omega arith)) first
    in rw (entry target within) (subst (λ end. IsSoundAt maps held machine (arrived version maps code states target end)) (sym e) all)
