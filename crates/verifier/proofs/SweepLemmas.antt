-- The sweep by rising slot: edges go up, so what is known at a slot is whole before the slot is looked at.
use Rattle.std.proofs.Common.{◌≡◌, ◌≢◌, ℕ, suc, ◌+◌, ◌-◌, ◌<◌, ◌≤◌, Bool, true, false, cond, leb, ℤ, pos, negsuc, ◌+ℤ◌, List, [], ◌∷◌, ◌++◌, length, take, get_or, Option, Some, None, refl, sym, ap, subst, ◌∙◌, ⊎_elim, arith}
use Rattle.std.specs.Option.{option_or}
use Rattle.std.specs.Prelude.{IsOk}
use Rattle.std.proofs.lemmas.List.Sums.{sum_by_more_le}
use Rattle.std.proofs.lemmas.Bool.{cases_lt, cases_eq, ne_eqb, le-leb}
use Rattle.std.proofs.lemmas.Int.{ints}
use Rattle.ebpf_decode.specs.declared.version.Version.{Version}
use Rattle.ebpf_decode.specs.declared.insn.Insn.{Insn}
use Rattle.ebpf_decode.specs.declared.insn.Insn.TheVariants.{Ja, Ja32, JumpIf}
use Rattle.ebpf_decode.specs.declared.map.MapDef.{MapDef}
use Rattle.ebpf_decode.specs.InstructionEncoding.{slot_count, total_slots}
use Rattle.semantics.specs.Program.{instruction_at}
use Rattle.image_shape.specs.declared.fault.ShapeFault.{ShapeFault}
use Rattle.image_shape.specs.declared.fault.ShapeFault.TheVariants.{JumpBackward, JumpOutside, JumpIntoWide}
use Rattle.ebpf_decode.specs.Jumps.{jump_distance}
use Rattle.image_shape.specs.Edges.{is_begin}
use Rattle.image_shape.specs.Layouts.{HasNoNegativeTarget}
use Rattle.image_shape.specs.Structure.{jump_fault, fall_fault, instruction_fault, HasShape, IsFirstFault}
use Rattle.image_shape.proofs.shared.FaultLemmas.{fault_here, no_negative_target}
use Rattle.image_shape.proofs.shared.SlotLemmas.{some_slots, past_end, instruction_here}
use Rattle.abstract_state.specs.declared.broken_rule.BrokenRule.{BrokenRule}
use Rattle.abstract_state.specs.declared.state.State.{State}
use Rattle.abstract_state.specs.States.{opening_state}
use Rattle.abstract_state.specs.Flow.{flow_of}
use Rattle.abstract_state.specs.Soundness.{JumpsForward}
use Rattle.verifier.specs.declared.reject.Reject.{Reject}
use Rattle.verifier.specs.declared.reject.Reject.TheVariants.{Memory}
use Rattle.verifier.specs.Rejects.{reject_of_shape, reject_of_rule}
use Rattle.verifier.specs.declared.pending.KnownHere.{KnownHere}
use Rattle.verifier.specs.declared.pending.Pending.{Pending}
use Rattle.verifier.specs.Dataflow.{known_at, arriving_from, arrived, states_of, PassesChecks, Accepts, IsFirstReject, has_no_shape, breaks_rule, wants_memory, passed_jump}
use Rattle.verifier.specs.Pending.{known_entry, pending_at}
use Rattle.verifier.specs.Stops.{BreaksRule, WantsRoom, IsStop, stops_at_rule, stops_for_memory}
use Rattle.verifier.specs.Surveys.{slot_of_index, known_along, IsBroken, has_no_structure, breaks_at_last}
use Rattle.verifier.specs.Swept.{KeepsRefused, FailsSweep}
use Rattle.verifier.proofs.shared.EntryStates.{quiet, are_entry_states}

-- ---- edges go up

-- a target that is not above the slot is a fault
back_is_fault : (back outside begins : Bool) (one two three : ShapeFault) (fall : Option ShapeFault) → back ≡ true →
    option_or (cond back (Some one) (cond outside (Some two) (cond begins None (Some three)))) fall ≡ None → ⊥
back_is_fault true outside begins one two three fall back e = absurd cc
back_is_fault false outside begins one two three fall back e = absurd cc

no_jump_back : (begins : ℕ → Bool) (total slot : ℕ) (d at : ℤ) (fall : Option ShapeFault) → at ≡ pos (slot + 1) +ℤ d →
    option_or (jump_fault begins total slot (Some at)) fall ≡ None → (n : ℕ) × (d ≡ pos n)
no_jump_back begins total slot (pos n) at fall is e = (n, refl)
no_jump_back begins total slot (negsuc n) (negsuc below) fall is e = absurd cc
no_jump_back begins total slot (negsuc n) (pos target) fall is e =
    let low : target ≤ slot = omega (arith, ints) in
    absurd (back_is_fault (leb target slot) (leb total target) (begins target) (JumpBackward slot) (JumpOutside slot) (JumpIntoWide slot) fall (le-leb target slot low) e)

no_fault_forward : (begins : ℕ → Bool) (total slot : ℕ) (insn : Insn) → instruction_fault begins total slot insn ≡ None → JumpsForward insn
unfolding jump_distance
no_fault_forward begins total slot (Ja distance) e =
    no_jump_back begins total slot distance (pos (slot + 1) +ℤ distance) (fall_fault total slot (Ja distance)) refl e
no_fault_forward begins total slot (Ja32 distance) e =
    no_jump_back begins total slot distance (pos (slot + 1) +ℤ distance) (fall_fault total slot (Ja32 distance)) refl e
no_fault_forward begins total slot (JumpIf width test dst source distance) e =
    no_jump_back begins total slot distance (pos (slot + 1) +ℤ distance) (fall_fault total slot (JumpIf width test dst source distance)) refl e
no_fault_forward begins total slot insn e = (0, refl)

pub forward : (code : List Insn) (slot : ℕ) (insn : Insn) → HasShape code → instruction_at code slot ≡ Some insn → JumpsForward insn
forward code slot insn shape found =
    no_fault_forward (is_begin code) (total_slots code) slot insn (sym (fault_here code slot insn found) ∙ shape.edges slot)

-- ---- the sweep

pub here_not_negative : (code : List Insn) (i : ℕ) (d : Insn) (slot : ℕ) → HasShape code → i < length code → slot ≡ total_slots (take i code) →
    HasNoNegativeTarget slot (get_or code i d)
here_not_negative code i d slot shape lt at = no_negative_target code slot (get_or code i d) (shape.edges slot) (instruction_here code i d slot lt at)

-- the next slot is inside the program, or its end
pub next_within : (code : List Insn) (i : ℕ) (d : Insn) (slot : ℕ) → i < length code → slot ≡ total_slots (take i code) →
    slot + slot_count (get_or code i d) ≤ total_slots code
next_within code i d slot lt at =
    let more : total_slots (take i code) + slot_count (get_or code i d) ≤ total_slots code = sum_by_more_le slot_count code i d lt
    in omega arith

-- what is in memory once the instructions below a slot have been looked at: what these bring to the slot and to later ones
pub record IsHeld (version : Version) (maps : List MapDef) (code : List Insn) (slot : ℕ) (entry : KnownHere) (pending : Pending) : Type 0 where
  pub now : known_entry entry ≡ arrived version maps code (states_of version maps code) slot slot
  pub later : (target : ℕ) → slot < target → pending_at pending target ≡ arrived version maps code (states_of version maps code) target slot
  pub passes : (before : ℕ) → before < slot → PassesChecks maps code (states_of version maps code) before

-- an instruction inside the program begins in its entry state
pub held_here : (version : Version) (maps : List MapDef) (code : List Insn) (slot : ℕ) (entry : KnownHere) (pending : Pending) → slot < total_slots code →
    IsHeld version maps code slot entry pending → known_entry entry ≡ known_at (states_of version maps code) slot
held_here version maps code slot entry pending within held = held.now ∙ sym (are_entry_states version maps code slot within)

pub held_at_start : (version : Version) (maps : List MapDef) (code : List Insn) (entry : KnownHere) (pending : Pending) → known_entry entry ≡ Some (opening_state version) →
    ((slot : ℕ) → pending_at pending slot ≡ None) → IsHeld version maps code 0 entry pending
held_at_start version maps code entry pending opens none = record {
  now = opens;
  later = λ target h. none target ∙ later_none target h;
  passes = λ before h. absurd (omega arith);
} where
  later_none : (target : ℕ) → 0 < target → None ≡ arrived version maps code (states_of version maps code) target 0
  later_none target h = rw (ne_eqb target 0 (λ e. omega arith)) refl

-- what an instruction brings to a slot joins what those below it brought
arrives : (version : Version) (maps : List MapDef) (code : List Insn) (slot : ℕ) (insn : Insn) (known : Option State) (target : ℕ) (brought : Option State) →
    instruction_at code slot ≡ Some insn → ((k : ℕ) → slot < k → k < slot + slot_count insn → instruction_at code k ≡ None) →
    known ≡ known_at (states_of version maps code) slot → brought ≡ arrived version maps code (states_of version maps code) target slot →
    arriving_from maps slot (Some insn) known target brought ≡ arrived version maps code (states_of version maps code) target (slot + slot_count insn)
arrives version maps code slot insn known target brought found inside known_is brought_is =
    ap (λ state. arriving_from maps slot (Some insn) state target brought) known_is
    ∙ ap (arriving_from maps slot (Some insn) (known_at (states_of version maps code) slot) target) brought_is
    ∙ sym (ap (λ begins. arriving_from maps slot begins (known_at (states_of version maps code) slot) target (arrived version maps code (states_of version maps code) target slot)) found)
    ∙ sym past where
      past : arrived version maps code (states_of version maps code) target (slot + slot_count insn) ≡ arrived version maps code (states_of version maps code) target (suc slot)
      past =
          let some : 1 ≤ slot_count insn = some_slots insn
          in let e : slot + slot_count insn ≡ suc slot + (slot_count insn - 1) = omega arith
          in ap (arrived version maps code (states_of version maps code) target) e
          ∙ quiet version maps code (states_of version maps code) target (suc slot) (slot_count insn - 1) (λ k g h. inside k (omega arith) (omega arith))

-- an instruction that breaks no rule passes at its slot
passes_here : (version : Version) (maps : List MapDef) (code : List Insn) (slot : ℕ) (insn : Insn) (known : Option State) → instruction_at code slot ≡ Some insn →
    known ≡ known_at (states_of version maps code) slot → ((state : State) → known ≡ Some state → IsOk (flow_of maps state slot insn)) →
    PassesChecks maps code (states_of version maps code) slot
passes_here version maps code slot insn known found known_is passes other state begins at =
    let it : other ≡ insn = (let here : instruction_at code slot ≡ Some other = begins in cc)
    in rw it (passes state (known_is ∙ at))

-- the slots from one on to the next instruction
pub slots_on : (code : List Insn) (slot : ℕ) (insn : Insn) (P : ℕ → Type 0) → ((k : ℕ) → slot < k → k < slot + slot_count insn → instruction_at code k ≡ None) →
    ((k : ℕ) → k < slot → P k) → P slot → ((k : ℕ) → instruction_at code k ≡ None → P k) → (k : ℕ) → k < slot + slot_count insn → P k
slots_on code slot insn P inside below here none k h = ⊎_elim
    (λ less. below k less)
    (λ more. ⊎_elim (λ same. subst P (sym same) here) (λ other. none k (inside k (omega arith) h)) (cases_eq k slot))
    (cases_lt k slot)

pub held_on : (version : Version) (maps : List MapDef) (code : List Insn) (slot : ℕ) (insn : Insn) (entry after : KnownHere) (pending more : Pending) →
    instruction_at code slot ≡ Some insn → slot < total_slots code →
    ((k : ℕ) → slot < k → k < slot + slot_count insn → instruction_at code k ≡ None) →
    ((target : ℕ) → slot + slot_count insn < target → pending_at more target ≡ arriving_from maps slot (Some insn) (known_entry entry) target (pending_at pending target)) →
    known_entry after ≡ arriving_from maps slot (Some insn) (known_entry entry) (slot + slot_count insn) (pending_at pending (slot + slot_count insn)) →
    ((state : State) → known_entry entry ≡ Some state → IsOk (flow_of maps state slot insn)) →
    IsHeld version maps code slot entry pending → IsHeld version maps code (slot + slot_count insn) after more
held_on version maps code slot insn entry after pending more found within inside later next passes held =
    let some : 1 ≤ slot_count insn = some_slots insn
    in let here : known_entry entry ≡ known_at (states_of version maps code) slot = held_here version maps code slot entry pending within held
    in record {
      now = next ∙ arrives version maps code slot insn (known_entry entry) (slot + slot_count insn) (pending_at pending (slot + slot_count insn)) found inside here
          (held.later (slot + slot_count insn) (omega arith));
      later = λ target h. later target h ∙ arrives version maps code slot insn (known_entry entry) target (pending_at pending target) found inside here
          (held.later target (omega arith));
      passes = slots_on code slot insn (PassesChecks maps code (states_of version maps code)) inside held.passes
          (passes_here version maps code slot insn (known_entry entry) found here passes)
          (λ k none other state begins at. absurd cc);
    }

pub accepted : (version : Version) (maps : List MapDef) (code : List Insn) (slot : ℕ) (entry : KnownHere) (pending : Pending) → HasShape code → slot ≡ total_slots code →
    IsHeld version maps code slot entry pending → Accepts version maps code (states_of version maps code)
accepted version maps code slot entry pending shape end held = record {
  shape = shape;
  entry = are_entry_states version maps code;
  passes = λ k insn state begins known. ⊎_elim
      (λ below. held.passes k below insn state begins known)
      (λ above. let none : instruction_at code k ≡ None = past_end code k (omega arith) in absurd cc)
      (cases_lt k slot);
}

pub broken_here : (version : Version) (maps : List MapDef) (code : List Insn) (slot : ℕ) (insn : Insn) (entry : KnownHere) (pending : Pending) (why : BrokenRule) →
    HasShape code → instruction_at code slot ≡ Some insn → slot < total_slots code → BreaksRule maps slot insn (known_entry entry) why →
    IsHeld version maps code slot entry pending → IsBroken version maps code slot why
broken_here version maps code slot insn entry pending why shape found within broken held =
    let known = sym (held_here version maps code slot entry pending within held) ∙ broken.is
    in record {
      first = record {
        shape = shape;
        states = states_of version maps code;
        entry = λ k h. are_entry_states version maps code k (omega arith);
        earlier = held.passes;
        insn = insn;
        state = broken.state;
        here = found;
        known = known;
        breaks = broken.breaks;
      };
      known = known;
    }

pub wanting : (version : Version) (maps : List MapDef) (code : List Insn) (slot : ℕ) (insn : Insn) (entry : KnownHere) (pending : Pending) →
    HasShape code → instruction_at code slot ≡ Some insn → slot < total_slots code → WantsRoom maps slot insn (known_entry entry) →
    IsHeld version maps code slot entry pending → IsFirstReject version maps code Memory
wanting version maps code slot insn entry pending shape found within wants held =
    let here : known_entry entry ≡ known_at (states_of version maps code) slot = held_here version maps code slot entry pending within held
    in let passes : PassesChecks maps code (states_of version maps code) slot = passes_here version maps code slot insn (known_entry entry) found here (λ state at. flows_ok state at)
    in wants_memory shape (passed_jump slot (record {
      states = states_of version maps code;
      entry = λ k h. are_entry_states version maps code k (omega arith);
      passes = λ k h. ⊎_elim
          (λ below. held.passes k below)
          (λ above. let same : k ≡ slot = omega arith in subst (PassesChecks maps code (states_of version maps code)) (sym same) passes)
          (cases_lt k slot);
      insn = insn;
      state = wants.state;
      flow = wants.flow;
      here = found;
      known = sym here ∙ wants.is;
      flows = wants.flows;
      is_jump = wants.is_jump;
    })) refl where
      flows_ok : (state : State) → known_entry entry ≡ Some state → IsOk (flow_of maps state slot insn)
      flows_ok state at = let same : state ≡ wants.state = (let known : known_entry entry ≡ Some wants.state = wants.is in cc) in rw (same, wants.flows) refl

-- where a sweep stops at an instruction, the program is refused
first_reject : (version : Version) (maps : List MapDef) (code : List Insn) (slot : ℕ) (insn : Insn) (entry : KnownHere) (pending : Pending) (reject : Reject) →
    HasShape code → instruction_at code slot ≡ Some insn → slot < total_slots code → IsHeld version maps code slot entry pending →
    IsStop maps slot insn (known_entry entry) reject → IsFirstReject version maps code reject
first_reject version maps code slot insn entry pending reject shape found within held (stops_at_rule why broken is) =
    breaks_rule slot why (broken_here version maps code slot insn entry pending why shape found within broken held).first is
first_reject version maps code slot insn entry pending reject shape found within held (stops_for_memory wants is) =
    subst (IsFirstReject version maps code) (sym is) (wanting version maps code slot insn entry pending shape found within wants held)

kept_of_refused : (keeps : List (Option State) → Type 0) (version : Version) (maps : List MapDef) (code : List Insn) (index slot : ℕ) (insn : Insn)
    (entry : KnownHere) (pending : Pending) (reject : Reject) →
    HasShape code → instruction_at code slot ≡ Some insn → slot < total_slots code → slot ≡ slot_of_index code index →
    IsHeld version maps code slot entry pending → IsStop maps slot insn (known_entry entry) reject →
    keeps (known_along version maps code (index + 1)) → reject ≢ Memory → KeepsRefused keeps version maps code reject
kept_of_refused keeps version maps code index slot insn entry pending reject shape found within at held (stops_at_rule why broken is) kept other = record {
  count = index + 1;
  refused = breaks_at_last index why refl
      (subst (λ k. IsBroken version maps code k why) at (broken_here version maps code slot insn entry pending why shape found within broken held))
      (is ∙ ap (λ k. reject_of_rule k why) at);
  kept = kept;
}
kept_of_refused keeps version maps code index slot insn entry pending reject shape found within at held (stops_for_memory wants is) kept other = absurd (other is)

-- what was known of the instructions that were looked at is kept, of the one at the slot too
pub refused : (keeps : List (Option State) → Type 0) (version : Version) (maps : List MapDef) (code : List Insn) (index slot : ℕ) (insn : Insn)
    (entry : KnownHere) (pending : Pending) (reject : Reject) →
    HasShape code → instruction_at code slot ≡ Some insn → slot < total_slots code → slot ≡ slot_of_index code index →
    IsHeld version maps code slot entry pending → IsStop maps slot insn (known_entry entry) reject →
    keeps (known_along version maps code (index + 1)) → FailsSweep keeps version maps code reject
refused keeps version maps code index slot insn entry pending reject shape found within at held stop kept = record {
  first = first_reject version maps code slot insn entry pending reject shape found within held stop;
  kept = kept_of_refused keeps version maps code index slot insn entry pending reject shape found within at held stop kept;
}

pub kept_none : (keeps : List (Option State) → Type 0) (version : Version) (maps : List MapDef) (code : List Insn) → keeps [] → keeps (known_along version maps code 0)
unfolding known_along
kept_none keeps version maps code none = none

-- one more is kept
more_known : (version : Version) (maps : List MapDef) (code : List Insn) (index : ℕ) →
    known_along version maps code (suc index) ≡ known_along version maps code index ++ known_at (states_of version maps code) (slot_of_index code index) ∷ []
unfolding known_along
more_known version maps code index = refl

pub kept_more : (keeps : List (Option State) → Type 0) (version : Version) (maps : List MapDef) (code : List Insn) (index slot : ℕ) (known : Option State) →
    slot ≡ slot_of_index code index → known ≡ known_at (states_of version maps code) slot →
    keeps (known_along version maps code index ++ known ∷ []) → keeps (known_along version maps code (index + 1))
kept_more keeps version maps code index slot known at is kept =
    let next : suc index ≡ index + 1 = omega arith
    in subst (λ count. keeps (known_along version maps code count)) next
    (subst keeps (sym (more_known version maps code index))
    (subst (λ one. keeps (known_along version maps code index ++ one ∷ [])) (is ∙ ap (known_at (states_of version maps code)) at) kept))

-- a program without structure: no instruction is looked at
pub without_structure : (keeps : List (Option State) → Type 0) (version : Version) (maps : List MapDef) (code : List Insn) (fault : ShapeFault) (reject : Reject) →
    IsFirstFault code fault → reject ≡ reject_of_shape fault → keeps [] → FailsSweep keeps version maps code reject
without_structure keeps version maps code fault reject first is none = record {
  first = has_no_shape fault first is;
  kept = λ _. record { count = 0; refused = has_no_structure fault first is refl; kept = kept_none keeps version maps code none };
}
