-- What a look back from a slot at which a register is unset finds.
use Rattle.std.proofs.Common.{◌≡◌, ℕ, ◌+◌, ◌<◌, ◌≤◌, Bool, true, false, List, length, take, Option, Some, None, Result, Err, refl, sym, ap, subst, ◌∙◌, ⊎_elim, arith}
use Rattle.std.specs.Prelude.{slice_index_or, IsTrue, if◌then◌else◌}
use Rattle.std.proofs.lemmas.Bool.{cases_lt}
use Rattle.std.proofs.lemmas.List.{get_or_default, take-take, take_all}
use Rattle.std.proofs.lemmas.List.Sums.{sum_by-take-le}
use Rattle.isa.specs.declared.operation.Register.{Register}
use Rattle.ebpf_decode.specs.declared.insn.Insn.{Insn}
use Rattle.ebpf_decode.specs.declared.map.MapDef.{MapDef}
use Rattle.ebpf_decode.specs.declared.version.Version.{Version}
use Rattle.ebpf_decode.specs.InstructionEncoding.{slot_count, total_slots}
use Rattle.semantics.specs.Program.{instruction_at}
use Rattle.abstract_state.specs.declared.kind.Kind.{Kind}
use Rattle.abstract_state.specs.declared.kind.Kind.TheVariants.{Unset}
use Rattle.abstract_state.specs.declared.broken_rule.BrokenRule.{BrokenRule}
use Rattle.abstract_state.specs.declared.broken_rule.BrokenRule.TheVariants.{UnsetRegister, WrongKind, PacketBounds, StackBounds, StackUnset, ValueBounds, Misaligned, ContextAccess, ReadOnlyFp, UnknownHelper, BadArgument, PointerLeak, UnknownMap, NotArrayMap}
use Rattle.abstract_state.specs.Flow.{flow_of}
use Rattle.abstract_state.specs.declared.state.State.{State}
use Rattle.image_shape.proofs.shared.SlotLemmas.{instruction_here, past_end}
use Rattle.verifier.specs.declared.reject.Reject.{Reject}
use Rattle.verifier.specs.declared.survey.Survey.{Survey}
use Rattle.verifier.specs.Dataflow.{known_at, states_of, arriving_from, IsFirstBroken}
use Rattle.verifier.specs.Rejects.{reject_of_rule, reject_slot}
use Rattle.verifier.specs.Surveys.{slot_of_index, IsSurvey, IsBroken, IsRefusedAfter, has_no_structure, breaks_at_last, EndsSo}
use Rattle.reasons.specs.declared.cause.Cause.{Cause}
use Rattle.reasons.specs.declared.cause.Cause.TheVariants.{PathsDisagree}
use Rattle.reasons.specs.declared.origin.Arrival.{Arrival}
use Rattle.reasons.specs.declared.origin.Back.{Back}
use Rattle.reasons.specs.declared.origin.Back.TheVariants.{Found, Further}
use Rattle.reasons.specs.Origins.{is_unset, disagree, cleared_by, along, brought_from, IsArrival, Brings, IsUnsetAt, StaysUnset, stays_along, LooksBack, looks_at_paths, looks_at_clearing, looks_further, IsOrigin, paths_disagree, left_unset}
use Rattle.reasons.specs.Explanations.{IsRefusedAt}
use Rattle.reasons.proofs.FairLemmas.{blamed_unset}

-- what an instruction of the program brings, in its entry state
pub brings_here : (version : Version) (maps : List MapDef) (code : List Insn) (slot : ℕ) (insn : Insn) (known : Option State) (target : ℕ) (register : Register) (arrival : Arrival) →
    instruction_at code slot ≡ Some insn → known ≡ known_at (states_of version maps code) slot → IsArrival maps slot insn known target register arrival →
    Brings version maps code target register arrival
brings_here version maps code slot insn known target register arrival here is arrives = record {
  here = ap (instruction_at code) arrives.from ∙ here ∙ ap Some (sym arrives.insn_is);
  arrives = record {
    from = refl;
    insn_is = refl;
    state = arrives.state;
    is = ap (known_at (states_of version maps code)) arrives.from ∙ sym is ∙ arrives.is;
    before = arrives.before;
    brought = arrives.brought;
    brings = rw (arrives.from, arrives.insn_is) arrives.brings;
    after = arrives.after;
  };
}

-- what a survey keeps at an instruction's index is what is known at its slot
stands_at : (version : Version) (maps : List MapDef) (code : List Insn) (survey : Survey) (index slot : ℕ) (known : Option State) → IsSurvey version maps code survey →
    slot ≡ slot_of_index code index → index < length survey.known.items → known ≡ slice_index_or survey.known.items index known →
    known ≡ known_at (states_of version maps code) slot
stands_at version maps code survey index slot known is at inside read =
    read ∙ get_or_default survey.known.items index known None inside ∙ is.known index inside ∙ ap (known_at (states_of version maps code)) (sym at)

-- what is brought by the instruction of an index, by what a survey keeps
pub brings_at : (version : Version) (maps other_maps : List MapDef) (code other_code : List Insn) (survey : Survey) (index slot : ℕ) (d : Insn)
    (known : Option State) (target : ℕ) (register : Register) (arrival : Arrival) → IsSurvey version maps code survey → index < length code → slot ≡ slot_of_index code index →
    other_maps ≡ maps → other_code ≡ code → index < length survey.known.items → known ≡ slice_index_or survey.known.items index known →
    IsArrival other_maps slot (slice_index_or other_code index d) known target register arrival → Brings version maps code target register arrival
brings_at version maps other_maps code other_code survey index slot d known target register arrival is within at same_maps same_code inside read arrives =
    let stands : known ≡ known_at (states_of version maps code) slot = stands_at version maps code survey index slot known is at inside read
    in brings_here version maps code slot (slice_index_or code index d) known target register arrival (instruction_here code index d slot within at) stands
    (subst (λ list. IsArrival maps slot (slice_index_or list index d) known target register arrival) same_code
    (subst (λ list. IsArrival list slot (slice_index_or other_code index d) known target register arrival) same_maps arrives))

pub nothing_at : (version : Version) (maps other_maps : List MapDef) (code other_code : List Insn) (survey : Survey) (index slot : ℕ) (d : Insn)
    (known : Option State) (target : ℕ) → IsSurvey version maps code survey → index < length code → slot ≡ slot_of_index code index →
    other_maps ≡ maps → other_code ≡ code → index < length survey.known.items → known ≡ slice_index_or survey.known.items index known →
    arriving_from other_maps slot (Some (slice_index_or other_code index d)) known target None ≡ None → brought_from version maps code slot target ≡ None
nothing_at version maps other_maps code other_code survey index slot d known target is within at same_maps same_code inside read none =
    let stands : known ≡ known_at (states_of version maps code) slot = stands_at version maps code survey index slot known is at inside read
    in ap (λ begins. arriving_from maps slot begins (known_at (states_of version maps code) slot) target None) (instruction_here code index d slot within at)
    ∙ ap (λ here. arriving_from maps slot (Some (slice_index_or code index d)) here target None) (sym stands)
    ∙ ap (λ list. arriving_from list slot (Some (slice_index_or code index d)) known target None) (sym same_maps)
    ∙ ap (λ list. arriving_from other_maps slot (Some (slice_index_or list index d)) known target None) (sym same_code) ∙ none

unset_is : (kind : Kind) → is_unset kind ≡ true → kind ≡ Unset
unset_is Unset e = refl
unset_is kind e = absurd cc

-- an edge that brings the register unset
along_from : (version : Version) (maps : List MapDef) (code : List Insn) (register : Register) (slot : ℕ) (arrival : Arrival) (unset : Bool) →
    Brings version maps code slot register arrival → arrival.after ≡ Unset → arrival.from < slot → is_unset arrival.before ≡ unset →
    LooksBack version maps code register slot (if unset then Further arrival.from else Found (cleared_by arrival))
along_from version maps code register slot arrival true brings cleared before was =
    looks_further arrival brings cleared (unset_is arrival.before was) before refl
along_from version maps code register slot arrival false brings cleared before was =
    looks_at_clearing (cleared_by arrival) (record { arrival = arrival; brings = brings; cleared = cleared; set = was; told = refl }) refl

pub along_looks : (version : Version) (maps : List MapDef) (code : List Insn) (register : Register) (slot : ℕ) (arrival : Arrival) (back : Back) →
    Brings version maps code slot register arrival → is_unset arrival.after ≡ true → arrival.from < slot → back ≡ along arrival →
    LooksBack version maps code register slot back
along_looks version maps code register slot arrival back brings unset before is =
    subst (LooksBack version maps code register slot) (sym is)
    (along_from version maps code register slot arrival (is_unset arrival.before) brings (unset_is arrival.after unset) before refl)

pub paths_look : (version : Version) (maps : List MapDef) (code : List Insn) (register : Register) (slot : ℕ) (one other : Arrival) (cause : Cause) (back : Back) →
    Brings version maps code slot register one → Brings version maps code slot register other → IsTrue (disagree version one.after other.after) →
    cause ≡ PathsDisagree slot one.from one.after other.from other.after → back ≡ Found cause → LooksBack version maps code register slot back
paths_look version maps code register slot one other cause back first second apart told is =
    looks_at_paths cause (record { one = one; other = other; one_brings = first; other_brings = second; disagree = apart; told = told }) is

-- ---- the walk back

same_cause : (one other : Cause) → Found one ≡ Found other → one ≡ other
same_cause one other e = cc

pub told_back : (version : Version) (maps : List MapDef) (code : List Insn) (register : Register) (at slot : ℕ) (back : Back) (cause : Cause) →
    StaysUnset version maps code register at slot → LooksBack version maps code register at back → back ≡ Found cause →
    IsOrigin version maps code register slot cause
told_back version maps code register at slot back cause stays (looks_at_paths other is e) found =
    let same : cause ≡ other = cc in paths_disagree at (rw same is) stays
told_back version maps code register at slot back cause stays (looks_at_clearing other is e) found =
    let same : cause ≡ other = cc in left_unset at (rw same is) stays
told_back version maps code register at slot back cause stays (looks_further arrival brings unset was before e) found = absurd cc

-- a step back, to a slot at which the register is unset too
pub record IsFurther (version : Version) (maps : List MapDef) (code : List Insn) (register : Register) (at slot from : ℕ) : Type 0 where
  pub stays : StaysUnset version maps code register from slot
  pub unset : IsUnsetAt version maps code register from
  pub before : from < at

further_along : (version : Version) (maps : List MapDef) (code : List Insn) (register : Register) (at slot : ℕ) (arrival : Arrival) →
    StaysUnset version maps code register at slot → Brings version maps code at register arrival → arrival.after ≡ Unset → arrival.before ≡ Unset →
    arrival.from < at → IsFurther version maps code register at slot arrival.from
further_along version maps code register at slot arrival stays brings unset was before = record {
  stays = stays_along at slot arrival brings unset stays;
  unset = record { state = brings.arrives.state; known = brings.arrives.is; unset = sym brings.arrives.before ∙ was };
  before = before;
}

pub further_back : (version : Version) (maps : List MapDef) (code : List Insn) (register : Register) (at slot from : ℕ) (back : Back) →
    StaysUnset version maps code register at slot → LooksBack version maps code register at back → back ≡ Further from →
    IsFurther version maps code register at slot from
further_back version maps code register at slot from back stays (looks_at_paths other is e) found = absurd cc
further_back version maps code register at slot from back stays (looks_at_clearing other is e) found = absurd cc
further_back version maps code register at slot from back stays (looks_further arrival brings unset was before e) found =
    let same : arrival.from ≡ from = cc
    in subst (IsFurther version maps code register at slot) same (further_along version maps code register at slot arrival stays brings unset was before)

-- ---- the slot that is refused

begins_inside : (code : List Insn) (slot : ℕ) (insn : Insn) → instruction_at code slot ≡ Some insn → slot < total_slots code
begins_inside code slot insn e = ⊎_elim (λ h. h) (λ past. absurd (let none : instruction_at code slot ≡ None = past_end code slot past in cc))
    (cases_lt slot (total_slots code))

-- the slot that is refused is one of the program
pub refused_inside : (version : Version) (maps : List MapDef) (code : List Insn) (survey : Survey) (slot : ℕ) (insn : Insn) (state : State) →
    IsRefusedAt version maps code survey slot insn state → slot < total_slots code
refused_inside version maps code survey slot insn state refused = begins_inside code slot insn refused.here

-- the register that a broken rule names is unset there
pub refused_unset : (version : Version) (maps : List MapDef) (code : List Insn) (survey : Survey) (slot : ℕ) (insn : Insn) (state : State) (why : BrokenRule)
    (register : Register) → IsRefusedAt version maps code survey slot insn state → flow_of maps state slot insn ≡ Err why → why ≡ UnsetRegister register →
    IsUnsetAt version maps code register slot
refused_unset version maps code survey slot insn state why register refused breaks is = record {
  state = state;
  known = refused.known;
  unset = blamed_unset maps state slot insn register (breaks ∙ ap Err is);
}

earlier_slot : (code : List Insn) (index last : ℕ) → slot_of_index code index < slot_of_index code last → index < last
earlier_slot code index last h = ⊎_elim (λ lt. lt)
    (λ ge.
    let front : total_slots (take last (take index code)) ≤ total_slots (take index code) = sum_by-take-le slot_count (take index code) last
    in let same : take last (take index code) ≡ take last code = take-take last index code ge
    in absurd (let size : total_slots (take last (take index code)) ≡ total_slots (take last code) = ap total_slots same in omega arith))
    (cases_lt index last)

rule_slot : (slot : ℕ) (why : BrokenRule) → reject_slot (reject_of_rule slot why) ≡ Some slot
rule_slot slot (UnsetRegister register) = refl
rule_slot slot (WrongKind register) = refl
rule_slot slot PacketBounds = refl
rule_slot slot StackBounds = refl
rule_slot slot StackUnset = refl
rule_slot slot ValueBounds = refl
rule_slot slot Misaligned = refl
rule_slot slot ContextAccess = refl
rule_slot slot ReadOnlyFp = refl
rule_slot slot UnknownHelper = refl
rule_slot slot (BadArgument register) = refl
rule_slot slot PointerLeak = refl
rule_slot slot UnknownMap = refl
rule_slot slot NotArrayMap = refl

refused_after : (version : Version) (maps : List MapDef) (code : List Insn) (count : ℕ) (verdict : Result Bool Reject) (reject : Reject) →
    verdict ≡ Err reject → EndsSo version maps code count verdict → IsRefusedAfter version maps code count reject
refused_after version maps code count verdict reject e ends = subst (EndsSo version maps code count) e ends

-- what is kept of the last instruction
pub record IsLast (version : Version) (maps : List MapDef) (code : List Insn) (survey : Survey) (reject : Reject) (last : ℕ) : Type 0 where
  pub why : BrokenRule
  pub broken : IsBroken version maps code (slot_of_index code last) why
  pub slot_is : reject_slot reject ≡ Some (slot_of_index code last)
  pub stands : slice_index_or survey.known.items last None ≡ Some broken.first.state
  pub within : last < length code

index_within : (code : List Insn) (last : ℕ) → slot_of_index code last < total_slots code → last < length code
index_within code last h = ⊎_elim (λ lt. lt) (λ ge. absurd (let all : take last code ≡ code = take_all last code ge in let size : total_slots (take last code) ≡ total_slots code = ap total_slots all in omega arith))
    (cases_lt last (length code))

last_of : (version : Version) (maps : List MapDef) (code : List Insn) (survey : Survey) (reject : Reject) (count last : ℕ) →
    IsSurvey version maps code survey → count ≡ length survey.known.items → count ≡ last + 1 →
    IsRefusedAfter version maps code count reject → IsLast version maps code survey reject last
last_of version maps code survey reject count last is counted size (has_no_structure fault first e none) = absurd (omega arith)
last_of version maps code survey reject count last is counted size (breaks_at_last index why e broken told) =
    let same : index ≡ last = omega arith
    in let here : IsBroken version maps code (slot_of_index code last) why = subst (λ k. IsBroken version maps code (slot_of_index code k) why) same broken
    in record {
      why = why;
      broken = here;
      slot_is = ap reject_slot told ∙ rule_slot (slot_of_index code index) why ∙ ap (λ k. Some (slot_of_index code k)) same;
      stands = is.known last (omega arith) ∙ here.known;
      within = index_within code last (begins_inside code (slot_of_index code last) here.first.insn here.first.here);
    }

pub is_last : (version : Version) (maps : List MapDef) (code : List Insn) (survey : Survey) (reject : Reject) (last : ℕ) →
    IsSurvey version maps code survey → survey.verdict ≡ Err reject → length survey.known.items ≡ last + 1 → IsLast version maps code survey reject last
is_last version maps code survey reject last is verdict size =
    last_of version maps code survey reject (length survey.known.items) last is refl size
    (refused_after version maps code (length survey.known.items) survey.verdict reject verdict is.ends)

-- the last instruction that was looked at is the one that is refused
pub refused_at : (version : Version) (maps : List MapDef) (code other_code : List Insn) (survey : Survey) (reject : Reject) (last slot : ℕ) (d : Insn)
    (state : State) (known : Option State) → IsSurvey version maps code survey → survey.verdict ≡ Err reject → length survey.known.items ≡ last + 1 → other_code ≡ code →
    reject_slot reject ≡ Some slot → known ≡ slice_index_or survey.known.items last known → known ≡ Some state →
    IsRefusedAt version maps code survey slot (slice_index_or other_code last d) state
refused_at version maps code other_code survey reject last slot d state known is verdict size same_code names read known_is =
    let it = is_last version maps code survey reject last is verdict size
    in let at : slot ≡ slot_of_index code last = (let here = it.slot_is in cc)
    in let first : IsFirstBroken version maps code slot it.why = subst (λ k. IsFirstBroken version maps code k it.why) (sym at) it.broken.first
    in let whole : known ≡ slice_index_or survey.known.items last None = read ∙ get_or_default survey.known.items last known None (omega arith)
    in let found : instruction_at code slot ≡ Some (slice_index_or code last d) = instruction_here code last d slot it.within at
    in let insn_is : it.broken.first.insn ≡ slice_index_or code last d =
    (let one : instruction_at code (slot_of_index code last) ≡ Some it.broken.first.insn = it.broken.first.here in let two : instruction_at code (slot_of_index code last) ≡ Some (slice_index_or code last d) = subst (λ k. instruction_at code k ≡ Some (slice_index_or code last d)) at found in cc)
    in let state_is : it.broken.first.state ≡ state = (let one = it.stands in cc)
    in subst (λ list. IsRefusedAt version maps code survey slot (slice_index_or list last d) state) (sym same_code) (record {
      why = it.why;
      first = first;
      here = found;
      known = ap (known_at (states_of version maps code)) at ∙ it.broken.known ∙ ap Some state_is;
      breaks = ap (λ k. flow_of maps state k (slice_index_or code last d)) at
          ∙ ap (λ here. flow_of maps state (slot_of_index code last) here) (sym insn_is)
          ∙ ap (λ here. flow_of maps here (slot_of_index code last) it.broken.first.insn) (sym state_is) ∙ it.broken.first.breaks;
      covers = λ index h before.
          let first : index < last = earlier_slot code index last (subst (λ k. slot_of_index code index < k) at before)
          in omega arith;
    })
