-- What the events of parts are of each caller: a worker's moves, the controller's calls and the reclaimer's shards.
use Rattle.std.proofs.Common.{⊎_elim, ◌≡◌, ◌≢◌, ℕ, ◌==◌, ◌&&◌, Bool, true, false, cond, List, [], ◌∷◌, ◌++◌, Option, refl, sym, ◌∙◌, ap, subst, arith}
use Rattle.std.specs.Prelude.{filter, map, if◌then◌else◌}
use Rattle.std.specs.List.{AllByRecursion, flat_map}
use Rattle.std.proofs.lemmas.Bool.{cases_eq, ne_eqb}
use Rattle.std.proofs.lemmas.Bool.Decides.{nat_tests}
use Rattle.std.proofs.lemmas.List.{map-append}
use Rattle.std.proofs.lemmas.List.Elements.{filter-append}
use Rattle.semantics.specs.declared.call.Call.{Call}
use Rattle.semantics.specs.declared.call.Caller.{Caller}
use Rattle.semantics.specs.declared.call.Caller.TheVariants.{Worker, Controller, Reclaimer}
use Rattle.semantics.specs.declared.call.Reply.{Reply}
use Rattle.semantics.specs.declared.plan.ShardPlan.{ShardPlan}
use Rattle.semantics.specs.CallerLaws.{is_caller}
use Rattle.semantics.specs.Events.{controlled, reclaimed}
use Rattle.semantics.specs.History.{shard_of_call, meets}
use Rattle.semantics.specs.System.{Setting, SystemEvent, WorkerState, Idle, Controls, Reclaims}
use Rattle.shards.specs.declared.deeds.Deed.{Deed}
use Rattle.shards.specs.declared.deeds.Deed.TheVariants.{Wrote, MetFull}
use Rattle.shards.specs.Deeds.{shard_of_deed, caller_of_deed}
use Rattle.guarantees.specs.InParts.{Part, ByController, ByReclaimer, ByWorker, call_of_deed, deeds_of_part, events_of_part, deeds_in_parts, events_in_parts, IsOfCaller, IsPart, AreParts}
use Rattle.guarantees.specs.Merging.{events_of}
use Rattle.guarantees.specs.Moves.{is_event_of}
use Rattle.guarantees.specs.Steps.{Move, IsStep, RunBegins, RunGoesOn, RunEnds, CallIsServed, ShardIsEntered, CallIsRefused, EnterIsRefused, ShardIsLeft, AreSteps, deeds_asked, deeds_in}
use Rattle.guarantees.proofs.AnswerLemmas.{then_controlled, then_reclaimed, none_controlled, none_reclaimed}
use Rattle.actors.proofs.shared.EveryEntry.{all_both}
use Rattle.guarantees.proofs.Heard.{is_heard, heard, answer_of_deed}
use Rattle.guarantees.proofs.MergeEvents.{AreOwn, own_stay, own_go}
use Rattle.guarantees.proofs.MoveLemmas.{steps_are_moves}
use Rattle.guarantees.proofs.PartEvents.{answers_by, answers_of_part}

-- ---- the moves of a worker

abbrev pub moves_of_part : ℕ → Part → List Move
moves_of_part worker (ByController deeds) = []
moves_of_part worker (ByReclaimer deeds) = []
moves_of_part worker (ByWorker one moves) = if one == worker then moves else []

abbrev pub moves_by : ℕ → List Part → List Move
moves_by worker parts = flat_map (moves_of_part worker) parts

pub steps_own : (setting : Setting) (count worker : ℕ) (before : WorkerState) (moves : List Move) (after : WorkerState) →
    AreSteps setting count worker before moves after → AreOwn worker (events_of moves)
steps_own setting count worker before [] after steps = tt
steps_own setting count worker before (move ∷ moves) after steps = (
  (steps_are_moves setting count worker before move steps.0 steps.1).own,
  steps_own setting count worker steps.0 moves after steps.2,
)

abbrev AreBy : Caller → List Deed → Type 0
AreBy who deeds = AllByRecursion (λ (deed : Deed). caller_of_deed deed ≡ who) deeds

asked_by : (setting : Setting) (count worker : ℕ) (before : WorkerState) (move : Move) (after : WorkerState) →
    IsStep setting count worker before move after → AreBy (Worker worker) (deeds_asked worker move.asked)
asked_by setting count worker before move after (RunBegins frame now told few input early low) = tt
asked_by setting count worker before move after (RunGoesOn state next entered step) = tt
asked_by setting count worker before move after (RunEnds state last verdict entered step) = tt
asked_by setting count worker before move after (CallIsServed state entered call next reply step within inside formed) = (refl, tt)
asked_by setting count worker before move after (ShardIsEntered state entered call next step within outside) = (refl, tt)
asked_by setting count worker before move after (CallIsRefused state entered call next step within inside) = (refl, tt)
asked_by setting count worker before move after (EnterIsRefused state entered call next step within outside) = (refl, tt)
asked_by setting count worker before move after (ShardIsLeft shard entered within inside) = (refl, tt)

steps_by : (setting : Setting) (count worker : ℕ) (before : WorkerState) (moves : List Move) (after : WorkerState) →
    AreSteps setting count worker before moves after → AreBy (Worker worker) (deeds_in worker moves)
steps_by setting count worker before [] after steps = tt
steps_by setting count worker before (move ∷ moves) after steps =
    all_both (λ (deed : Deed). caller_of_deed deed ≡ Worker worker) (deeds_asked worker move.asked) (deeds_in worker moves)
    (asked_by setting count worker before move steps.0 steps.1) (steps_by setting count worker steps.0 moves after steps.2)

-- ---- what is heard of the controller or the reclaimer

module _ (plan : ℕ → ShardPlan) where
  own_heard : (who : Caller) → is_caller who who ≡ true → (deed : Deed) → IsOfCaller plan who deed → is_heard plan who deed ≡ true
  own_heard who same (Wrote entry) is = ap (λ (one : Caller). is_caller who one && true) is ∙ ap (λ (test : Bool). test && true) same
  own_heard who same (MetFull one call) is =
      ap (λ (other : Caller). is_caller who other && meets (plan (shard_of_call call)) [] who call) is.0
      ∙ ap (λ (test : Bool). test && meets (plan (shard_of_call call)) [] who call) same ∙ is.1

  not_heard : (who other : Caller) → is_caller who other ≡ false → (deed : Deed) → caller_of_deed deed ≡ other → is_heard plan who deed ≡ false
  not_heard who other apart (Wrote entry) is = ap (λ (one : Caller). is_caller who one && true) is ∙ ap (λ (test : Bool). test && true) apart
  not_heard who other apart (MetFull one call) is =
      ap (λ (by : Caller). is_caller who by && meets (plan (shard_of_call call)) [] who call) is
      ∙ ap (λ (test : Bool). test && meets (plan (shard_of_call call)) [] who call) apart

  all_heard : (who : Caller) → is_caller who who ≡ true → (own : List Deed) → AllByRecursion (IsOfCaller plan who) own → heard plan who own ≡ own
  all_heard who same [] all = refl
  all_heard who same (deed ∷ own) all =
      ap (λ (test : Bool). cond test (deed ∷ heard plan who own) (heard plan who own)) (own_heard who same deed all.0)
      ∙ ap (λ (list : List Deed). deed ∷ list) (all_heard who same own all.1)

  none_heard : (who other : Caller) → is_caller who other ≡ false → (own : List Deed) → AreBy other own → heard plan who own ≡ []
  none_heard who other apart [] all = refl
  none_heard who other apart (deed ∷ own) all =
      ap (λ (test : Bool). cond test (deed ∷ heard plan who own) (heard plan who own)) (not_heard who other apart deed all.0)
      ∙ none_heard who other apart own all.1

  caller_is : (who : Caller) (deed : Deed) → IsOfCaller plan who deed → caller_of_deed deed ≡ who
  caller_is who (Wrote entry) is = is
  caller_is who (MetFull one call) is = is.0

  are_by : (who : Caller) (own : List Deed) → AllByRecursion (IsOfCaller plan who) own → AreBy who own
  are_by who [] all = tt
  are_by who (deed ∷ own) all = (caller_is who deed all.0, are_by who own all.1)

  -- ---- the events of both

  controls_filtered : (worker : ℕ) (own : List Deed) → filter (is_event_of worker) (map (λ (deed : Deed). Controls (call_of_deed deed)) own) ≡ []
  controls_filtered worker [] = refl
  controls_filtered worker (deed ∷ own) = controls_filtered worker own

  reclaims_filtered : (worker : ℕ) (own : List Deed) → filter (is_event_of worker) (map (λ (deed : Deed). Reclaims (shard_of_deed deed)) own) ≡ []
  reclaims_filtered worker [] = refl
  reclaims_filtered worker (deed ∷ own) = reclaims_filtered worker own

  controls_controlled : (own : List Deed) → controlled (map (λ (deed : Deed). Controls (call_of_deed deed)) own) ≡ map call_of_deed own
  controls_controlled [] = refl
  controls_controlled (deed ∷ own) = ap (λ (list : List Call). call_of_deed deed ∷ list) (controls_controlled own)

  controls_reclaimed : (own : List Deed) → reclaimed (map (λ (deed : Deed). Controls (call_of_deed deed)) own) ≡ []
  controls_reclaimed [] = refl
  controls_reclaimed (deed ∷ own) = controls_reclaimed own

  reclaims_controlled : (own : List Deed) → controlled (map (λ (deed : Deed). Reclaims (shard_of_deed deed)) own) ≡ []
  reclaims_controlled [] = refl
  reclaims_controlled (deed ∷ own) = reclaims_controlled own

  reclaims_reclaimed : (own : List Deed) → reclaimed (map (λ (deed : Deed). Reclaims (shard_of_deed deed)) own) ≡ map shard_of_deed own
  reclaims_reclaimed [] = refl
  reclaims_reclaimed (deed ∷ own) = ap (λ (list : List ℕ). shard_of_deed deed ∷ list) (reclaims_reclaimed own)

  answers_map : (own : List Deed) → flat_map (answers_by Controller) own ≡ map answer_of_deed own
  answers_map [] = refl
  answers_map (deed ∷ own) = ap (λ (list : List (Option Reply)). answer_of_deed deed ∷ list) (answers_map own)

  -- ---- one part

  module _ (setting : Setting) (count : ℕ) where
    filtered_one : (worker : ℕ) (part : Part) → IsPart setting plan count part →
        filter (is_event_of worker) (events_of_part part) ≡ events_of (moves_of_part worker part)
    filtered_one worker (ByController own) is = controls_filtered worker own
    filtered_one worker (ByReclaimer own) is = reclaims_filtered worker own
    filtered_one worker (ByWorker one moves) is =
        let all : AreOwn one (events_of moves) = steps_own setting count one Idle moves Idle is.1 in
        let same : (one == one) ≡ true = grind (arith, nat_tests) in
        ⊎_elim
        (λ (at : worker ≡ one).
        subst (λ (w : ℕ). filter (is_event_of w) (events_of moves) ≡ events_of (if one == w then moves else [])) (sym at)
        (own_stay one (events_of moves) all ∙ ap (λ (test : Bool). events_of (if test then moves else [])) (sym same)))
        (λ (apart : worker ≢ one).
        own_go one worker (events_of moves) apart all
        ∙ ap (λ (test : Bool). events_of (if test then moves else [])) (sym (ne_eqb one worker (λ also. apart (sym also)))))
        (cases_eq worker one)

    record IsHeardPart (part : Part) : Type 0 where
      called : controlled (events_of_part part) ≡ map call_of_deed (heard plan Controller (deeds_of_part part))
      answers : answers_of_part part ≡ map answer_of_deed (heard plan Controller (deeds_of_part part))
      gone_over : reclaimed (events_of_part part) ≡ map shard_of_deed (heard plan Reclaimer (deeds_of_part part))

    heard_one : (part : Part) → IsPart setting plan count part → IsHeardPart part
    heard_one (ByController own) is =
        let mine = sym (all_heard Controller refl own is) in
        record {
          called = controls_controlled own ∙ ap (map call_of_deed) mine;
          answers = answers_map own ∙ ap (map answer_of_deed) mine;
          gone_over = controls_reclaimed own
              ∙ ap (map shard_of_deed) (sym (none_heard Reclaimer Controller refl own (are_by Controller own is)));
        }
    heard_one (ByReclaimer own) is =
        let none = sym (none_heard Controller Reclaimer refl own (are_by Reclaimer own is)) in
        record {
          called = reclaims_controlled own ∙ ap (map call_of_deed) none;
          answers = ap (map answer_of_deed) none;
          gone_over = reclaims_reclaimed own ∙ ap (map shard_of_deed) (sym (all_heard Reclaimer refl own is));
        }
    heard_one (ByWorker one moves) is =
        let all : AreOwn one (events_of moves) = steps_own setting count one Idle moves Idle is.1 in
        let by : AreBy (Worker one) (deeds_in one moves) = steps_by setting count one Idle moves Idle is.1 in
        let none = sym (none_heard Controller (Worker one) refl (deeds_in one moves) by) in
        record {
          called = none_controlled one (events_of moves) all ∙ ap (map call_of_deed) none;
          answers = ap (map answer_of_deed) none;
          gone_over = none_reclaimed one (events_of moves) all
              ∙ ap (map shard_of_deed) (sym (none_heard Reclaimer (Worker one) refl (deeds_in one moves) by));
        }

    -- ---- all parts

    events_both : (first second : List Move) → events_of (first ++ second) ≡ events_of first ++ events_of second
    events_both [] second = refl
    events_both (move ∷ first) second = ap (λ (list : List SystemEvent). move.event ∷ list) (events_both first second)

    pub filtered : (worker : ℕ) (parts : List Part) → AreParts setting plan count parts →
        filter (is_event_of worker) (events_in_parts parts) ≡ events_of (moves_by worker parts)
    filtered worker [] are = refl
    filtered worker (part ∷ parts) are =
        filter-append (is_event_of worker) (events_of_part part) (events_in_parts parts)
        ∙ ap (λ (list : List SystemEvent). list ++ filter (is_event_of worker) (events_in_parts parts)) (filtered_one worker part are.0)
        ∙ ap (λ (list : List SystemEvent). events_of (moves_of_part worker part) ++ list) (filtered worker parts are.1)
        ∙ sym (events_both (moves_of_part worker part) (moves_by worker parts))

    heard_both : {A : Type 0} (who : Caller) (of : Deed → A) (first second : List Deed) →
        map of (heard plan who (first ++ second)) ≡ map of (heard plan who first) ++ map of (heard plan who second)
    heard_both who of first second =
        ap (map of) (filter-append (is_heard plan who) first second) ∙ map-append of (heard plan who first) (heard plan who second)

    pub record AreHeard (parts : List Part) : Type 0 where
      pub called : controlled (events_in_parts parts) ≡ map call_of_deed (heard plan Controller (deeds_in_parts parts))
      pub answers : flat_map answers_of_part parts ≡ map answer_of_deed (heard plan Controller (deeds_in_parts parts))
      pub gone_over : reclaimed (events_in_parts parts) ≡ map shard_of_deed (heard plan Reclaimer (deeds_in_parts parts))

    pub are_heard : (parts : List Part) → AreParts setting plan count parts → AreHeard parts
    are_heard [] are = record { called = refl; answers = refl; gone_over = refl }
    are_heard (part ∷ parts) are =
        let one = heard_one part are.0 in
        let rest = are_heard parts are.1 in
        let own : List Deed = deeds_of_part part in
        let more : List Deed = deeds_in_parts parts in
        record {
          called = then_controlled (events_of_part part) (events_in_parts parts)
              ∙ (λ i. one.called i ++ rest.called i) ∙ sym (heard_both Controller call_of_deed own more);
          answers = (λ i. one.answers i ++ rest.answers i) ∙ sym (heard_both Controller answer_of_deed own more);
          gone_over = then_reclaimed (events_of_part part) (events_in_parts parts)
              ∙ (λ i. one.gone_over i ++ rest.gone_over i) ∙ sym (heard_both Reclaimer shard_of_deed own more);
        }
