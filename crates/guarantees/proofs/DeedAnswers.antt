-- What the controller's and the reclaimer's deeds are as events: the calls of the commands with their answers, and the shards of the rounds.
use Rattle.std.proofs.Common.{◌≡◌, ⊎_elim, ℕ, zero, suc, ◌<◌, ◌≤◌, ◌==◌, Bool, true, false, ◌&&◌, List, [], ◌∷◌, ◌++◌, length, reverse, Option, Some, None, refl, sym, ◌∙◌, ap, subst, arith}
use Rattle.std.specs.Prelude.{map, filter, IfSome, if◌then◌else◌}
use Rattle.std.specs.List.{AllByRecursion, flat_map}
use Rattle.std.proofs.lemmas.Bool.Decides.{nat_tests}
use Rattle.std.proofs.lemmas.List.{map-append, length-append, reverse-reverse}
use Rattle.ebpf_decode.specs.declared.map.MapDef.{MapDef}
use Rattle.semantics.specs.declared.call.Caller.{Caller}
use Rattle.semantics.specs.declared.call.Caller.TheVariants.{Controller, Reclaimer}
use Rattle.semantics.specs.declared.call.Call.{Call}
use Rattle.semantics.specs.declared.call.Reply.{Reply}
use Rattle.semantics.specs.declared.call.Reply.TheVariants.{Answer}
use Rattle.semantics.specs.declared.options.Options.{Options}
use Rattle.semantics.specs.declared.plan.ShardPlan.{ShardPlan}
use Rattle.semantics.specs.ShardPlan.{plan_at}
use Rattle.semantics.specs.System.{Setting}
use Rattle.shards.specs.declared.deeds.Deed.{Deed}
use Rattle.shards.specs.declared.deeds.OrderPart.TheVariants.{ByCaller}
use Rattle.shards.specs.Deeds.{is_deed_of, shard_of_deed, deeds_of}
use Rattle.control.specs.MapUpdates.{UpdateBytes}
use Rattle.actors.specs.Commands.{AnsweredUpdate, CommandDone, made_deeds, stop_deeds, command_deeds, commands_deeds}
use Rattle.actors.specs.Rounds.{keyed_below, IsReclaimDeed, AreReclaimDeeds, AreRoundsDone}
use Rattle.semantics.specs.Replay.{is_keyed, is_of_keyed, keyed_shards, rounds_over}
use Rattle.guarantees.specs.ReplayOf.{call_of_shared_update, calls_made, stopped_call, command_calls, answers_made, stopped_answer, command_answers}
use Rattle.guarantees.specs.InParts.{IsOfCaller, call_of_deed}
use Rattle.actors.proofs.shared.DeedLemmas.{chosen_reversed}
use Rattle.actors.proofs.shared.EveryEntry.{all_both}
use Rattle.guarantees.proofs.Heard.{is_askable, heard, answer_of_deed}
use Rattle.guarantees.proofs.MoveLemmas.{numbered}
use Rattle.guarantees.proofs.SizedUpdates.{IsAskable}

-- ---- the deeds of a caller that are events are all its deeds, where each can be

both_tests : {A : Type 0} (one other : A → Bool) (xs : List A) → filter (λ x. one x && other x) xs ≡ filter other (filter one xs)
both_tests one other [] = refl
both_tests {A = A} one other (x ∷ xs) = by_test (one x) (both_tests one other xs)
  where
    by_test : (test : Bool) → filter (λ y. one y && other y) xs ≡ filter other (filter one xs) →
        (if test && other x then x ∷ filter (λ y. one y && other y) xs else filter (λ y. one y && other y) xs)
        ≡ filter other (if test then x ∷ filter one xs else filter one xs)
    by_test true rest = ap (λ (list : List A). if other x then x ∷ list else list) rest
    by_test false rest = rest

all_pass : {A : Type 0} (test : A → Bool) (xs : List A) → AllByRecursion (λ (x : A). test x ≡ true) xs → filter test xs ≡ xs
all_pass test [] all = refl
all_pass {A = A} test (x ∷ xs) all =
    ap (λ (b : Bool). if b then x ∷ filter test xs else filter test xs) all.0 ∙ ap (λ (list : List A). x ∷ list) (all_pass test xs all.1)

abbrev pub AreAskable : (ℕ → ShardPlan) → Caller → List Deed → Type 0
AreAskable plan who deeds = AllByRecursion (λ (deed : Deed). is_askable plan who deed ≡ true) deeds

pub heard_is : (plan : ℕ → ShardPlan) (who : Caller) (order own : List Deed) → deeds_of (ByCaller who) order ≡ reverse own → AreAskable plan who own →
    heard plan who (reverse order) ≡ own
heard_is plan who order own did all =
    both_tests (is_deed_of (ByCaller who)) (is_askable plan who) (reverse order)
    ∙ ap (filter (is_askable plan who)) (chosen_reversed (is_deed_of (ByCaller who)) order ∙ ap reverse did ∙ reverse-reverse own)
    ∙ all_pass (is_askable plan who) own all

-- ---- the controller's

module _ (plan : ℕ → ShardPlan) (maps : List MapDef) (options : Options) where
  made_askable : (made : List AnsweredUpdate) → AreAskable plan Controller (made_deeds maps options made)
  made_askable [] = tt
  made_askable (one ∷ made) = (refl, made_askable made)

  stop_askable : (stopped : Option UpdateBytes) → IfSome stopped (IsAskable plan maps options) → AreAskable plan Controller (stop_deeds maps options stopped)
  stop_askable None may = tt
  stop_askable (Some update) may = (may, tt)

  commands_askable : (done : List CommandDone) → AllByRecursion (λ (one : CommandDone). IfSome one.stopped (IsAskable plan maps options)) done →
      AreAskable plan Controller (commands_deeds maps options done)
  commands_askable [] all = tt
  commands_askable (one ∷ done) all =
      all_both (λ (deed : Deed). is_askable plan Controller deed ≡ true) (command_deeds maps options one) (commands_deeds maps options done)
      (all_both (λ (deed : Deed). is_askable plan Controller deed ≡ true) (made_deeds maps options one.made) (stop_deeds maps options one.stopped)
      (made_askable one.made) (stop_askable one.stopped all.0)) (commands_askable done all.1)

  pub all_askable : (made : List AnsweredUpdate) (done : List CommandDone) →
      AllByRecursion (λ (one : CommandDone). IfSome one.stopped (IsAskable plan maps options)) done →
      AreAskable plan Controller (made_deeds maps options made ++ commands_deeds maps options done)
  all_askable made done all =
      all_both (λ (deed : Deed). is_askable plan Controller deed ≡ true) (made_deeds maps options made) (commands_deeds maps options done)
      (made_askable made) (commands_askable done all)

module _ (maps : List MapDef) (options : Options) where
  pub made_calls : (made : List AnsweredUpdate) → map call_of_deed (made_deeds maps options made) ≡ calls_made maps options made
  made_calls [] = refl
  made_calls (one ∷ made) = ap (λ (list : List Call). call_of_shared_update maps options one.update ∷ list) (made_calls made)

  made_answers : (made : List AnsweredUpdate) → map answer_of_deed (made_deeds maps options made) ≡ answers_made made
  made_answers [] = refl
  made_answers (one ∷ made) = ap (λ (list : List (Option Reply)). Some (Answer one.answer) ∷ list) (made_answers made)

  stop_calls : (stopped : Option UpdateBytes) → map call_of_deed (stop_deeds maps options stopped) ≡ stopped_call maps options stopped
  stop_calls None = refl
  stop_calls (Some update) = refl

  stop_answers : (stopped : Option UpdateBytes) → map answer_of_deed (stop_deeds maps options stopped) ≡ stopped_answer stopped
  stop_answers None = refl
  stop_answers (Some update) = refl

  -- one of both functions, of all deeds of the commands
  commands_are : {A : Type 0} (of : Deed → A) (each : CommandDone → List A) →
      ((one : CommandDone) → map of (command_deeds maps options one) ≡ each one) → (done : List CommandDone) →
      map of (commands_deeds maps options done) ≡ flat_map (λ list. list) (map each done)
  commands_are of each are [] = refl
  commands_are {A = A} of each are (one ∷ done) =
      map-append of (command_deeds maps options one) (commands_deeds maps options done)
      ∙ ap (λ (list : List A). list ++ map of (commands_deeds maps options done)) (are one)
      ∙ ap (λ (list : List A). each one ++ list) (commands_are of each are done)

  pub command_calls_are : (one : CommandDone) → map call_of_deed (command_deeds maps options one) ≡ command_calls maps options one
  command_calls_are one =
      map-append call_of_deed (made_deeds maps options one.made) (stop_deeds maps options one.stopped)
      ∙ ap (λ (list : List Call). list ++ map call_of_deed (stop_deeds maps options one.stopped)) (made_calls one.made)
      ∙ ap (λ (list : List Call). calls_made maps options one.made ++ list) (stop_calls one.stopped)

  pub calls_are : (made : List AnsweredUpdate) (done : List CommandDone) →
      map call_of_deed (made_deeds maps options made ++ commands_deeds maps options done)
      ≡ calls_made maps options made ++ flat_map (λ list. list) (map (command_calls maps options) done)
  calls_are made done =
      map-append call_of_deed (made_deeds maps options made) (commands_deeds maps options done)
      ∙ ap (λ (list : List Call). list ++ map call_of_deed (commands_deeds maps options done)) (made_calls made)
      ∙ ap (λ (list : List Call). calls_made maps options made ++ list)
      (commands_are call_of_deed (command_calls maps options) command_calls_are done)

  pub answers_are : (made : List AnsweredUpdate) (done : List CommandDone) →
      map answer_of_deed (made_deeds maps options made ++ commands_deeds maps options done)
      ≡ answers_made made ++ flat_map (λ list. list) (map command_answers done)
  answers_are made done =
      map-append answer_of_deed (made_deeds maps options made) (commands_deeds maps options done)
      ∙ ap (λ (list : List (Option Reply)). list ++ map answer_of_deed (commands_deeds maps options done)) (made_answers made)
      ∙ ap (λ (list : List (Option Reply)). answers_made made ++ list)
      (commands_are answer_of_deed command_answers
      (λ one. map-append answer_of_deed (made_deeds maps options one.made) (stop_deeds maps options one.stopped)
      ∙ ap (λ (list : List (Option Reply)). list ++ map answer_of_deed (stop_deeds maps options one.stopped)) (made_answers one.made)
      ∙ ap (λ (list : List (Option Reply)). answers_made one.made ++ list) (stop_answers one.stopped)) done)

  -- as many answers as calls
  stop_as_many : (stopped : Option UpdateBytes) → length (stopped_answer stopped) ≡ length (stopped_call maps options stopped)
  stop_as_many None = refl
  stop_as_many (Some update) = refl

  pub made_as_many : (made : List AnsweredUpdate) → length (answers_made made) ≡ length (calls_made maps options made)
  made_as_many [] = refl
  made_as_many (one ∷ made) = ap suc (made_as_many made)

  command_as_many : (one : CommandDone) → length (command_answers one) ≡ length (command_calls maps options one)
  command_as_many one =
      let a = length-append (answers_made one.made) (stopped_answer one.stopped) in
      let b = length-append (calls_made maps options one.made) (stopped_call maps options one.stopped) in
      let c = made_as_many one.made in
      let d = stop_as_many one.stopped in
      omega (arith, a, b, c, d)

  pub commands_as_many : (done : List CommandDone) →
      map (λ (answers : List (Option Reply)). length answers) (map command_answers done)
      ≡ map (λ (calls : List Call). length calls) (map (command_calls maps options) done)
  commands_as_many [] = refl
  commands_as_many (one ∷ done) = λ i. command_as_many one i ∷ commands_as_many done i

-- ---- the reclaimer's

module _ (setting : Setting) (plan : ℕ → ShardPlan) (all : ℕ) (plans : (number : ℕ) → number < all → plan_at setting.maps setting.options number ≡ Some (plan number)) where
  number_below : (count : ℕ) → suc count ≤ all → count < all
  number_below count within = omega (arith, within)

  same_test : (count : ℕ) → count < all → is_keyed (plan count).definition.kind ≡ is_of_keyed (plan_at setting.maps setting.options count)
  same_test count below = sym (ap is_of_keyed (plans count below))

  pub keyed_are : (count : ℕ) → count ≤ all → keyed_below plan count ≡ keyed_shards setting count
  keyed_are zero within = refl
  keyed_are (suc count) within =
      ap (λ (test : Bool). if test then keyed_below plan count ++ count ∷ [] else keyed_below plan count) (same_test count (number_below count within))
      ∙ ap (λ (list : List ℕ). if is_of_keyed (plan_at setting.maps setting.options count) then list ++ count ∷ [] else list)
      (keyed_are count (omega (arith, within)))

  pub keyed_within : (count : ℕ) → count ≤ all → AllByRecursion (λ (number : ℕ). number < all) (keyed_below plan count)
  keyed_within zero within = tt
  keyed_within (suc count) within =
      by_test (is_keyed (plan count).definition.kind) (keyed_within count (omega (arith, within))) (number_below count within)
    where
      by_test : (test : Bool) → AllByRecursion (λ (number : ℕ). number < all) (keyed_below plan count) → count < all →
          AllByRecursion (λ (number : ℕ). number < all) (if test then keyed_below plan count ++ count ∷ [] else keyed_below plan count)
      by_test true rest below = all_both (λ (number : ℕ). number < all) (keyed_below plan count) (count ∷ []) rest (below, tt)
      by_test false rest below = rest

  -- deeds of a round, or of several
  pub record AreRound (deeds : List Deed) (shards : List ℕ) : Type 0 where
    pub may : AreAskable plan Reclaimer deeds
    pub shards_are : map shard_of_deed deeds ≡ shards

  own_number : (number : ℕ) → number < all → (number == (plan number).number) ≡ true
  own_number number below = let same = numbered setting number (plan number) (plans number below) in grind (arith, nat_tests, same)

  deed_askable : (number : ℕ) (deed : Deed) → number < all → IsReclaimDeed number deed →
      (is_askable plan Reclaimer deed ≡ true) × (shard_of_deed deed ≡ number)
  deed_askable number deed below = ⊎_elim
      (λ wrote. (ap (is_askable plan Reclaimer) wrote.1, ap shard_of_deed wrote.1))
      (λ met. (
        ap (is_askable plan Reclaimer) met ∙ ap (λ (test : Bool). test && true) (own_number number below),
        ap shard_of_deed met,
      ))

  pub round_is : (numbers : List ℕ) (deeds : List Deed) → AllByRecursion (λ (number : ℕ). number < all) numbers → AreReclaimDeeds numbers deeds →
      AreRound deeds numbers
  round_is [] [] within are = record { may = tt; shards_are = refl }
  round_is (number ∷ numbers) (deed ∷ deeds) within are =
      let here = deed_askable number deed within.0 are.0 in
      let rest = round_is numbers deeds within.1 are.1 in
      record {
        may = (here.0, rest.may);
        shards_are = λ i. here.1 i ∷ rest.shards_are i;
      }
  round_is [] (deed ∷ deeds) within are = absurd are
  round_is (number ∷ numbers) [] within are = absurd are

  -- and each is the reclaimer's, who may make it
  deed_own : (number : ℕ) (deed : Deed) → number < all → IsReclaimDeed number deed → IsOfCaller plan Reclaimer deed
  deed_own number deed below = ⊎_elim
      (λ wrote. subst (IsOfCaller plan Reclaimer) (sym wrote.1) refl)
      (λ met. subst (IsOfCaller plan Reclaimer) (sym met) (refl, ap (λ (test : Bool). test && true) (own_number number below)))

  pub round_own : (numbers : List ℕ) (deeds : List Deed) → AllByRecursion (λ (number : ℕ). number < all) numbers → AreReclaimDeeds numbers deeds →
      AllByRecursion (IsOfCaller plan Reclaimer) deeds
  round_own [] [] within are = tt
  round_own (number ∷ numbers) (deed ∷ deeds) within are = (deed_own number deed within.0 are.0, round_own numbers deeds within.1 are.1)
  round_own [] (deed ∷ deeds) within are = absurd are
  round_own (number ∷ numbers) [] within are = absurd are

  pub rounds_are : (count rounds : ℕ) (deeds : List Deed) → count ≤ all → AreRoundsDone plan count rounds deeds →
      AreRound deeds (rounds_over (keyed_below plan count) rounds)
  rounds_are count zero deeds within are = subst (λ (list : List Deed). AreRound list []) (sym are) (record { may = tt; shards_are = refl })
  rounds_are count (suc rounds) deeds within are =
      let one = round_is (keyed_below plan count) are.0 (keyed_within count within) are.3 in
      let rest = rounds_are count rounds are.1 within are.4 in
      subst (λ (list : List Deed). AreRound list (rounds_over (keyed_below plan count) (suc rounds))) (sym are.2)
      (record {
        may = all_both (λ (deed : Deed). is_askable plan Reclaimer deed ≡ true) are.0 are.1 one.may rest.may;
        shards_are = map-append shard_of_deed are.0 are.1 ∙ (λ i. one.shards_are i ++ rest.shards_are i);
      })
