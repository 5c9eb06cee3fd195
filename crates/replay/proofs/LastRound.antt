-- The reclaimer's last round comes behind all other deeds.
use Rattle.std.proofs.Common.{◌≡◌, ◌≢◌, ⊎_elim, ℕ, suc, ◌+◌, ◌<◌, Bool, true, false, true≢false, cond, List, [], ◌∷◌, ◌++◌, length, reverse, refl, sym, ap, ◌∙◌, subst, append_assoc, arith}
use Rattle.std.specs.List.{AllByRecursion}
use mathlib.Core.Option.{some, some-injective}
use lib.ListN.{get_elem?}
use Rattle.std.proofs.lemmas.Bool.{cases_eq}
use Rattle.std.proofs.lemmas.List.{append_cancel_right, nil_from_length, length-append}
use Rattle.std.proofs.lemmas.List.Elements.{filter-append}
use Rattle.semantics.specs.declared.call.Caller.{Caller}
use Rattle.semantics.specs.declared.call.Caller.TheVariants.{Worker, Controller, Reclaimer}
use Rattle.semantics.specs.declared.plan.ShardPlan.{ShardPlan}
use Rattle.semantics.specs.CallerLaws.{is_caller}
use Rattle.shards.specs.declared.deeds.Deed.{Deed}
use Rattle.shards.specs.declared.deeds.OrderPart.{OrderPart}
use Rattle.shards.specs.declared.deeds.OrderPart.TheVariants.{ByCaller}
use Rattle.shards.specs.Deeds.{caller_of_deed, is_deed_of, deeds_of, AreFirst}
use Rattle.shards.specs.LockRule.{caller_place}
use Rattle.shards.specs.OrderRule.{AreByCallers}
use Rattle.shards.specs.Passes.{PassView}
use Rattle.actors.specs.Rounds.{HasMadeRound, EndsWithRound}
use Rattle.actors.specs.declared.worker.Working.{Working}
use Rattle.actors.specs.RunsOverShards.{pass_in}
use Rattle.replay.specs.declared.crew.Handled.{Handled}
use Rattle.replay.specs.LastRound.{IsDoneIn, IsWorkerDoneIn}
use Rattle.replay.proofs.TurnDeeds.{is_own}

-- ---- beginnings

pub first_of_first : (first middle all : List Deed) → AreFirst first middle → AreFirst middle all → AreFirst first all
first_of_first first middle all (more, is) (later, all_is) =
    (later ++ more, all_is ∙ ap (λ (l : List Deed). later ++ l) is ∙ sym (append_assoc later more first))

pub done_later : (all more : List Deed) (pass : PassView) → AreFirst all more → IsDoneIn all pass → IsDoneIn more pass
done_later all more pass longer done = record { begun = done.begun; first = first_of_first done.begun all more done.first longer; own = done.own }

parts_of : (part : OrderPart) (xs ys : List Deed) → deeds_of part (xs ++ ys) ≡ deeds_of part xs ++ deeds_of part ys
parts_of part xs ys = filter-append (is_deed_of part) xs ys

-- whose deeds are all in a beginning did nothing behind it
pub nothing_later : (order later last : List Deed) (pass : PassView) → order ≡ later ++ last → IsDoneIn last pass → pass.deeds ≡ deeds_of (ByCaller pass.who) order →
    deeds_of (ByCaller pass.who) later ≡ []
nothing_later order later last pass is done owned =
    let part : OrderPart = ByCaller pass.who in
    let begun : List Deed = deeds_of part done.begun in
    let more : List Deed = deeds_of part done.first.0 in
    let all : begun ≡ deeds_of part later ++ (more ++ begun) =
    sym done.own ∙ owned ∙ ap (λ (l : List Deed). deeds_of part l) is ∙ parts_of part later last
    ∙ ap (λ (l : List Deed). deeds_of part later ++ l) (ap (λ (l : List Deed). deeds_of part l) done.first.1 ∙ parts_of part done.first.0 done.begun) in
    let long = ap (λ (l : List Deed). length l) all in
    let one = length-append (deeds_of part later) (more ++ begun) in
    let two = length-append more begun in
    nil_from_length (deeds_of part later) (omega (arith, long, one, two))

-- what the workers below this number did
abbrev pub AreDoneBelow : {B : Type 0} → List Deed → ℕ → List (Handled (Working B)) → Type 0
AreDoneBelow {B} all place workers = (k : ℕ) (one : Handled (Working B)) → get_elem? workers k ≡ some one → k < place → IsWorkerDoneIn all k one

pub done_more : {B : Type 0} (workers : List (Handled (Working B))) (place : ℕ) (before : Handled (Working B)) (all more : List Deed) → AreFirst all more →
    get_elem? workers place ≡ some before → IsWorkerDoneIn more place before →
    AreDoneBelow all place workers → AreDoneBelow more (place + 1) workers
done_more {B} workers place before all more longer there done were k one is below = ⊎_elim
    (λ (here : k ≡ place). subst (λ (it : Handled (Working B)). IsWorkerDoneIn more k it)
    (some-injective before one (sym there ∙ ap (λ (n : ℕ). get_elem? workers n) (sym here) ∙ is)) done)
    (λ (apart : k ≢ place). done_later all more (pass_in one.state) longer (were k one is (omega (arith, below, apart))))
    (cases_eq k place)

-- ---- deeds of the reclaimer alone

none_earlier : (part : OrderPart) (deed : Deed) (earlier : List Deed) (b : Bool) → is_deed_of part deed ≡ b → deeds_of part (deed ∷ earlier) ≡ [] →
    (b ≡ false) × (deeds_of part earlier ≡ [])
none_earlier part deed earlier true is none =
    let more : deed ∷ deeds_of part earlier ≡ [] = sym (ap (λ (mine : Bool). cond mine (deed ∷ deeds_of part earlier) (deeds_of part earlier)) is) ∙ none in
    absurd (let long = ap (λ (l : List Deed). length l) more in omega (arith, long))
none_earlier part deed earlier false is none =
    (refl, sym (ap (λ (mine : Bool). cond mine (deed ∷ deeds_of part earlier) (deeds_of part earlier)) is) ∙ none)

mine : (who : Caller) (deed : Deed) → caller_of_deed deed ≡ who → is_deed_of (ByCaller who) deed ≡ true
mine who deed is = ap (λ (one : Caller). is_caller who one) is ∙ is_own who

own_more : (who : Caller) (deed : Deed) (earlier : List Deed) → caller_of_deed deed ≡ who → deeds_of (ByCaller who) earlier ≡ earlier →
    deeds_of (ByCaller who) (deed ∷ earlier) ≡ deed ∷ earlier
own_more who deed earlier is rest =
    ap (λ (test : Bool). cond test (deed ∷ deeds_of (ByCaller who) earlier) (deeds_of (ByCaller who) earlier)) (mine who deed is)
    ∙ ap (λ (l : List Deed). deed ∷ l) rest

pub all_own : (who : Caller) (deeds : List Deed) → AllByRecursion (λ (deed : Deed). caller_of_deed deed ≡ who) deeds → deeds_of (ByCaller who) deeds ≡ deeds
all_own who [] are = refl
all_own who (deed ∷ earlier) are = own_more who deed earlier are.0 (all_own who earlier are.1)

only_reclaimers : (workers : ℕ) (deeds : List Deed) → AreByCallers (workers + 2) deeds →
    ((worker : ℕ) → worker < workers → deeds_of (ByCaller (Worker worker)) deeds ≡ []) → deeds_of (ByCaller Controller) deeds ≡ [] →
    deeds_of (ByCaller Reclaimer) deeds ≡ deeds
only_reclaimers workers [] by no_workers no_controllers = refl
only_reclaimers workers (deed ∷ earlier) by no_workers no_controllers =
    first (caller_of_deed deed) refl (only_reclaimers workers earlier by.1
    (λ worker below. (none_earlier (ByCaller (Worker worker)) deed earlier (is_deed_of (ByCaller (Worker worker)) deed) refl (no_workers worker below)).1)
    (none_earlier (ByCaller Controller) deed earlier (is_deed_of (ByCaller Controller) deed) refl no_controllers).1)
  where
    first : (who : Caller) → caller_of_deed deed ≡ who → deeds_of (ByCaller Reclaimer) earlier ≡ earlier →
        deeds_of (ByCaller Reclaimer) (deed ∷ earlier) ≡ deed ∷ earlier
    first (Worker number) is rest =
        let below : number < workers = (let within = by.0 in let there : caller_place (caller_of_deed deed) ≡ suc (suc number) = ap caller_place is in omega (arith, within, there)) in
        absurd (true≢false (none_earlier (ByCaller (Worker number)) deed earlier true (mine (Worker number) deed is) (no_workers number below)).0)
    first Controller is rest = absurd (true≢false (none_earlier (ByCaller Controller) deed earlier true (mine Controller deed is) no_controllers).0)
    first Reclaimer is rest = own_more Reclaimer deed earlier is rest

-- ---- the order

pub closes : (plan : ℕ → ShardPlan) (count : ℕ) (order later last did : List Deed) → order ≡ later ++ last → deeds_of (ByCaller Reclaimer) later ≡ later →
    did ≡ deeds_of (ByCaller Reclaimer) order → HasMadeRound plan count (deeds_of (ByCaller Reclaimer) last) did → EndsWithRound plan count order
closes plan count order later last did is only did_is round =
    let before : List Deed = deeds_of (ByCaller Reclaimer) last in
    let both : reverse round.made ++ before ≡ later ++ before =
    sym round.deeds_are ∙ did_is ∙ ap (λ (l : List Deed). deeds_of (ByCaller Reclaimer) l) is ∙ parts_of (ByCaller Reclaimer) later last
    ∙ ap (λ (l : List Deed). l ++ before) only in
    let same : reverse round.made ≡ later = append_cancel_right (reverse round.made) later before both in
    record { others = last; last = record { made = round.made; round = round.round; deeds_are = is ∙ ap (λ (l : List Deed). l ++ last) (sym same) } }

by_later : (callers : ℕ) (later last : List Deed) → AreByCallers callers (later ++ last) → AreByCallers callers later
by_later callers [] last by = tt
by_later callers (deed ∷ later) last by = (by.0, by_later callers later last by.1)

-- behind the last deed of each other caller comes the reclaimer's last round
pub closes_behind : (plan : ℕ → ShardPlan) (count workers : ℕ) (order last did : List Deed) → AreByCallers (workers + 2) order → (begins : AreFirst last order) →
    ((worker : ℕ) → worker < workers → deeds_of (ByCaller (Worker worker)) begins.0 ≡ []) → deeds_of (ByCaller Controller) begins.0 ≡ [] →
    did ≡ deeds_of (ByCaller Reclaimer) order → HasMadeRound plan count (deeds_of (ByCaller Reclaimer) last) did → EndsWithRound plan count order
closes_behind plan count workers order last did by begins no_workers no_controllers did_is round =
    closes plan count order begins.0 last did begins.1
    (only_reclaimers workers begins.0 (by_later (workers + 2) begins.0 last (subst (AreByCallers (workers + 2)) begins.1 by)) no_workers no_controllers)
    did_is round
