-- What holds of all entries of each caller holds of a whole legal history.
use Rattle.std.proofs.Common.{◌≡◌, ℕ, ◌<◌, ◌==◌, Bool, true, false, List, [], ◌∷◌, refl, ◌∙◌, ap, arith}
use Rattle.std.specs.Prelude.{if◌then◌else◌, IsTrue}
use Rattle.std.specs.List.{AllByRecursion}
use Rattle.std.proofs.lemmas.Bool.Decides.{nat_tests}
use Rattle.semantics.specs.declared.call.Caller.{Caller}
use Rattle.semantics.specs.declared.call.Caller.TheVariants.{Worker, Controller, Reclaimer}
use Rattle.semantics.specs.declared.call.Call.{Call}
use Rattle.semantics.specs.declared.call.Entry.{Entry}
use Rattle.semantics.specs.declared.plan.ShardPlan.{ShardPlan}
use Rattle.semantics.specs.CallerLaws.{is_caller, own_entries}
use Rattle.semantics.specs.History.{IsLegalHistory, meets, meets_part, shard_of_call}
use Rattle.semantics.proofs.shared.CallNumbers.{part_below}
use Rattle.semantics.proofs.shared.ConditionLemmas.{second_true}

-- ---- a worker that may call is one of the plan's

pub worker_below : (plan : ShardPlan) (history : List Entry) (worker : ℕ) (call : Call) → IsTrue (meets plan history (Worker worker) call) → worker < plan.workers
worker_below plan history worker call met =
    part_below plan history worker call (second_true (shard_of_call call == plan.number) (meets_part plan history (Worker worker) call) met)

-- ---- of all callers

-- of the workers below a number, the controller and the reclaimer
pub record AreAllOf (P : Entry → Type 0) (workers : ℕ) (history : List Entry) : Type 0 where
  pub of_workers : (worker : ℕ) → worker < workers → AllByRecursion P (own_entries (Worker worker) history)
  pub of_controller : AllByRecursion P (own_entries Controller history)
  pub of_reclaimer : AllByRecursion P (own_entries Reclaimer history)

later_own : (P : Entry → Type 0) (entry : Entry) (own : List Entry) (test : Bool) → AllByRecursion P (if test then entry ∷ own else own) → AllByRecursion P own
later_own P entry own true all = all.1
later_own P entry own false all = all

first_own : (P : Entry → Type 0) (entry : Entry) (own : List Entry) (test : Bool) → test ≡ true → AllByRecursion P (if test then entry ∷ own else own) → P entry
first_own P entry own true is all = all.0
first_own P entry own false is all = absurd cc

later_all : (P : Entry → Type 0) (workers : ℕ) (entry : Entry) (older : List Entry) → AreAllOf P workers (entry ∷ older) → AreAllOf P workers older
later_all P workers entry older all = record {
  of_workers = λ worker below. later_own P entry (own_entries (Worker worker) older) (is_caller (Worker worker) entry.who) (all.of_workers worker below);
  of_controller = later_own P entry (own_entries Controller older) (is_caller Controller entry.who) all.of_controller;
  of_reclaimer = later_own P entry (own_entries Reclaimer older) (is_caller Reclaimer entry.who) all.of_reclaimer;
}

same_number : (n : ℕ) → (n == n) ≡ true
same_number n = grind (arith, nat_tests)

first_of : (P : Entry → Type 0) (plan : ShardPlan) (entry : Entry) (older : List Entry) (who : Caller) → entry.who ≡ who →
    IsTrue (meets plan older who entry.call) → AreAllOf P plan.workers (entry ∷ older) → P entry
first_of P plan entry older (Worker worker) is met all =
    first_own P entry (own_entries (Worker worker) older) (is_caller (Worker worker) entry.who) (ap (is_caller (Worker worker)) is ∙ same_number worker)
    (all.of_workers worker (worker_below plan older worker entry.call met))
first_of P plan entry older Controller is met all =
    first_own P entry (own_entries Controller older) (is_caller Controller entry.who) (ap (is_caller Controller) is) all.of_controller
first_of P plan entry older Reclaimer is met all =
    first_own P entry (own_entries Reclaimer older) (is_caller Reclaimer entry.who) (ap (is_caller Reclaimer) is) all.of_reclaimer

pub all_of_callers : (P : Entry → Type 0) (plan : ShardPlan) (history : List Entry) → IsLegalHistory plan history → AreAllOf P plan.workers history →
    AllByRecursion P history
all_of_callers P plan [] legal all = tt
all_of_callers P plan (entry ∷ older) legal all = (
  first_of P plan entry older entry.who refl legal.0.step.met all,
  all_of_callers P plan older legal.1 (later_all P plan.workers entry older all),
)

-- and back
own_part : (P : Entry → Type 0) (entry : Entry) (own : List Entry) (test : Bool) → P entry → AllByRecursion P own →
    AllByRecursion P (if test then entry ∷ own else own)
own_part P entry own true here all = (here, all)
own_part P entry own false here all = all

pub all_own : (P : Entry → Type 0) (who : Caller) (history : List Entry) → AllByRecursion P history → AllByRecursion P (own_entries who history)
all_own P who [] all = tt
all_own P who (entry ∷ older) all = own_part P entry (own_entries who older) (is_caller who entry.who) all.0 (all_own P who older all.1)
