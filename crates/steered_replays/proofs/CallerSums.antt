-- A legal history's counts, caller by caller.
use Rattle.std.proofs.Common.{◌≡◌, ℕ, zero, suc, ◌+◌, ◌<◌, ◌≤◌, ◌==◌, Bool, true, false, List, [], ◌∷◌, refl, sym, ◌∙◌, ap, arith}
use Rattle.std.specs.Prelude.{if◌then◌else◌, IsTrue}
use Rattle.std.proofs.lemmas.Bool.Decides.{nat_tests}
use Rattle.semantics.specs.declared.call.Caller.{Caller}
use Rattle.semantics.specs.declared.call.Caller.TheVariants.{Worker, Controller, Reclaimer}
use Rattle.semantics.specs.declared.call.Entry.{Entry}
use Rattle.semantics.specs.declared.plan.ShardPlan.{ShardPlan}
use Rattle.semantics.specs.CallerLaws.{is_caller, own_entries}
use Rattle.semantics.specs.History.{IsLegalHistory, meets}
use Rattle.actors.proofs.shared.Callers.{worker_below}
use Rattle.steered_replays.specs.Counting.{raised, raised_by}

plain : (n : ℕ) → 0 + n ≡ n
plain n = omega arith

-- ---- sums over the workers below a number

abbrev pub sum_below : ℕ → (ℕ → ℕ) → ℕ
sum_below zero f = 0
sum_below (suc n) f = sum_below n f + f n

pub same_sums : (n : ℕ) (f g : ℕ → ℕ) → ((worker : ℕ) → worker < n → f worker ≡ g worker) → sum_below n f ≡ sum_below n g
same_sums zero f g same = refl
same_sums (suc n) f g same =
    let before : sum_below n f ≡ sum_below n g = same_sums n f g (λ worker below. same worker (omega (arith, below))) in
    let last : f n ≡ g n = same n (omega arith) in
    omega (arith, before, last)

-- so much more for one of them
abbrev pub more_for : ℕ → ℕ → ℕ → ℕ
more_for one x worker = if one == worker then x else 0

none_more : (n one x : ℕ) (f : ℕ → ℕ) → n ≤ one → sum_below n (λ worker. more_for one x worker + f worker) ≡ sum_below n f
none_more zero one x f past = refl
none_more (suc n) one x f past =
    let before : sum_below n (λ worker. more_for one x worker + f worker) ≡ sum_below n f = none_more n one x f (omega (arith, past)) in
    let other : (one == n) ≡ false = grind (arith, nat_tests, past) in
    let last : more_for one x n ≡ 0 = ap (λ (test : Bool). if test then x else 0) other in
    omega (arith, before, last)

last_or_before : (n one x : ℕ) (f : ℕ → ℕ) → one < suc n → (one < n → sum_below n (λ worker. more_for one x worker + f worker) ≡ x + sum_below n f) →
    (test : Bool) → (one == n) ≡ test → sum_below (suc n) (λ worker. more_for one x worker + f worker) ≡ x + sum_below (suc n) f
last_or_before n one x f below before true is =
    let same : one ≡ n = grind (arith, nat_tests) in
    let none : sum_below n (λ worker. more_for one x worker + f worker) ≡ sum_below n f = none_more n one x f (omega (arith, same)) in
    let last : more_for one x n ≡ x = ap (λ (test : Bool). if test then x else 0) is in
    omega (arith, none, last)
last_or_before n one x f below before false is =
    let other : one ≡ n → ⊥ = (λ same. grind (arith, nat_tests)) in
    let earlier : sum_below n (λ worker. more_for one x worker + f worker) ≡ x + sum_below n f = before (omega (arith, below, other)) in
    let last : more_for one x n ≡ 0 = ap (λ (test : Bool). if test then x else 0) is in
    omega (arith, earlier, last)

pub one_more : (n one x : ℕ) (f : ℕ → ℕ) → one < n → sum_below n (λ worker. more_for one x worker + f worker) ≡ x + sum_below n f
one_more zero one x f below = absurd (omega (arith, below))
one_more (suc n) one x f below = last_or_before n one x f below (λ earlier. one_more n one x f earlier) (one == n) refl

-- each of the numbers is 0 where their sum is
zero_here : (n : ℕ) (f : ℕ → ℕ) → sum_below n f + f n ≡ 0 → (worker : ℕ) → worker < suc n → (worker < n → f worker ≡ 0) → (test : Bool) →
    (worker == n) ≡ test → f worker ≡ 0
zero_here n f none worker below before true is =
    let same : worker ≡ n = grind (arith, nat_tests) in
    let last : f n ≡ 0 = omega (arith, none) in
    ap f same ∙ last
zero_here n f none worker below before false is =
    let other : worker ≡ n → ⊥ = (λ same. grind (arith, nat_tests)) in before (omega (arith, below, other))

pub none_in_sum : (n : ℕ) (f : ℕ → ℕ) → sum_below n f ≡ 0 → (worker : ℕ) → worker < n → f worker ≡ 0
none_in_sum zero f none worker below = absurd (omega (arith, below))
none_in_sum (suc n) f none worker below =
    zero_here n f none worker below (λ earlier. none_in_sum n f (let both : sum_below n f + f n ≡ 0 = none in omega (arith, both)) worker earlier) (worker == n) refl

-- ---- a caller's own entries

own_raised : (cell : ℕ) (who : Caller) (entry : Entry) (older : List Entry) →
    raised cell (own_entries who (entry ∷ older)) ≡ (if is_caller who entry.who then raised_by cell entry.call else 0) + raised cell (own_entries who older)
own_raised cell who entry older = by (is_caller who entry.who)
  where
    by : (test : Bool) → raised cell (if test then entry ∷ own_entries who older else own_entries who older)
        ≡ (if test then raised_by cell entry.call else 0) + raised cell (own_entries who older)
    by true = refl
    by false = omega arith

-- of controller, reclaimer and the workers below a number together
abbrev pub own_sum : ℕ → ℕ → List Entry → ℕ
own_sum workers cell history =
    raised cell (own_entries Controller history) + raised cell (own_entries Reclaimer history)
    + sum_below workers (λ worker. raised cell (own_entries (Worker worker) history))

by_caller : (plan : ShardPlan) (cell : ℕ) (entry : Entry) (older : List Entry) (who : Caller) → entry.who ≡ who →
    IsTrue (meets plan older who entry.call) → own_sum plan.workers cell (entry ∷ older) ≡ raised_by cell entry.call + own_sum plan.workers cell older
by_caller plan cell entry older (Worker one) is met =
    let x : ℕ = raised_by cell entry.call in
    let controls : raised cell (own_entries Controller (entry ∷ older)) ≡ 0 + raised cell (own_entries Controller older) =
    own_raised cell Controller entry older ∙ ap (λ (w : Caller). (if is_caller Controller w then x else 0) + raised cell (own_entries Controller older)) is in
    let reclaims : raised cell (own_entries Reclaimer (entry ∷ older)) ≡ 0 + raised cell (own_entries Reclaimer older) =
    own_raised cell Reclaimer entry older ∙ ap (λ (w : Caller). (if is_caller Reclaimer w then x else 0) + raised cell (own_entries Reclaimer older)) is in
    let works : sum_below plan.workers (λ worker. raised cell (own_entries (Worker worker) (entry ∷ older)))
    ≡ x + sum_below plan.workers (λ worker. raised cell (own_entries (Worker worker) older)) =
    same_sums plan.workers (λ worker. raised cell (own_entries (Worker worker) (entry ∷ older)))
    (λ worker. more_for one x worker + raised cell (own_entries (Worker worker) older))
    (λ worker below. own_raised cell (Worker worker) entry older
    ∙ ap (λ (w : Caller). (if is_caller (Worker worker) w then x else 0) + raised cell (own_entries (Worker worker) older)) is)
    ∙ one_more plan.workers one x (λ worker. raised cell (own_entries (Worker worker) older)) (worker_below plan older one entry.call met) in
    omega (arith, controls, reclaims, works)
by_caller plan cell entry older Controller is met =
    let x : ℕ = raised_by cell entry.call in
    let controls : raised cell (own_entries Controller (entry ∷ older)) ≡ x + raised cell (own_entries Controller older) =
    own_raised cell Controller entry older ∙ ap (λ (w : Caller). (if is_caller Controller w then x else 0) + raised cell (own_entries Controller older)) is in
    let reclaims : raised cell (own_entries Reclaimer (entry ∷ older)) ≡ 0 + raised cell (own_entries Reclaimer older) =
    own_raised cell Reclaimer entry older ∙ ap (λ (w : Caller). (if is_caller Reclaimer w then x else 0) + raised cell (own_entries Reclaimer older)) is in
    let works : sum_below plan.workers (λ worker. raised cell (own_entries (Worker worker) (entry ∷ older)))
    ≡ sum_below plan.workers (λ worker. raised cell (own_entries (Worker worker) older)) =
    same_sums plan.workers (λ worker. raised cell (own_entries (Worker worker) (entry ∷ older))) (λ worker. raised cell (own_entries (Worker worker) older))
    (λ worker below. own_raised cell (Worker worker) entry older
    ∙ ap (λ (w : Caller). (if is_caller (Worker worker) w then x else 0) + raised cell (own_entries (Worker worker) older)) is
    ∙ plain (raised cell (own_entries (Worker worker) older))) in
    omega (arith, controls, reclaims, works)
by_caller plan cell entry older Reclaimer is met =
    let x : ℕ = raised_by cell entry.call in
    let controls : raised cell (own_entries Controller (entry ∷ older)) ≡ 0 + raised cell (own_entries Controller older) =
    own_raised cell Controller entry older ∙ ap (λ (w : Caller). (if is_caller Controller w then x else 0) + raised cell (own_entries Controller older)) is in
    let reclaims : raised cell (own_entries Reclaimer (entry ∷ older)) ≡ x + raised cell (own_entries Reclaimer older) =
    own_raised cell Reclaimer entry older ∙ ap (λ (w : Caller). (if is_caller Reclaimer w then x else 0) + raised cell (own_entries Reclaimer older)) is in
    let works : sum_below plan.workers (λ worker. raised cell (own_entries (Worker worker) (entry ∷ older)))
    ≡ sum_below plan.workers (λ worker. raised cell (own_entries (Worker worker) older)) =
    same_sums plan.workers (λ worker. raised cell (own_entries (Worker worker) (entry ∷ older))) (λ worker. raised cell (own_entries (Worker worker) older))
    (λ worker below. own_raised cell (Worker worker) entry older
    ∙ ap (λ (w : Caller). (if is_caller (Worker worker) w then x else 0) + raised cell (own_entries (Worker worker) older)) is
    ∙ plain (raised cell (own_entries (Worker worker) older))) in
    omega (arith, controls, reclaims, works)

none_at_all : (workers cell : ℕ) → own_sum workers cell [] ≡ 0
none_at_all zero cell = refl
none_at_all (suc n) cell = (let before : own_sum n cell [] ≡ 0 = none_at_all n cell in omega (arith, before))

-- what a cell was raised by is what its callers raised it by
pub raised_by_all : (plan : ShardPlan) (history : List Entry) (cell : ℕ) → IsLegalHistory plan history → raised cell history ≡ own_sum plan.workers cell history
raised_by_all plan [] cell legal = sym (none_at_all plan.workers cell)
raised_by_all plan (entry ∷ older) cell legal =
    ap (λ n. raised_by cell entry.call + n) (raised_by_all plan older cell legal.1) ∙ sym (by_caller plan cell entry older entry.who refl legal.0.step.met)
