-- A journal that is full for a call stays full for it, whatever is called later: an entry takes room for good, and only its Leave gives
-- back the room that an Enter kept for it.
use Rattle.std.proofs.Common.{◌≡◌, ℕ, ◌+◌, ◌≤◌, Bool, true, false, cond, not, List, [], ◌∷◌, ◌++◌, length, arith, refl, sym, ap, subst}
use Rattle.std.specs.Prelude.{◌==◌, ◌&&◌, count_by, IsTrue}
use Rattle.std.specs.List.{list_all}
use Rattle.std.proofs.lemmas.Bool.{and_parts}
use Rattle.std.proofs.lemmas.List.Sums.{sum_by-cons}
use Rattle.std.proofs.lemmas.Bool.Decides.{nat_tests}
use Rattle.semantics.specs.declared.call.Caller.{Caller}
use Rattle.semantics.specs.declared.call.Caller.TheVariants.{Worker, Controller, Reclaimer}
use Rattle.semantics.specs.declared.call.Call.{Call}
use Rattle.semantics.specs.declared.call.Reply.{Reply}
use Rattle.semantics.specs.declared.call.Entry.{Entry}
use Rattle.semantics.specs.declared.call.SectionChange.{SectionChange}
use Rattle.semantics.specs.declared.call.SectionChange.TheVariants.{Begins, Ends, Stays}
use Rattle.semantics.specs.declared.plan.ShardPlan.{ShardPlan}
use Rattle.semantics.specs.Sections.{section_change}
use Rattle.semantics.specs.Reclamation.{is_inside, inside_count, worker_numbers}
use Rattle.semantics.specs.History.{lacks_room, room_needed, IsJournalFull}

-- ---- how many of some numbers pass a test

abbrev distinct : List ℕ → Bool
distinct [] = true
distinct (n ∷ ns) = list_all (λ m. not (n == m)) ns && distinct ns

unlike : (number m : ℕ) → not (number == m) ≡ true → (number == m) ≡ false
unlike number m test = grind (arith, nat_tests)

same_number : (number n : ℕ) → (number == n) ≡ true → number ≡ n
same_number number n test = grind (arith, nat_tests)

abbrev one_if : Bool → ℕ
one_if flag = cond flag 1 0

-- tests that agree on all of them
agree : (number : ℕ) (f g : ℕ → Bool) → ((n : ℕ) → (number == n) ≡ false → g n ≡ f n) → (ns : List ℕ) →
    list_all (λ m. not (number == m)) ns ≡ true → count_by g ns ≡ count_by f ns
agree number f g same [] apart = refl
agree number f g same (n ∷ ns) apart =
    let parts = and_parts (not (number == n)) (list_all (λ m. not (number == m)) ns) apart in
    let here : g n ≡ f n = same n (unlike number n parts.0) in
    let level : one_if (g n) ≡ one_if (f n) = ap one_if here in
    let rest : count_by g ns ≡ count_by f ns = agree number f g same ns parts.1 in
    let first : count_by g (n ∷ ns) ≡ one_if (g n) + count_by g ns = sum_by-cons (λ x. one_if (g x)) n ns in
    let second : count_by f (n ∷ ns) ≡ one_if (f n) + count_by f ns = sum_by-cons (λ x. one_if (f x)) n ns in
    omega (arith, level, rest, first, second)

at_most_one : (flag : Bool) (count : ℕ) → one_if flag + count ≤ count + 1
at_most_one true count = omega arith
at_most_one false count = omega arith

-- tests that agree except for one number
one_fewer : (number : ℕ) (f g : ℕ → Bool) → ((n : ℕ) → (number == n) ≡ false → g n ≡ f n) → (ns : List ℕ) → distinct ns ≡ true →
    count_by f ns ≤ count_by g ns + 1
one_fewer number f g same [] apart = omega arith
one_fewer number f g same (n ∷ ns) apart =
    let parts = and_parts (list_all (λ m. not (n == m)) ns) (distinct ns) apart in
    by_test (one_fewer number f g same ns parts.1) parts.0 (number == n) refl
  where
    by_test : count_by f ns ≤ count_by g ns + 1 → list_all (λ m. not (n == m)) ns ≡ true → (test : Bool) → (number == n) ≡ test →
        count_by f (n ∷ ns) ≤ count_by g (n ∷ ns) + 1
    by_test later others true is =
        let at_n : number ≡ n = same_number number n is in
        let rest : count_by g ns ≡ count_by f ns =
        agree number f g same ns (subst (λ k. list_all (λ m. not (k == m)) ns ≡ true) (sym at_n) others) in
        let most : one_if (f n) + count_by f ns ≤ count_by f ns + 1 = at_most_one (f n) (count_by f ns) in
        let first : count_by g (n ∷ ns) ≡ one_if (g n) + count_by g ns = sum_by-cons (λ x. one_if (g x)) n ns in
        let second : count_by f (n ∷ ns) ≡ one_if (f n) + count_by f ns = sum_by-cons (λ x. one_if (f x)) n ns in
        omega (arith, rest, most, first, second)
    by_test later others false is =
        let here : g n ≡ f n = same n is in
        let level : one_if (g n) ≡ one_if (f n) = ap one_if here in
        let first : count_by g (n ∷ ns) ≡ one_if (g n) + count_by g ns = sum_by-cons (λ x. one_if (g x)) n ns in
        let second : count_by f (n ∷ ns) ≡ one_if (f n) + count_by f ns = sum_by-cons (λ x. one_if (f x)) n ns in
        omega (arith, later, level, first, second)

-- ---- room

abbrev used : List Entry → ℕ
used history = length history + inside_count history

inside_other : (worker number : ℕ) (call : Call) (reply : Reply) (older : List Entry) → (number == worker) ≡ false →
    is_inside worker (record { who = Worker number; call = call; reply = reply } ∷ older) ≡ is_inside worker older
inside_other worker number call reply older other = rw other refl

never_fewer : (who : Caller) (call : Call) (reply : Reply) (older : List Entry) →
    inside_count older ≤ inside_count (record { who = who; call = call; reply = reply } ∷ older) + 1
never_fewer Controller call reply older = omega arith
never_fewer Reclaimer call reply older = omega arith
never_fewer (Worker number) call reply older =
    one_fewer number (λ worker. is_inside worker older)
    (λ worker. is_inside worker (record { who = Worker number; call = call; reply = reply } ∷ older))
    (λ worker other. inside_other worker number call reply older other) worker_numbers refl

used_grows : (later history : List Entry) → used history ≤ used (later ++ history)
used_grows [] history = omega arith
used_grows (entry ∷ later) history =
    let before : used history ≤ used (later ++ history) = used_grows later history in
    let step : inside_count (later ++ history) ≤ inside_count (entry ∷ (later ++ history)) + 1 =
    never_fewer entry.who entry.call entry.reply (later ++ history) in
    omega (arith, before, step)

still_lacks : (change : SectionChange) (plan : ShardPlan) (needed more : ℕ) → needed ≤ more → IsTrue (lacks_room change plan needed) →
    IsTrue (lacks_room change plan more)
still_lacks Begins plan needed more grows lacks = grind (arith, nat_tests)
still_lacks Ends plan needed more grows lacks = lacks
still_lacks Stays plan needed more grows lacks = grind (arith, nat_tests)

pub full_stays : (plan : ShardPlan) (later history : List Entry) (call : Call) → IsJournalFull plan history call →
    IsJournalFull plan (later ++ history) call
full_stays plan later history call full =
    let grows : used history ≤ used (later ++ history) = used_grows later history in
    still_lacks (section_change call) plan (room_needed history call) (room_needed (later ++ history) call) (omega (arith, grows)) full
