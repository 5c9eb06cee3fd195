-- A worker whose run is over leaves the shards that it entered, the lowest first.
use Rattle.std.proofs.Common.{◌≡◌, ◌≢◌, ⊎_elim, ℕ, zero, suc, ◌<◌, ◌≤◌, ◌==◌, ◌||◌, Bool, true, false, cond, not, List, [], ◌∷◌, ◌++◌, refl, sym, ◌∙◌, ap, subst, arith, append-nil}
use Rattle.std.specs.Prelude.{if◌then◌else◌}
use Rattle.std.proofs.lemmas.Bool.{cases_lt, cases_eq, ne_eqb, eqb-true}
use Rattle.std.proofs.lemmas.Bool.Decides.{nat_tests}
use Rattle.semantics.specs.declared.call.Entry.{Entry}
use Rattle.semantics.specs.System.{Setting, Idle, is_entered, without_shard, run_over}
use Rattle.semantics.proofs.shared.SystemSteps.{gone}
use Rattle.shards.specs.declared.deeds.Deed.{Deed}
use Rattle.shards.specs.declared.deeds.Deed.TheVariants.{Wrote}
use Rattle.shard_port.specs.Asking.{leave_by}
use Rattle.shard_port.specs.PassDeeds.{rising, leaving_deeds}
use Rattle.guarantees.specs.Steps.{ShardIsLeft, AreSteps, leavings, entries_on, deeds_in}

-- ---- tests

pub itself : (n : ℕ) → (n == n) ≡ true
itself n = grind (arith, nat_tests)

or_false : (test : Bool) → (test || false) ≡ test
or_false true = refl
or_false false = refl

or_assoc : (a b c : Bool) → (a || (b || c)) ≡ ((a || b) || c)
or_assoc true b c = refl
or_assoc false b c = refl

neither : (a b : Bool) → (a || b) ≡ false → (a ≡ false) × (b ≡ false)
neither true b none = absurd cc
neither false b none = (refl, none)

turned : (one other : ℕ) → (one == other) ≡ false → (other == one) ≡ false
turned one other apart = grind (arith, nat_tests, apart)

off : (one other : ℕ) → other ≢ one → (one == other) ≡ false
off one other apart = ne_eqb one other (λ same. apart (sym same))

-- ---- the shards that a run is in are some of this many, each once

abbrev pub AreEntered : ℕ → List ℕ → Type 0
AreEntered count [] = Unit {0}
AreEntered count (shard ∷ entered) = (is_entered shard entered ≡ false) × (shard < count) × AreEntered count entered

in_both : (number : ℕ) (xs ys : List ℕ) → is_entered number (xs ++ ys) ≡ (is_entered number xs || is_entered number ys)
in_both number [] ys = refl
in_both number (x ∷ xs) ys =
    ap (λ (test : Bool). (x == number) || test) (in_both number xs ys) ∙ or_assoc (x == number) (is_entered number xs) (is_entered number ys)

none_past : (count number : ℕ) (entered : List ℕ) → AreEntered count entered → count ≤ number → is_entered number entered ≡ false
none_past count number [] distinct past = refl
none_past count number (one ∷ entered) distinct past =
    let below : one < count = distinct.1 in
    let apart : (one == number) ≡ false = grind (arith, nat_tests, below, past) in
    ap (λ (test : Bool). test || is_entered number entered) apart ∙ none_past count number entered distinct.2 past

with_last : (count last : ℕ) (entered : List ℕ) → AreEntered count entered → is_entered last entered ≡ false → last < count →
    AreEntered count (entered ++ last ∷ [])
with_last count last [] distinct out below = (refl, below, tt)
with_last count last (one ∷ entered) distinct out below =
    let parts = neither (one == last) (is_entered last entered) out in (
      in_both one entered (last ∷ [])
          ∙ ap (λ (test : Bool). test || is_entered one (last ∷ [])) distinct.0
          ∙ ap (λ (test : Bool). test || false) (turned one last parts.0),
      distinct.1,
      with_last count last entered distinct.2 parts.1 below,
    )

-- ---- the lowest first

abbrev last_of : ℕ → Bool → List ℕ
last_of number test = if test then number ∷ [] else []

not_last : (n number : ℕ) (test : Bool) → (n == number) ≡ false → is_entered number (last_of n test) ≡ false
not_last n number true apart = ap (λ (test : Bool). test || false) apart
not_last n number false apart = refl

is_last : (n : ℕ) (test : Bool) → is_entered n (last_of n test) ≡ test
is_last n true = ap (λ (test : Bool). test || false) (itself n)
is_last n false = refl

past_rising : (n number : ℕ) (entered : List ℕ) → n ≤ number → is_entered number (rising n entered) ≡ false
past_rising zero number entered past = refl
past_rising (suc n) number entered past =
    let apart : (n == number) ≡ false = grind (arith, nat_tests, past) in
    in_both number (rising n entered) (last_of n (is_entered n entered))
    ∙ ap (λ (test : Bool). test || is_entered number (last_of n (is_entered n entered))) (past_rising n number entered (omega (arith, past)))
    ∙ not_last n number (is_entered n entered) apart

rising_there : (n number : ℕ) (entered : List ℕ) → number < n → is_entered number (rising n entered) ≡ is_entered number entered
rising_there zero number entered below = absurd (omega (arith, below))
rising_there (suc n) number entered below = ⊎_elim
    (λ (same : number ≡ n). subst (λ (one : ℕ). is_entered one (rising (suc n) entered) ≡ is_entered one entered) (sym same)
    (in_both n (rising n entered) (last_of n (is_entered n entered))
    ∙ ap (λ (test : Bool). test || is_entered n (last_of n (is_entered n entered))) (past_rising n n entered (omega arith))
    ∙ is_last n (is_entered n entered)))
    (λ (apart : number ≢ n).
    in_both number (rising n entered) (last_of n (is_entered n entered))
    ∙ ap (λ (test : Bool). test || is_entered number (last_of n (is_entered n entered))) (rising_there n number entered (less n number below apart))
    ∙ ap (λ (test : Bool). is_entered number entered || test) (not_last n number (is_entered n entered) (off n number apart))
    ∙ or_false (is_entered number entered))
    (cases_eq number n)
  where
    less : (n number : ℕ) → number < suc n → number ≢ n → number < n
    less n number below apart = grind (arith, below, apart)

rising_entered : (count n : ℕ) (entered : List ℕ) → n ≤ count → AreEntered count (rising n entered)
rising_entered count zero entered fits = tt
rising_entered count (suc n) entered fits = by_test (rising_entered count n entered (omega (arith, fits))) (is_entered n entered)
  where
    by_test : AreEntered count (rising n entered) → (test : Bool) → AreEntered count (rising n entered ++ last_of n test)
    by_test before true = with_last count n (rising n entered) before (past_rising n n entered (omega arith)) (omega (arith, fits))
    by_test before false = subst (λ (list : List ℕ). AreEntered count list) (sym (append-nil (rising n entered))) before

rising_same : (count : ℕ) (entered : List ℕ) → AreEntered count entered → (number : ℕ) →
    is_entered number (rising count entered) ≡ is_entered number entered
rising_same count entered distinct number = ⊎_elim (λ (below : number < count). rising_there count number entered below)
    (λ (past : count ≤ number). past_rising count number entered past ∙ sym (none_past count number entered distinct past))
    (cases_lt number count)

-- ---- leaving

pub still_in : (shard number : ℕ) (entered : List ℕ) → (shard == number) ≡ false →
    is_entered number (without_shard shard entered) ≡ is_entered number entered
still_in shard number [] apart = refl
still_in shard number (one ∷ entered) apart = by_test (still_in shard number entered apart) (one == shard) refl
  where
    by_test : is_entered number (without_shard shard entered) ≡ is_entered number entered → (test : Bool) → (one == shard) ≡ test →
        is_entered number (cond (not test) (one ∷ without_shard shard entered) (without_shard shard entered)) ≡ ((one == number) || is_entered number entered)
    by_test rest true is =
        let same : one ≡ shard = eqb-true one shard is in
        let off : (one == number) ≡ false = ap (λ (n : ℕ). n == number) same ∙ apart in
        rest ∙ ap (λ (test : Bool). test || is_entered number entered) (sym off)
    by_test rest false is = ap (λ (test : Bool). (one == number) || test) rest

-- in whatever order
each_leaves : (setting : Setting) (count worker : ℕ) (left entered : List ℕ) → AreEntered count left →
    ((number : ℕ) → is_entered number left ≡ is_entered number entered) →
    AreSteps setting count worker (run_over entered) (leavings worker left) Idle
each_leaves setting count worker [] [] distinct same = refl
each_leaves setting count worker [] (one ∷ entered) distinct same =
    absurd (let no : false ≡ true = same one ∙ ap (λ (test : Bool). test || is_entered one entered) (itself one) in cc)
each_leaves setting count worker (shard ∷ left) [] distinct same =
    absurd (let no : true ≡ false = sym (ap (λ (test : Bool). test || is_entered shard left) (itself shard)) ∙ same shard in cc)
each_leaves setting count worker (shard ∷ left) (one ∷ entered) distinct same = (
  run_over (without_shard shard (one ∷ entered)),
  ShardIsLeft shard (one ∷ entered) distinct.1 (sym (same shard) ∙ ap (λ (test : Bool). test || is_entered shard left) (itself shard)),
  each_leaves setting count worker left (without_shard shard (one ∷ entered)) distinct.2 rest,
)
  where
    rest : (number : ℕ) → is_entered number left ≡ is_entered number (without_shard shard (one ∷ entered))
    rest number = ⊎_elim
        (λ (here : number ≡ shard). subst (λ (n : ℕ). is_entered n left ≡ is_entered n (without_shard shard (one ∷ entered))) (sym here)
        (distinct.0 ∙ sym (gone shard (one ∷ entered))))
        (λ (apart : number ≢ shard).
        sym (ap (λ (test : Bool). test || is_entered number left) (off shard number apart))
        ∙ same number ∙ sym (still_in shard number (one ∷ entered) (off shard number apart)))
        (cases_eq number shard)

pub all_leave : (setting : Setting) (count worker : ℕ) (entered : List ℕ) → AreEntered count entered →
    AreSteps setting count worker (run_over entered) (leavings worker (rising count entered)) Idle
all_leave setting count worker entered distinct =
    each_leaves setting count worker (rising count entered) entered (rising_entered count count entered (omega arith)) (rising_same count entered distinct)

-- ---- what the worker writes and does so

leaves_on : (count worker number : ℕ) (entered : List ℕ) → AreEntered count entered →
    entries_on number (leavings worker entered) ≡ (if is_entered number entered then leave_by worker number ∷ [] else [])
leaves_on count worker number [] distinct = refl
leaves_on count worker number (shard ∷ entered) distinct = by_test (leaves_on count worker number entered distinct.2) (shard == number) refl
  where
    by_test : entries_on number (leavings worker entered) ≡ (if is_entered number entered then leave_by worker number ∷ [] else []) →
        (test : Bool) → (shard == number) ≡ test →
        cond test (leave_by worker shard ∷ entries_on number (leavings worker entered)) (entries_on number (leavings worker entered))
        ≡ (if (test || is_entered number entered) then leave_by worker number ∷ [] else [])
    by_test rest false is = rest
    by_test rest true is =
        let same : shard ≡ number = eqb-true shard number is in
        let out : is_entered number entered ≡ false = subst (λ (n : ℕ). is_entered n entered ≡ false) same distinct.0 in
        ap (λ (n : ℕ). leave_by worker n ∷ entries_on number (leavings worker entered)) same
        ∙ ap (λ (list : List Entry). leave_by worker number ∷ list)
        (rest ∙ ap (λ (test : Bool). if test then leave_by worker number ∷ [] else []) out)

pub left_on : (count worker number : ℕ) (entered : List ℕ) → AreEntered count entered →
    entries_on number (leavings worker (rising count entered)) ≡ (if is_entered number entered then leave_by worker number ∷ [] else [])
left_on count worker number entered distinct =
    leaves_on count worker number (rising count entered) (rising_entered count count entered (omega arith))
    ∙ ap (λ (test : Bool). if test then leave_by worker number ∷ [] else []) (rising_same count entered distinct number)

pub deeds_left : (worker : ℕ) (shards : List ℕ) → deeds_in worker (leavings worker shards) ≡ leaving_deeds worker shards
deeds_left worker [] = refl
deeds_left worker (shard ∷ shards) = ap (λ (list : List Deed). Wrote (leave_by worker shard) ∷ list) (deeds_left worker shards)
