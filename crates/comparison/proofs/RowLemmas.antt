-- What holds at the first places, and lists of lines.
use Rattle.std.proofs.Common.{arith, ◌≡◌, ◌∙◌, ◌==◌, ◌++◌, ℕ, zero, suc, ◌+◌, ◌<◌, Bool, true, false, List, None, Some, ap, refl, sym, subst}
use Rattle.std.proofs.Common.{eq-eqb, get_or, ne_eqb, slice_index_or, ⊎_elim}
use Rattle.comparison.specs.Rows.{BeginsAsJson, head_line}
use Rattle.std.specs.Path.{rfind_below}
use Rattle.std.proofs.lemmas.Bool.{cases_eq, cond-false, cond-true}
use Rattle.std.proofs.lemmas.Bool.Decides.{nat_tests}

-- what holds at the first N places and at the next one holds at the first N + 1
pub one_further : (holds : ℕ → Bool) (count : ℕ) → ((place : ℕ) → place < count → holds place ≡ true) → holds count ≡ true
    → (place : ℕ) → place < count + 1 → holds place ≡ true
one_further holds count before here place inside = by_test (place == count) refl where
  by_test : (test : Bool) → (place == count) ≡ test → holds place ≡ true
  by_test true is = let same : place ≡ count = grind (arith, nat_tests) in subst (λ (at : ℕ). holds at ≡ true) (sym same) here
  by_test false is = let other : place ≡ count → ⊥ = (λ same. grind (arith, nat_tests)) in before place (omega (arith, inside, other))

-- a report does not begin as JSON lines do
pub head_is_no_json : (rest : List ℕ) → ¬ BeginsAsJson (head_line ++ rest)
head_is_no_json rest (other, is) = omega (arith, ap (λ (bytes : List ℕ). slice_index_or bytes 0 0) is)

-- no byte of the first N is this one
pub none_below : (byte : ℕ) (text : List ℕ) (n : ℕ) → ((i : ℕ) → i < n → get_or text i 0 ≡ byte → ⊥) → rfind_below byte text n ≡ None
none_below byte text zero none = refl
none_below byte text (suc n) none =
    cond-false _ _ _ (ne_eqb _ byte (none n (omega arith))) ∙ none_below byte text n (λ i inside. none i (omega arith))

-- the last of the first N that is this one
pub last_below : (byte : ℕ) (text : List ℕ) (k n : ℕ) → k < n → get_or text k 0 ≡ byte
    → ((i : ℕ) → k < i → i < n → get_or text i 0 ≡ byte → ⊥) → rfind_below byte text n ≡ Some k
last_below byte text k zero inside here none = absurd (omega arith)
last_below byte text k (suc n) inside here none =
    ⊎_elim
    (λ same. cond-true _ _ _ (eq-eqb _ byte (ap (λ j. get_or text j 0) (sym same) ∙ here)) ∙ ap (λ j. Some j) (sym same))
    (λ other. cond-false _ _ _ (ne_eqb _ byte (none n (omega arith) (omega arith)))
    ∙ last_below byte text k n (omega arith) here (λ i behind below. none i behind (omega arith)))
    (cases_eq k n)
