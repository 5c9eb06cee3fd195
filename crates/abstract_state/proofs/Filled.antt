-- Loops that write every place of an array in turn: the places before this one have their new item, the others the old one.
use Rattle.std.proofs.Common.{◌≡◌, ℕ, suc, ◌+◌, ◌<◌, ◌≤◌, List, [], ◌∷◌, length, refl, ◌∙◌, arith}
use Rattle.std.specs.Prelude.{map, slice_index_or, slice_set}
use Rattle.std.proofs.lemmas.Grind.{get_or-set_at}
use Rattle.std.proofs.lemmas.List.{get_or-set_other, length-set}
use Rattle.std.proofs.lemmas.Bool.{cases_eq}
use Rattle.std.proofs.Math.Logic.{⊎_elim}
use Rattle.abstract_state.specs.Join.{zip_with}

pub record Filled {A : Type 0} (d : A) (f : ℕ → A) (old now : List A) (i : ℕ) : Type 0 where
  pub same_length : length now ≡ length old
  pub done : (k : ℕ) → k < i → slice_index_or now k d ≡ f k
  pub rest : (k : ℕ) → i ≤ k → slice_index_or now k d ≡ slice_index_or old k d

pub filled-start : {A : Type 0} → (d : A) (f : ℕ → A) (old : List A) → Filled d f old old 0
filled-start d f old = record { same_length = refl; done = λ k h. absurd (omega arith); rest = λ k h. refl }

pub filled-step : {A : Type 0} → (d : A) (f : ℕ → A) (old now : List A) (i : ℕ) (y : A) →
    Filled d f old now i → i < length now → y ≡ f i → Filled d f old (slice_set now i y) (i + 1)
filled-step d f old now i y filled inside new = record {
  same_length = length-set now i y ∙ filled.same_length;
  done = λ k h. ⊎_elim
      (λ e. rw e (get_or-set_at now i i y d refl inside ∙ new))
      (λ n. get_or-set_other now i k y d n ∙ filled.done k (omega arith))
      (cases_eq k i);
  rest = λ k h. get_or-set_other now i k y d (λ e. omega arith) ∙ filled.rest k (omega arith);
}

pub filled-map : {A : Type 0} → (d : A) (g : A → A) (old now : List A) → length now ≡ length old →
    ((k : ℕ) → k < length old → slice_index_or now k d ≡ g (slice_index_or old k d)) → now ≡ map g old
filled-map d g [] [] e same = refl
filled-map d g [] (y ∷ now) e same = absurd (omega (arith, e))
filled-map d g (x ∷ old) [] e same = absurd (omega (arith, e))
filled-map d g (x ∷ old) (y ∷ now) e same =
    let first : y ≡ g x = same 0 (omega arith)
    in let others : now ≡ map g old = filled-map d g old now (omega arith) (λ k h. same (suc k) (omega arith))
    in rw (first, others) refl

pub filled-zip_with : {A B : Type 0} → (d : A) (b : B) (g : A → B → A) (old : List A) (other : List B) (now : List A) →
    length now ≡ length old → length other ≡ length old →
    ((k : ℕ) → k < length old → slice_index_or now k d ≡ g (slice_index_or old k d) (slice_index_or other k b)) → now ≡ zip_with g old other
filled-zip_with d b g [] other [] e l same = refl
filled-zip_with d b g [] other (y ∷ now) e l same = absurd (omega (arith, e))
filled-zip_with d b g (x ∷ old) other [] e l same = absurd (omega (arith, e))
filled-zip_with d b g (x ∷ old) [] (y ∷ now) e l same = absurd (omega (arith, l))
filled-zip_with d b g (x ∷ old) (z ∷ other) (y ∷ now) e l same =
    let first : y ≡ g x z = same 0 (omega arith)
    in let others : now ≡ zip_with g old other = filled-zip_with d b g old other now (omega arith) (omega arith) (λ k h. same (suc k) (omega arith))
    in rw (first, others) refl
