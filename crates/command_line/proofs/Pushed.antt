-- A fact of each member of a list and its place, where one member more is put at the end.
use Rattle.std.proofs.Common.{arith, ◌≡◌, ◌<◌, refl, ℕ, zero, suc, List, [], ◌∷◌, ◌++◌, length, Some, subst}
use Rattle.std.specs.Prelude.{slice_get}

pub each_pushed : {A : Type 0} (P : ℕ → A → Type 0) (xs : List A) (x : A) → ((place : ℕ) (y : A) → slice_get xs place ≡ Some y → P place y) →
    P (length xs) x → (place : ℕ) (y : A) → slice_get (xs ++ x ∷ []) place ≡ Some y → P place y
each_pushed P [] x were is zero y known = let same : x ≡ y = cc in subst (P zero) same is
each_pushed P [] x were is (suc place) y known = absurd cc
each_pushed P (z ∷ zs) x were is zero y known = were zero y known
each_pushed P (z ∷ zs) x were is (suc place) y known =
    each_pushed (λ n. P (suc n)) zs x (λ n. were (suc n)) is place y known

-- a place inside a list has a member
pub member_at : {A : Type 0} (xs : List A) (place : ℕ) → place < length xs → (x : A) × (slice_get xs place ≡ Some x)
member_at [] place inside = absurd (omega arith)
member_at (x ∷ xs) zero inside = (x, refl)
member_at (x ∷ xs) (suc place) inside = member_at xs place (omega arith)
