-- What a closure leaves that is called at each record, and counts down the records before a loss.
use Rattle.std.proofs.Common.{◌≡◌, ℕ, suc, ◌-◌, Bool, true, false, cond, List, [], ◌∷◌, Option, Some, None, length, refl, ap, ◌∙◌, arith}
use Rattle.std.specs.List.{items_where_true}
use Rattle.std.specs.List.Retain.{ReturnsInTurn, IsFiltered}
use Rattle.fleet.specs.declared.part.Loss.{Loss}
use Rattle.fleet.specs.Parts.{filter_at, records_left}

module _ {X F : Type 0} (R : F → X → Bool → F → Type 0) where
  first_kept : (b c : Bool) (x : X) (us vs : List X) → b ≡ c → us ≡ vs → cond b (x ∷ us) us ≡ cond c (x ∷ vs) vs
  first_kept b c x us vs e rest = ap (λ t. cond t (x ∷ us) us) e ∙ ap (λ (l : List X). cond c (x ∷ l) l) rest

  where_true : (b : Bool) (bs : List Bool) (x : X) (xs : List X) → items_where_true (b ∷ bs) (x ∷ xs) ≡ cond b (x ∷ items_where_true bs xs) (items_where_true bs xs)
  where_true true bs x xs = refl
  where_true false bs x xs = refl

  told_at : (p : ℕ → X → Bool) (At : ℕ → F → Type 0) → ((place : ℕ) (f : F) (x : X) (b : Bool) (f' : F) → At place f → R f x b f' → (b ≡ p place x) × At (suc place) f')
      → (f : F) → At 0 f → (bs : List Bool) (xs : List X) (q : F) → length bs ≡ length xs → ReturnsInTurn R f bs xs q → items_where_true bs xs ≡ filter_at p xs
  told_at p At step f at [] [] q e t = refl
  told_at p At step f at [] (x ∷ xs) q e t = absurd (omega (arith, e))
  told_at p At step f at (b ∷ bs) [] q e t = absurd t
  told_at p At step f at (b ∷ bs) (x ∷ xs) q e t =
      let one = step 0 f x b t.0 at t.1 in
      where_true b bs x xs ∙ first_kept b (p 0 x) x (items_where_true bs xs) (filter_at (λ n. p (suc n)) xs) one.0
      (told_at (λ n. p (suc n)) (λ n. At (suc n)) (λ place. step (suc place)) t.0 one.1 bs xs q (omega (arith, e)) t.2)

  -- what is left of a list by a closure whose state says how many items came before
  pub filtered_at : (p : ℕ → X → Bool) (At : ℕ → F → Type 0) → ((place : ℕ) (f : F) (x : X) (b : Bool) (f' : F) → At place f → R f x b f' → (b ≡ p place x) × At (suc place) f')
      → (f : F) → At 0 f → (xs ys : List X) → IsFiltered R f xs ys → ys ≡ filter_at p xs
  filtered_at p At step f at xs ys k = k.4 ∙ told_at p At step f at k.0 xs k.1 k.2 k.3

-- ---- one record more

pub one_less : (lost : Option Loss) (place : ℕ) → records_left lost place - 1 ≡ records_left lost (suc place)
one_less None place = refl
one_less (Some loss) place = omega arith
