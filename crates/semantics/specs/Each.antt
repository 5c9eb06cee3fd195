-- A fact of each member of a list and its place, the places counted from some number on.
use Rattle.std.specs.Prelude.{◌≡◌, ℕ, ◌+◌, List}
use mathlib.Core.Option.{some}
use lib.ListN.{get_elem?}

abbrev pub Each : {A : Type 0} → (ℕ → A → Type 0) → ℕ → List A → Type 0
Each {A} P from xs = (place : ℕ) (x : A) → get_elem? xs place ≡ some x → P (from + place) x
