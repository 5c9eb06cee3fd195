-- A list that reaches this many items has at least as many.
use Rattle.std.proofs.Common.{◌≡◌, ℕ, zero, suc, ◌≤◌, true, List, [], ◌∷◌, length, arith}
use Rattle.std.proofs.lemmas.Bool.{false≢true}
use Rattle.semantics.specs.LittleEndian.{reaches}

pub has_reached : {A : Type 0} (count : ℕ) (items : List A) → reaches count items ≡ true → count ≤ length items
has_reached zero items h = omega arith
has_reached (suc count) [] h = absurd (false≢true h)
has_reached (suc count) (item ∷ items) h = let l : count ≤ length items = has_reached count items h in omega arith
