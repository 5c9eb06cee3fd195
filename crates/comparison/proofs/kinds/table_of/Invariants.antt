use Rattle.std.proofs.Common.{◌≡◌, ◌≤◌, ℕ, List, map, take}
use Rattle.comparison.specs.Kinds.{HasNoZero, count_of, how_many_changed}
use Rattle.comparison.proofs.kinds.table_of.Given as goal

abbrev pub invariant-places : goal.invariant-places
invariant-places l =
    HasNoZero l.counts × ((change : List ℕ) →
    (count_of l.counts change ≡ how_many_changed (map (λ row. row.now) l.first) (map (λ row. row.now) l.second) change (take l.place-index l.places))
    × (count_of l.counts change ≤ l.place-index))
