use Rattle.std.proofs.Common.{◌≡◌, map}
use Rattle.comparison.specs.Changes.{changed_until}
use Rattle.comparison.proofs.changes.changed_places.Given as goal

abbrev pub invariant-rows : goal.invariant-rows
invariant-rows l = l.places.items ≡ changed_until (map (λ row. row.now) l.first) (map (λ row. row.now) l.second) l.place
