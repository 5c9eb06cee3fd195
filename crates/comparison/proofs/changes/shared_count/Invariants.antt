use Rattle.std.proofs.Common.{◌-◌, ◌≤◌, map, length}
use Rattle.comparison.specs.Changes.{AreSameRecords}
use Rattle.comparison.proofs.changes.shared_count.Given as goal

abbrev pub invariant-rows : goal.invariant-rows
invariant-rows l =
    (l.count ≤ length l.first) × (l.count ≤ length l.second)
    × AreSameRecords (map (λ row. row.now) l.first) (map (λ row. row.now) l.second) l.count

abbrev pub decreases-rows : goal.decreases-rows
decreases-rows l = length l.first - l.count
