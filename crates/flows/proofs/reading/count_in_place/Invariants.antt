use Rattle.std.proofs.Common.{◌-◌, ◌≤◌, map, length}
use Rattle.flows.specs.Reports.{AreInPlace}
use Rattle.flows.proofs.reading.count_in_place.Given as goal

abbrev pub invariant-rows : goal.invariant-rows
invariant-rows l = (l.count ≤ length l.rows) × AreInPlace (map (λ row. row.now) l.rows) l.count

abbrev pub decreases-rows : goal.decreases-rows
decreases-rows l = length l.rows - l.count
