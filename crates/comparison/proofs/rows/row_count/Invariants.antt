use Rattle.std.proofs.Common.{◌-◌, ◌≤◌, map, length}
use Rattle.comparison.specs.Rows.{AreRows}
use Rattle.comparison.proofs.rows.row_count.Given as goal

abbrev pub invariant-lines : goal.invariant-lines
invariant-lines l = (l.count ≤ length l.lines) × AreRows (map (λ line. line.now) l.lines) l.count

abbrev pub decreases-lines : goal.decreases-lines
decreases-lines l = length l.lines - l.count
