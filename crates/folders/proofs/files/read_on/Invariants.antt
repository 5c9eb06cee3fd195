use Rattle.std.proofs.Common.{◌-◌, ◌≤◌, length}
use Rattle.folders.proofs.files.read_on.Given as goal

pub record Kept (g : goal.Over) (l : goal.Live-reading g) : Type 0 where
  pub few : length l.bytes.items ≤ l.most
  pub bounded : length l.bytes.items ≤ l.limit

abbrev pub invariant-reading : goal.invariant-reading
invariant-reading g l = Kept g l

abbrev pub decreases-reading : goal.decreases-reading
decreases-reading g l = l.limit - length l.bytes.items
