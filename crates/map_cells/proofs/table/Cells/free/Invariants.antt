use Rattle.std.proofs.Common.{◌≡◌, ◌+◌, length, filter}
use Rattle.map_cells.specs.CellTable.{freed_below, is_below}
use Rattle.map_cells.proofs.table.Cells.free.Given as goal

abbrev pub invariant-loop-stamp : goal.invariant-loop-stamp
invariant-loop-stamp l = record {
  count : l.count + length (filter (is_below l.floor) l.self.retired) ≡ length (filter (is_below l.floor) l.initial.self.retired);
  table : freed_below l.floor l.self ≡ freed_below l.floor l.initial.self;
}

abbrev pub decreases-loop-stamp : goal.decreases-loop-stamp
decreases-loop-stamp l = length l.self.retired
