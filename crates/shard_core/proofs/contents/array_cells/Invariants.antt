use Rattle.std.proofs.Common.{◌≡◌, ◌+◌}
use Rattle.shard_core.specs.Contents.{filled_table}
use Rattle.shard_core.proofs.contents.array_cells.Given as goal

abbrev pub invariant-loop : goal.invariant-loop
invariant-loop l = l.cells ≡ filled_table l.value l.count (l.count + l.reserve) l.counter
