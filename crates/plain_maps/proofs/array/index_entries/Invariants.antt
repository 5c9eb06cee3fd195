use Rattle.std.proofs.Common.{◌≡◌}
use Rattle.plain_maps.proofs.IndexKeys.{index_rows}
use Rattle.plain_maps.proofs.array.index_entries.Given as goal

abbrev pub invariant-ranks : goal.invariant-ranks
invariant-ranks l = l.entries.items ≡ index_rows l.parts l.part l.rank
