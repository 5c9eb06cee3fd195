use Rattle.std.proofs.Common.{◌<◌, ◌^◌}
use Rattle.map_cells.proofs.id_places.chain_count.Given as goal

abbrev pub invariant-loop : goal.invariant-loop
invariant-loop l = record { some : 0 < l.count; few : l.count < 2 ^ 36 }
