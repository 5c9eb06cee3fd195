use Rattle.std.proofs.Common.{◌<◌, ◌^◌}
use Rattle.plain_maps.proofs.index.bucket_count.Given as goal

abbrev pub invariant-loop : goal.invariant-loop
invariant-loop l = record { some : 0 < l.count; few : l.count < 2 ^ 36 }
