use Rattle.std.proofs.Common.{rules}
use Rattle.conntrack.proofs.shared.MapLemmas.{are_steering}
use Rattle.bench_parts.proofs.command_times.measure.Goals as goal

pub with_backends-requires : goal.with_backends-requires
with_backends-requires c = are_steering _ _ (search rules)
