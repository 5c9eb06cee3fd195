use Rattle.std.proofs.Common.{rules}
use Rattle.atomic_table.proofs.Lists.{at_index}
use Rattle.bench_parts.proofs.job_times.measure_all.Goals as goal

pub pass_all-requires-clause-take : goal.pass_all-requires-clause-take
pass_all-requires-clause-take g c κs outlives = (c.in-Ok.ensures.take.1 0 c.remove-take.result (at_index _ 0 c.remove-take.result (search rules) c.remove-take.ensures.value)).0
