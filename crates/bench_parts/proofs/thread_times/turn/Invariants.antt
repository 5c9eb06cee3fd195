use Rattle.std.proofs.Common.{length}
use Rattle.shards.proofs.shared.Names.{table_names, plan_names, order_name}
use Rattle.bench_parts.proofs.thread_times.turn.Given as goal

abbrev pub ghosts-timed_one : goal.ghosts-timed_one
ghosts-timed_one g a = record { count = length a.opened.shards; table = table_names a.opened; plan = plan_names a.opened; order = order_name a.opened }

abbrev pub ghosts-timed_four : goal.ghosts-timed_four
ghosts-timed_four g a = record { count = length a.opened.shards; table = table_names a.opened; plan = plan_names a.opened; order = order_name a.opened }
