use Rattle.std.proofs.Common.{length}
use Rattle.shards.proofs.shared.Names.{table_names, plan_names, order_name}
use Rattle.shard_tests.proofs.port_rows.passes.one_run.Given as goal

abbrev pub ghosts-session : goal.ghosts-session
ghosts-session g a = record { count = length a.opened.shards; table = table_names a.opened; plan = plan_names a.opened; order = order_name a.opened }
