use Rattle.std.proofs.Common.{length}
use Rattle.shards.proofs.shared.Names.{table_names, plan_names, order_name}
use Rattle.shard_tests.proofs.shared_passes.waiting.four_workers_and_a_visitor_on_one_shard.Given as goal

abbrev pub ghosts-by_five_threads : goal.ghosts-by_five_threads
ghosts-by_five_threads g a = record { count = length a.opened.shards; table = table_names a.opened; plan = plan_names a.opened; order = order_name a.opened }
