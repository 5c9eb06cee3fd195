use Rattle.std.proofs.Common.{length}
use Rattle.shards.proofs.shared.Names.{table_names, plan_names, order_name}
use Rattle.shard_tests.proofs.shared_passes.many_shards.each_of_128_shards_answers.Given as goal

abbrev pub ghosts-entered : goal.ghosts-entered
ghosts-entered g a = record { count = length a.opened.shards; table = table_names a.opened; plan = plan_names a.opened; order = order_name a.opened }
