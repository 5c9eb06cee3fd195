use Rattle.std.proofs.Common.{length}
use Rattle.shards.proofs.shared.Names.{table_names, plan_names, order_name}
use Rattle.shard_tests.proofs.shared_passes.many_shards.a_call_of_the_first_while_the_second_is_held.Given as goal

abbrev pub ghosts-second_held : goal.ghosts-second_held
ghosts-second_held g a = record { count = length a.opened.shards; table = table_names a.opened; plan = plan_names a.opened; order = order_name a.opened }
