use Rattle.std.proofs.Common.{length}
use Rattle.shards.proofs.shared.Names.{table_names, plan_names, order_name}
use Rattle.replay_tests.proofs.acting.applied_to_new.Given as goal

abbrev pub ghosts-applied : goal.ghosts-applied
ghosts-applied g a = record { count = length a.opened.shards; table = table_names a.opened; plan = plan_names a.opened; order = order_name a.opened }
