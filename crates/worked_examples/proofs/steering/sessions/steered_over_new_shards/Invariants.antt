use Rattle.std.proofs.Common.{length}
use Rattle.shards.proofs.shared.Names.{table_names, plan_names, order_name}
use Rattle.worked_examples.proofs.steering.sessions.steered_over_new_shards.Given as goal

abbrev pub ghosts-steered : goal.ghosts-steered
ghosts-steered g a = record { count = length a.opened.shards; table = table_names a.opened; plan = plan_names a.opened; order = order_name a.opened }
