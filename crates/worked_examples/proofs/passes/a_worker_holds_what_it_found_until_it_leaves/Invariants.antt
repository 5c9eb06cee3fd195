use Rattle.std.proofs.Common.{length}
use Rattle.shards.proofs.shared.Names.{table_names, plan_names, order_name}
use Rattle.worked_examples.proofs.passes.a_worker_holds_what_it_found_until_it_leaves.Given as goal

abbrev pub ghosts-asked : goal.ghosts-asked
ghosts-asked g a = record { count = length a.opened.shards; table = table_names a.opened; plan = plan_names a.opened; order = order_name a.opened }
