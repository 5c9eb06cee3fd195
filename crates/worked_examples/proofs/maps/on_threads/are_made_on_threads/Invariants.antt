use Rattle.std.proofs.Common.{length}
use Rattle.shards.proofs.shared.Names.{table_names, plan_names, order_name}
use Rattle.worked_examples.proofs.maps.on_threads.are_made_on_threads.Given as goal

abbrev pub ghosts-by_turns : goal.ghosts-by_turns
ghosts-by_turns g a = record { count = length a.opened.shards; table = table_names a.opened; plan = plan_names a.opened; order = order_name a.opened }
