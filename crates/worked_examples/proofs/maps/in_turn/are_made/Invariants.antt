use Rattle.std.proofs.Common.{length}
use Rattle.shards.proofs.shared.Names.{table_names, plan_names, order_name}
use Rattle.worked_examples.proofs.maps.in_turn.are_made.Given as goal

abbrev pub ghosts-made : goal.ghosts-made
ghosts-made g a = record { count = length a.opened.shards; table = table_names a.opened; plan = plan_names a.opened; order = order_name a.opened }
