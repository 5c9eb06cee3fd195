use Rattle.std.proofs.Common.{length}
use Rattle.shards.proofs.shared.Names.{table_names, plan_names, order_name}
use Rattle.worked_examples.proofs.passes.holding.a_held_shard_answers_when_it_is_let_go.Given as goal

abbrev pub ghosts-held : goal.ghosts-held
ghosts-held g a = record { count = length a.opened.shards; table = table_names a.opened; plan = plan_names a.opened; order = order_name a.opened }
