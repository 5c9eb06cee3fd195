use Rattle.std.proofs.Common.{length}
use Rattle.shards.proofs.shared.Names.{table_names, plan_names, order_name}
use Rattle.worked_examples.proofs.passes.two_workers.a_caller_knows_its_own_entries.Given as goal

abbrev pub ghosts-row : goal.ghosts-row
ghosts-row g a = record { count = length a.opened.shards; table = table_names a.opened; plan = plan_names a.opened; order = order_name a.opened }
