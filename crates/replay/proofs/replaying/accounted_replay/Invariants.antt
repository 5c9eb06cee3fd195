use Rattle.std.proofs.Common.{length}
use Rattle.shards.proofs.shared.Names.{table_names, plan_names, order_name}
use Rattle.replay.proofs.replaying.accounted_replay.Given as goal

abbrev pub ghosts-replay_over : goal.ghosts-replay_over
ghosts-replay_over g a = record { count = length a.opened.shards; table = table_names a.opened; plan = plan_names a.opened; order = order_name a.opened }
