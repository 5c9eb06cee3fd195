use Rattle.std.proofs.Common.{◌≡◌, ◌++◌, take, drop}
use Rattle.shard_port.specs.Asking.{all_left}
use Rattle.shard_port.proofs.plain.leave_all.Given as goal

abbrev pub invariant-loop-number : goal.invariant-loop-number
invariant-loop-number l = l.shards ≡ all_left l.worker (take l.number l.initial.shards) ++ drop l.number l.initial.shards
