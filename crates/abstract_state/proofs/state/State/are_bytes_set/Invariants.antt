use Rattle.std.proofs.Common.{◌≡◌, ◌+◌, ◌-◌}
use Rattle.abstract_state.specs.Words.{are_bytes_set}
use Rattle.abstract_state.proofs.state.State.are_bytes_set.Given as goal

abbrev pub invariant-bytes : goal.invariant-bytes
invariant-bytes l = are_bytes_set l.self l.place l.count ≡ are_bytes_set l.self (l.place + l.i) (l.count - l.i)
