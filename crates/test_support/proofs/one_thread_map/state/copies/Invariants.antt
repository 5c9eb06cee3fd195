use Rattle.std.proofs.Common.{◌≡◌, replicate}
use Rattle.test_support.proofs.one_thread_map.state.copies.Given as goal

abbrev pub invariant-loop : goal.invariant-loop
invariant-loop l = l.cells.items ≡ replicate l.counter l.value
