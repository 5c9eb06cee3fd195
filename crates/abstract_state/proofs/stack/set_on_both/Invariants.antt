use Rattle.std.proofs.Common.{◌&&◌, false}
use Rattle.std.specs.Prelude.{slice_index_or}
use Rattle.abstract_state.proofs.Filled.{Filled}
use Rattle.abstract_state.proofs.stack.set_on_both.Given as goal

abbrev pub invariant-bytes : goal.invariant-bytes
invariant-bytes l =
    Filled false (λ k. slice_index_or l.fn.first k false && slice_index_or l.second k false) l.fn.first l.both l.i
