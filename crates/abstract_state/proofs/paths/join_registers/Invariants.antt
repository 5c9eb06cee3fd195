use Rattle.std.specs.Prelude.{slice_index_or}
use Rattle.abstract_state.specs.declared.kind.Kind.TheVariants.{Unset}
use Rattle.abstract_state.specs.Join.{join_kind}
use Rattle.abstract_state.proofs.Filled.{Filled}
use Rattle.abstract_state.proofs.paths.join_registers.Given as goal

abbrev pub invariant-registers : goal.invariant-registers
invariant-registers l = Filled Unset (λ k. join_kind l.version (slice_index_or l.fn.both k Unset) (slice_index_or l.second k Unset)) l.fn.both l.both l.i
