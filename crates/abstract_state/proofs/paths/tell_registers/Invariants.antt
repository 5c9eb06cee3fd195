use Rattle.std.specs.Prelude.{slice_index_or}
use Rattle.abstract_state.specs.declared.kind.Kind.TheVariants.{Unset}
use Rattle.abstract_state.specs.Facts.{told_kind}
use Rattle.abstract_state.proofs.Filled.{Filled}
use Rattle.abstract_state.proofs.paths.tell_registers.Given as goal

abbrev pub invariant-registers : goal.invariant-registers
invariant-registers l = Filled Unset (λ k. told_kind l.fact (slice_index_or l.fn.told k Unset)) l.fn.told l.told l.i
