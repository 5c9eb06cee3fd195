use Rattle.std.specs.Prelude.{slice_index_or}
use Rattle.abstract_state.specs.declared.kind.Kind.TheVariants.{Unset}
use Rattle.abstract_state.specs.declared.kind.StackWord.TheVariants.{Spilled}
use Rattle.abstract_state.specs.Facts.{told_word}
use Rattle.abstract_state.proofs.Filled.{Filled}
use Rattle.abstract_state.proofs.paths.tell_stack.Given as goal

abbrev pub invariant-words : goal.invariant-words
invariant-words l = Filled (Spilled Unset) (λ k. told_word l.fact (slice_index_or l.fn.told k (Spilled Unset))) l.fn.told l.told l.i
