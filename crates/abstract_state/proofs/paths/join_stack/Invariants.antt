use Rattle.std.specs.Prelude.{slice_index_or}
use Rattle.abstract_state.specs.declared.kind.Kind.TheVariants.{Unset}
use Rattle.abstract_state.specs.declared.kind.StackWord.TheVariants.{Spilled}
use Rattle.abstract_state.specs.Join.{join_word}
use Rattle.abstract_state.proofs.Filled.{Filled}
use Rattle.abstract_state.proofs.paths.join_stack.Given as goal

abbrev pub invariant-words : goal.invariant-words
invariant-words l = Filled (Spilled Unset) (λ k. join_word l.version (slice_index_or l.fn.both k (Spilled Unset)) (slice_index_or l.second k (Spilled Unset))) l.fn.both l.both l.i
