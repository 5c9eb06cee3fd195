use Rattle.std.proofs.Common.{rules, arith, ◌≡◌, ◌<◌, length, ◌∙◌, ap}
use Rattle.abstract_state.specs.declared.kind.Kind.TheVariants.{Unset}
use Rattle.abstract_state.specs.declared.kind.StackWord.TheVariants.{Spilled}
use Rattle.abstract_state.specs.Facts.{told_word}
use Rattle.std.specs.Prelude.{slice_index_or}
use Rattle.abstract_state.proofs.Filled.{filled-map, filled-step}
use Rattle.abstract_state.proofs.paths.tell_stack.Goals as goal

pub returns : goal.returns
returns c =
    let one : length c.args.told.now ≡ 64 = search rules
    in filled-map (Spilled Unset) (told_word c.args.fact) c.args.told.now c.words.told c.words.invariant.same_length
    (λ k h. c.words.invariant.done k (omega arith))

pub words-preserved : goal.words-preserved
words-preserved c =
    let new : c.of_word.result ≡ told_word c.args.fact (slice_index_or c.words.told c.words.i (Spilled Unset)) = search rules
    in let old : slice_index_or c.words.told c.words.i (Spilled Unset) ≡ slice_index_or c.args.told.now c.words.i (Spilled Unset) = c.words.invariant.rest c.words.i (omega arith)
    in let inside : c.words.i < length c.words.told = search rules
    in filled-step (Spilled Unset) (λ k. told_word c.args.fact (slice_index_or c.args.told.now k (Spilled Unset))) c.args.told.now c.words.told c.words.i c.of_word.result
    c.words.invariant inside (new ∙ ap (told_word c.args.fact) old)
