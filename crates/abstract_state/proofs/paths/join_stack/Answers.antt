use Rattle.std.proofs.Common.{rules, arith, ◌≡◌, length, sym, ◌∙◌}
use Rattle.abstract_state.specs.declared.kind.Kind.TheVariants.{Unset}
use Rattle.abstract_state.specs.declared.kind.StackWord.TheVariants.{Spilled}
use Rattle.abstract_state.specs.Join.{join_word}
use Rattle.abstract_state.proofs.Filled.{filled-zip_with}
use Rattle.abstract_state.proofs.paths.join_stack.Goals as goal

pub returns : goal.returns
returns c =
    let one : length c.args.both.now ≡ 64 = search rules
    in let two : length c.args.second.now ≡ 64 = search rules
    in filled-zip_with (Spilled Unset) (Spilled Unset) (join_word c.args.version) c.args.both.now c.args.second.now c.words.both c.words.invariant.same_length (two ∙ sym one)
    (λ k h. c.words.invariant.done k (omega arith))
