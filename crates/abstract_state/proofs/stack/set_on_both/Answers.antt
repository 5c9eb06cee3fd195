use Rattle.std.proofs.Common.{rules, arith, ◌≡◌, ◌&&◌, false, length, sym, ◌∙◌}
use Rattle.abstract_state.proofs.Filled.{filled-zip_with}
use Rattle.abstract_state.proofs.stack.set_on_both.Goals as goal

pub returns : goal.returns
returns c =
    let one : length c.args.first ≡ 8 = search rules
    in let two : length c.args.second ≡ 8 = search rules
    in filled-zip_with false false (λ a b. a && b) c.args.first c.args.second c.bytes.both c.bytes.invariant.same_length (two ∙ sym one)
    (λ k h. c.bytes.invariant.done k (omega arith))
