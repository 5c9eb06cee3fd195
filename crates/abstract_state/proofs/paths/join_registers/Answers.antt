use Rattle.std.proofs.Common.{rules, arith, ◌≡◌, ◌<◌, length, sym, ◌∙◌, ap}
use Rattle.abstract_state.specs.declared.kind.Kind.TheVariants.{Unset}
use Rattle.abstract_state.specs.Join.{join_kind}
use Rattle.std.specs.Prelude.{slice_index_or}
use Rattle.abstract_state.proofs.Filled.{filled-zip_with, filled-step}
use Rattle.abstract_state.proofs.paths.join_registers.Goals as goal

pub returns : goal.returns
returns c =
    let one : length c.args.both.now ≡ 11 = search rules
    in let two : length c.args.second.now ≡ 11 = search rules
    in filled-zip_with Unset Unset (join_kind c.args.version) c.args.both.now c.args.second.now c.registers.both c.registers.invariant.same_length (two ∙ sym one)
    (λ k h. c.registers.invariant.done k (omega arith))

pub registers-preserved : goal.registers-preserved
registers-preserved c =
    let new : c.join.result ≡ join_kind c.args.version (slice_index_or c.registers.both c.registers.i Unset) (slice_index_or c.args.second.now c.registers.i Unset) = search rules
    in let old : slice_index_or c.registers.both c.registers.i Unset ≡ slice_index_or c.args.both.now c.registers.i Unset = c.registers.invariant.rest c.registers.i (omega arith)
    in let inside : c.registers.i < length c.registers.both = search rules
    in filled-step Unset (λ k. join_kind c.args.version (slice_index_or c.args.both.now k Unset) (slice_index_or c.args.second.now k Unset)) c.args.both.now c.registers.both c.registers.i c.join.result
    c.registers.invariant inside (new ∙ ap (λ x. join_kind c.args.version x (slice_index_or c.args.second.now c.registers.i Unset)) old)
