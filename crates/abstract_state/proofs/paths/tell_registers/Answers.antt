use Rattle.std.proofs.Common.{rules, arith, ◌≡◌, ◌<◌, length, ◌∙◌, ap}
use Rattle.abstract_state.specs.declared.kind.Kind.TheVariants.{Unset}
use Rattle.abstract_state.specs.Facts.{told_kind}
use Rattle.std.specs.Prelude.{slice_index_or}
use Rattle.abstract_state.proofs.Filled.{filled-map, filled-step}
use Rattle.abstract_state.proofs.paths.tell_registers.Goals as goal

pub returns : goal.returns
returns c =
    let one : length c.args.told.now ≡ 11 = search rules
    in filled-map Unset (told_kind c.args.fact) c.args.told.now c.registers.told c.registers.invariant.same_length
    (λ k h. c.registers.invariant.done k (omega arith))

pub registers-preserved : goal.registers-preserved
registers-preserved c =
    let new : c.of_kind.result ≡ told_kind c.args.fact (slice_index_or c.registers.told c.registers.i Unset) = search rules
    in let old : slice_index_or c.registers.told c.registers.i Unset ≡ slice_index_or c.args.told.now c.registers.i Unset = c.registers.invariant.rest c.registers.i (omega arith)
    in let inside : c.registers.i < length c.registers.told = search rules
    in filled-step Unset (λ k. told_kind c.args.fact (slice_index_or c.args.told.now k Unset)) c.args.told.now c.registers.told c.registers.i c.of_kind.result
    c.registers.invariant inside (new ∙ ap (told_kind c.args.fact) old)
