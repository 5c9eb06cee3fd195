use Rattle.std.proofs.Common.{arith, ◌∙◌}
use Rattle.std.proofs.lemmas.List.{drop_more}
use Rattle.traffic.proofs.AppliedLemmas.{all_applied, one_applied}
use Rattle.traffic.proofs.TableLemmas.{some_slots}
use Rattle.traffic.proofs.applying.words_after.Goals as goal

pub open-requires : goal.open-requires
open-requires c = some_slots c.args.size c.requires

pub lines-preserved : goal.lines-preserved
lines-preserved c = (
  one_applied c.args.size c.lines.command-index c.args.commands.now _ c.lines.controller c.apply.new.controller c.lines.maps c.apply.new.maps
      (drop_more c.args.commands.now c.lines.command-index _ c.lines-test.true) c.lines.invariant.0 c.in_ok-apply.ensures.applied,
  c.in_ok-apply.ensures.serves,
)

pub returns : goal.returns
returns c =
    all_applied c.args.size c.lines.command-index c.args.commands.now c.lines.controller c.lines.maps c.in_ok-table.table.items
    (omega (arith, c.lines.auto.command-index-end, c.lines-test.false)) c.lines.invariant.0
    (c.in_ok-table.ensures.items_if_clones_equal (λ x y same. same) ∙ c.words.ensures)
