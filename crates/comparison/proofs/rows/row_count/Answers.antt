use Rattle.std.proofs.Common.{arith, ◌∙◌, map, sym, ap}
use Rattle.comparison.specs.Rows.{is_row, row_at}
use Rattle.comparison.proofs.RowLemmas.{one_further}
use Rattle.comparison.proofs.rows.row_count.Goals as goal

pub lines-preserved : goal.lines-preserved
lines-preserved c = (
  omega (arith, c.lines-test.true),
  one_further (λ place. is_row (row_at (map (λ line. line.now) c.args.lines.now) place)) c.lines.count c.lines.invariant.1
      (ap is_row (sym c.row_at.ensures) ∙ (sym c.is_row.ensures ∙ c.if-is_row.true)),
)
