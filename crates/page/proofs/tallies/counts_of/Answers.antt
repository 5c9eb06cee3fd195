use Rattle.std.proofs.Common.{arith, ◌+◌, ℕ, List, refl, subst, sym}
use Rattle.page.proofs.CountLemmas.{AreCounted, all_counted, next_counted}
use Rattle.page.proofs.tallies.counts_of.Goals as goal

pub cells-preserved : goal.cells-preserved
cells-preserved c =
    subst (λ (it : List ℕ). AreCounted c.args.cells.now it c.args.size (c.cells.cell-index + 1)) (sym c.add.ensures)
    (next_counted c.args.cells.now c.cells.counts.items c.args.size c.cells.cell-index _ c.cells-test.true refl c.cells.invariant)

pub returns : goal.returns
returns c =
    all_counted c.args.cells.now c.cells.counts.items c.args.size c.cells.cell-index (omega (arith, c.cells-test.false)) c.cells.invariant
