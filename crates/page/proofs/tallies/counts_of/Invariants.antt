use Rattle.std.proofs.Common.{◌≡◌, ◌==◌, ℕ, ◌<◌, get_or, length, take}
use Rattle.std.specs.Prelude.{count_by}
use Rattle.page.proofs.tallies.counts_of.Given as goal

abbrev pub invariant-cells : goal.invariant-cells
invariant-cells l =
    (length l.counts.items ≡ l.size)
    × ((cell : ℕ) → cell < l.size → get_or l.counts.items cell 0 ≡ count_by (λ other. other == cell) (take l.cell-index l.cells))
