use Rattle.std.proofs.Common.{◌≡◌, ℕ, ◌<◌, ◌≤◌, ◌/◌, ◌^◌, List, sym, ap, ◌∙◌, subst, arith}
use Rattle.plain_maps.specs.ArrayTable.{cell_in_part}
use Rattle.plain_maps.specs.Listed.{ListsAll}
use Rattle.plain_maps.proofs.IndexKeys.{index_rows, lists_rows}
use Rattle.plain_maps.proofs.array.index_entries.Goals as goal

pub returns : goal.returns
returns c =
    let below : c.args.max_entries < 2 ^ 32 = c.ranges.max_entries.fits in
    let few : c.args.max_entries ≤ 2 ^ 32 = omega (arith, below) in
    let count : c.ranks.rank ≡ c.args.max_entries / c.args.parts = omega (arith, c.ranks-test.false, c.ranks.auto.rank-end, c.from-count.ensures) in
    subst (λ (rows : List (List ℕ × ℕ)). ListsAll (cell_in_part c.args.max_entries c.args.parts c.args.part) rows)
    (sym (c.ranks.invariant ∙ ap (index_rows c.args.parts c.args.part) count))
    (lists_rows c.args.parts c.args.part c.requires.part c.args.max_entries c.requires.equal_parts few)
