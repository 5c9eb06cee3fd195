use Rattle.std.proofs.Common.{sym, ◌∙◌}
use Rattle.map_contents.proofs.Remaking.{kept_shards}
use Rattle.map_contents.proofs.fronts.front_numbers.Goals as goal

pub fronts_of-requires-clause-of_journals : goal.fronts_of-requires-clause-of_journals
fronts_of-requires-clause-of_journals c =
    let kept = rw c.in-Shards.is at c.kept.ensures in
    kept_shards c.args.journals.now c.in-Shards.shards.now (sym c.count-count.ensures.count ∙ c.count-count.ensures.one_each) kept.0 kept.1
