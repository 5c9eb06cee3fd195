use Rattle.std.proofs.Common.{◌≡◌, map, take}
use Rattle.flows.specs.FlowRecords.{story_of}
use Rattle.flows.specs.Ranking.{line_view, ranked_view}
use Rattle.flows.specs.SummaryText.{ranked}
use Rattle.flows.proofs.summary.most_moved.Given as goal

abbrev pub invariant-flows : goal.invariant-flows
invariant-flows l = map line_view l.best.items ≡ map ranked_view (take 10 (ranked (take l.flow-index (map story_of l.flows))))
