use Rattle.std.proofs.Common.{◌≡◌, ◌∙◌, ◌<◌, ℕ, true, false, ap, arith, length, map, take}
use Rattle.std.proofs.lemmas.Bool.Decides.{nat_tests}
use Rattle.std.proofs.lemmas.List.{length-map}
use Rattle.std.specs.Prelude.{nat_lt}
use Rattle.std.specs.List.{insert}
use Rattle.flows.specs.FlowRecords.{story_of}
use Rattle.flows.specs.Ranking.{line_view}
use Rattle.flows.specs.SummaryText.{was_moved}
use Rattle.flows.proofs.MapLemmas.{first_or_end}
use Rattle.flows.proofs.RankLemmas.{kept_more, kept_same}
use Rattle.flows.proofs.StoryLemmas.{read_story}
use Rattle.flows.proofs.summary.most_moved.Goals.{then-flow-ne0+in_ok-line+in_ok-put_ranked, else-flow-ne0}
use Rattle.flows.proofs.summary.most_moved.Goals as goal

pub flows-preserved : goal.flows-preserved
flows-preserved c =
    let inside : c.flows.flow-index < length (map story_of c.args.flows.now) =
    omega (arith, c.flows-test.true, length-map c.args.flows.now story_of) in
    let read = read_story c.args.flows.now c.flows.flow-index c.flow-item.result c.flow-item.is in
    elim c.if-flow-ne0.branch [
      | then-flow-ne0+in_ok-line+in_ok-put_ranked w ↦
          let moved : was_moved (story_of c.flow-item.result) ≡ true = grind (arith, nat_tests) in
          rw w.best-is (kept_more c.flows.best.items w.put_ranked.new.best.items (map story_of c.args.flows.now) c.flows.flow-index
          (story_of c.flow-item.result) w.in_ok-line.line inside read c.flows.invariant moved w.in_ok-line.ensures
          (w.in_ok-put_ranked.ensures
          ∙ ap (λ (n : ℕ). take 10 (insert c.flows.best.items n (c.flow-item.result.changes, w.in_ok-line.line)))
          (first_or_end (λ line. nat_lt line.0 c.flow-item.result.changes) c.flows.best.items)))
      | else-flow-ne0 w ↦
          let unmoved : was_moved (story_of c.flow-item.result) ≡ false = grind (arith, nat_tests) in
          rw w.best-is (kept_same (map line_view c.flows.best.items) (map story_of c.args.flows.now) c.flows.flow-index
          (story_of c.flow-item.result) inside read c.flows.invariant unmoved)
    ]
