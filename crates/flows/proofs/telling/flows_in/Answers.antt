use Rattle.std.proofs.Common.{◌≡◌, ◌∙◌, ℕ, List, Bor, ap, count_by, length, map}
use Rattle.control.specs.declared.command.Command.{Command}
use Rattle.flows.specs.declared.flow.Flow.{Flow}
use Rattle.flows.specs.declared.moves.Move.{Move}
use Rattle.flows.specs.FlowRecords.{moved_of, stories_in, story_of}
use Rattle.flows.specs.Stories.{Story, is_stopped_row}
use Rattle.flows.specs.SummaryText.{summary_text}
use Rattle.flows.specs.TableText.{table_text}
use Rattle.flows.specs.Telling.{Moved, moves_until, stories_until}
use Rattle.flows.proofs.telling.flows_in.Goals as goal

pub returns-clause-flows : goal.returns-clause-flows
returns-clause-flows c =
    let now : Bor (List ℕ) → List ℕ = λ row. row.now in
    let rows : List (List ℕ) = map now c.in_ok-rows.rows.items in
    let stories : stories_in c.in_ok-list.list ≡ stories_until rows c.args.script.now (length rows) =
    c.in_ok-list.ensures.stories
    ∙ (ap (λ (it : List (Bor (List ℕ))). stories_until (map now it) c.commands.result.now (length (map now it))) c.deref.ensures.value
    ∙ ap (λ (it : List Command). stories_until rows it (length rows)) c.commands.ensures) in
    let moves : map moved_of c.in_ok-list.moves.items ≡ moves_until rows c.args.script.now (length rows) =
    c.in_ok-list.ensures.moves
    ∙ (ap (λ (it : List (Bor (List ℕ))). moves_until (map now it) c.commands.result.now (length (map now it))) c.deref.ensures.value
    ∙ ap (λ (it : List Command). moves_until rows it (length rows)) c.commands.ensures) in
    record {
      rows = rows;
      report = c.in_ok-rows.ensures.rows;
      table_is = c.in_ok-table.ensures
          ∙ ap table_text (ap (λ (it : List Flow). map story_of it) c.deref-2.ensures.value ∙ stories);
      summary_is = c.in_ok-summary.ensures
          ∙ (ap (λ (it : List Story). summary_text it (map moved_of c.deref-4.result.now) c.stopped_count.result)
          (ap (λ (it : List Flow). map story_of it) c.deref-3.ensures.value ∙ stories)
          ∙ (ap (λ (it : List Moved). summary_text (stories_until rows c.args.script.now (length rows)) it c.stopped_count.result)
          (ap (λ (it : List Move). map moved_of it) c.deref-4.ensures.value ∙ moves)
          ∙ ap (λ (it : ℕ). summary_text (stories_until rows c.args.script.now (length rows)) (moves_until rows c.args.script.now (length rows)) it)
          (c.stopped_count.ensures ∙ ap (λ (it : List (Bor (List ℕ))). count_by is_stopped_row (map now it)) c.deref-5.ensures.value)));
    }
