use Rattle.std.proofs.Common.{◌∙◌, ◌++◌, ℕ, List, add-one, ap, map, sym}
use Rattle.flows.specs.FlowRecords.{moved_of}
use Rattle.flows.specs.Stories.{reason_word}
use Rattle.flows.specs.SummaryText.{comma_before, count_in_words, reason_counts}
use Rattle.flows.specs.Telling.{Moved, moves_for, reason_at}
use Rattle.flows.specs.declared.reason.Reason.{Reason}
use Rattle.flows.proofs.summary.reason_counts.Goals as goal

pub reasons-preserved : goal.reasons-preserved
reasons-preserved c =
    let moves : List Moved = map moved_of c.args.moves.now in
    let place : ℕ = c.reasons.place in
    c.in_ok-push_str.ensures.bytes
    ∙ (ap (λ (it : List ℕ). it ++ c.as_str.result.now) c.reasons.invariant
    ∙ (ap (λ (it : List ℕ). reason_counts moves place ++ it)
    (c.as_str.ensures.value ∙ (c.in_ok-piece.ensures
    ∙ (ap (λ (it : List ℕ). count_in_words it c.how_many.result c.word-word.result.now) c.comma_before.ensures
    ∙ (ap (λ (it : ℕ). count_in_words (comma_before place) it c.word-word.result.now) c.how_many.ensures
    ∙ ap (λ (it : List ℕ). count_in_words (comma_before place) (moves_for place moves) it)
    (c.word-word.ensures ∙ ap (λ (it : Reason). reason_word it) c.at.ensures)))))
    ∙ ap (λ (it : ℕ). reason_counts moves it) (sym (add-one place))))
