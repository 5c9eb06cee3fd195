use Rattle.std.proofs.Common.{◌≡◌, ◌∙◌, ◌-◌, ℕ, List, ap, arith, length, map, sym, take}
use Rattle.std.proofs.lemmas.List.{length-map}
use Rattle.std.proofs.lemmas.List.Folds.{flat_map-map}
use Rattle.std.specs.List.{flat_map, take-map}
use Rattle.flows.specs.declared.moves.Move.{Move}
use Rattle.flows.specs.FlowRecords.{moved_of}
use Rattle.flows.specs.Telling.{Moved}
use Rattle.page.specs.Tables.{more_text, move_line, moves_table, moves_text}
use Rattle.page.proofs.TextLemmas.{of_same}
use Rattle.page.proofs.tables.moves_text.Goals as goal

pub returns : goal.returns
unfolding moves_text
returns c =
    let rows : List (List ℕ) = map (λ row. row.now) c.args.rows.now in
    let moves : List Move = c.args.moves.now in
    let count : c.saturating_sub.result ≡ length (map moved_of moves) - 100 =
    omega (arith, c.saturating_sub.ensures, length-map moves moved_of) in
    of_same _ _ _ c.moves_table.ensures
    (ap (λ (it : List ℕ). moves_table it c.as_str-2.result.now)
    (c.as_str.ensures.value
    ∙ (c.in_ok-moved.ensures
    ∙ (ap (λ (it : List Move). flat_map (λ move. move_line rows (moved_of move)) it) c.first_moves.ensures
    ∙ (sym (flat_map-map (move_line rows) moved_of (take 100 moves))
    ∙ ap (λ (it : List Moved). flat_map (move_line rows) it) (sym (take-map moved_of 100 moves))))))
    ∙ ap (λ (it : List ℕ). moves_table (flat_map (move_line rows) (take 100 (map moved_of moves))) it)
    (c.as_str-2.ensures.value ∙ (c.in_ok-more.ensures ∙ ap more_text count)))
