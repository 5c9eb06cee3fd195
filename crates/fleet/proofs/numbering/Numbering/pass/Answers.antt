use Rattle.fleet.proofs.NumberLemmas.{taken_few}
use Rattle.fleet.proofs.numbering.Numbering.pass.Goals as goal
use Rattle.fleet.proofs.numbering.Numbering.pass.Goals.{then-is_due+in_ok-note_due, else-is_due}

pub go_past-requires-clause-few : goal.go_past-requires-clause-few
go_past-requires-clause-few c =
    let past = c.requires.numbering.past in
    let numbered = c.requires.numbering.numbered in
    elim c.if-is_due.branch [
      | then-is_due+in_ok-note_due w ↦ rw w.self-is (taken_few _ past _ (w.in_ok-note_due.ensures.noted past numbered))
      | else-is_due w ↦ rw w.self-is (taken_few _ past _ numbered)
    ]
