use Rattle.std.proofs.Common.{sym, subst}
use Rattle.mistakes.specs.Notes.{AreFewNotes}
use Rattle.mistakes.proofs.NoteLines as line
use Rattle.mistakes.proofs.notes.notes_of.Goals as goal

pub returns : goal.returns
returns c =
    c.in_ok-put_said-3.ensures 2 (c.in_ok-put_said-2.ensures 1 (c.in_ok-put_said.ensures 0
    (subst (AreFewNotes 0) (sym c.new-notes.ensures.bytes) line.nothing)))
