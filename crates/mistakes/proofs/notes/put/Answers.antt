use Rattle.std.proofs.Common.{ℕ, ◌+◌, List, [], ◌∷◌, ◌++◌, sym, ap, subst, ◌∙◌, string_bytes}
use Rattle.mistakes.specs.Notes.{AreFewNotes}
use Rattle.mistakes.proofs.NoteLines as line
use Rattle.mistakes.proofs.notes.put.Goals as goal

pub returns : goal.returns
returns c = λ most notes.
    subst (AreFewNotes (most + 1))
    (sym (c.in_ok-push_str-3.ensures.bytes
    ∙ ap (λ (text : List ℕ). text ++ 10 ∷ []) (c.in_ok-push_str-2.ensures.bytes
    ∙ ap (λ (text : List ℕ). text ++ c.one_line.result.now) c.in_ok-push_str.ensures.bytes)))
    (line.put_together most (string_bytes c.args.notes.now) c.one_line.result.now notes c.one_line.ensures)
