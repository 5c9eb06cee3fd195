use Rattle.std.proofs.Common.{◌≡◌, ◌++◌, take}
use Rattle.journals.specs.JournalText.{entries_text}
use Rattle.journals.proofs.printing.put_entries.Given as goal

abbrev pub invariant-entries : goal.invariant-entries
invariant-entries l = l.out.items ≡ l.fn.out.items ++ entries_text (take l.place l.journal)
