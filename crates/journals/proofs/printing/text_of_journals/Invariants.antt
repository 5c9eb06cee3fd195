use Rattle.std.proofs.Common.{◌≡◌, ◌++◌, take}
use Rattle.text_lines.specs.Lines.{ended}
use Rattle.journals.specs.JournalText.{entries_text, all_entries, header_text}
use Rattle.journals.proofs.printing.text_of_journals.Given as goal

abbrev pub invariant-shards : goal.invariant-shards
invariant-shards l = l.out.items ≡ ended (header_text l.journals.options) ++ entries_text (all_entries (take l.number l.journals.shards))
