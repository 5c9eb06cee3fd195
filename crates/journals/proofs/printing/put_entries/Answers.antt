use Rattle.journals.proofs.Headers.{entry_written}
use Rattle.journals.proofs.printing.put_entries.Goals as goal

pub entries-preserved : goal.entries-preserved
entries-preserved c =
    entry_written _ c.entries.out.items c.put_line.new.out.items _ c.args.journal.now c.entries.place c.entry.result c.entry.ensures c.entries.invariant c.in_ok-put_line.ensures c.in_ok-put_word.ensures
