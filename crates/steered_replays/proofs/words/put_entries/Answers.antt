use Rattle.steered_replays.proofs.WordLemmas.{entry_more}
use Rattle.steered_replays.proofs.words.put_entries.Goals as goal

pub entries-preserved : goal.entries-preserved
entries-preserved c =
    entry_more c.args.words.now.items c.entries.words.items c.put_entry.new.words.items c.args.journal.now c.entries.place c.entry.result c.entries.invariant
    c.entry.ensures c.put_entry.ensures
