use Rattle.journals.proofs.EntryLemmas.{entries_more}
use Rattle.journals.proofs.entry_list.EntryList.push.Goals as goal

pub returns-clause-pushed : goal.returns-clause-pushed
returns-clause-pushed c =
    rw (c.put.ensures.rows, c.put.ensures.bytes, c.in_ok-reserve.ensures.items, c.in_ok-reserve-2.ensures.items, ← c.self.view_is)
    (entries_more c.self.inside.bytes.items c.self.inside.rows.items c.args.entry.now c.self.invariant)
