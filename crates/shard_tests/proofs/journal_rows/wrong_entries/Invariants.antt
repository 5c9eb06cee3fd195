use Rattle.std.proofs.Common.{◌≡◌, ◌*◌, length}
use Rattle.journal.specs.Journaled.{HasSizes}
use Rattle.shard_tests.proofs.journal_rows.wrong_entries.Given as goal

abbrev pub invariant-tens : goal.invariant-tens
invariant-tens l = HasSizes l.journal (l.tens * 10) 4 8 × (length l.journal.entries ≡ l.counter * 10)
