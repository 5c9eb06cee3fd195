use Rattle.journal.specs.Entries.{store_entry}
use Rattle.journal.proofs.counted.Counted.append_store.Given as goal

abbrev pub ghosts-count : goal.ghosts-count
ghosts-count a = record { item = store_entry a.self.now.shard a.about.0 a.about.1.now a.about.2 }
