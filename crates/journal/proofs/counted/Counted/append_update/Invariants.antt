use Rattle.journal.specs.Entries.{update_entry}
use Rattle.journal.proofs.counted.Counted.append_update.Given as goal

abbrev pub ghosts-count : goal.ghosts-count
ghosts-count a = record { item = update_entry a.self.now.shard a.about.0 a.about.1.now a.about.2.now a.about.3 a.about.4 }
