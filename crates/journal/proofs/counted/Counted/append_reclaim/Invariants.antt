use Rattle.journal.specs.Entries.{reclaim_entry}
use Rattle.journal.proofs.counted.Counted.append_reclaim.Given as goal

abbrev pub ghosts-count : goal.ghosts-count
ghosts-count a = record { item = reclaim_entry a.self.now.shard a.about.0 a.about.1 }
