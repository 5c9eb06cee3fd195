use Rattle.journal.specs.Entries.{lookup_entry}
use Rattle.journal.proofs.counted.Counted.append_lookup.Given as goal

abbrev pub ghosts-count : goal.ghosts-count
ghosts-count a = record { item = lookup_entry a.self.now.shard a.about.0 a.about.1.now a.about.2 }
