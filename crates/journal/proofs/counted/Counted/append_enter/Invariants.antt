use Rattle.journal.specs.Entries.{enter_entry}
use Rattle.journal.proofs.counted.Counted.append_enter.Given as goal

abbrev pub ghosts-count : goal.ghosts-count
ghosts-count a = record { item = enter_entry a.self.now.shard a.about }
