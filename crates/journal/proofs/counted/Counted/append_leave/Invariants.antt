use Rattle.journal.specs.Entries.{leave_entry}
use Rattle.journal.proofs.counted.Counted.append_leave.Given as goal

abbrev pub ghosts-count : goal.ghosts-count
ghosts-count a = record { item = leave_entry a.self.now.shard a.about }
