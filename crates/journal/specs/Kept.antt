-- How a journal has its entries: as rows, or counted; which, follows from its room.
use Rattle.std.specs.Prelude.{ℕ, ◌<◌}
use Rattle.semantics.specs.ShardPlan.{KeepsRows}
use Rattle.journal.specs.Journaled.{Journaled}
use Rattle.journal.specs.declared.journal_of_shard.Kept.{Kept}
use Rattle.journal.specs.declared.journal_of_shard.Kept.TheVariants.{Rows, Count}

abbrev pub kept_journal : Kept → Journaled
kept_journal (Rows written) = written
kept_journal (Count counted) = counted

-- rows are kept of a journal with room for few entries, and of no other one
abbrev pub IsKeptBySize : Kept → Type 0
IsKeptBySize (Rows written) = KeepsRows written.reserve
IsKeptBySize (Count counted) = 1048576 < counted.reserve
