-- What keeps the journals of all shards.
use Rattle.std.specs.Prelude.{◌≡◌}
use Rattle.journals.specs.JournalsView.{JournalsView}
use Rattle.journals.specs.KeptEntries.{ArePlanned, written_entries}
use Rattle.journals.specs.declared.all.Kept.{Kept}
use Rattle.journals.specs.declared.all.Kept.TheVariants.{Shards, Lists}

-- the shards are those of the maps and have made the calls of the journals, or the lists are the journals
abbrev pub AreKeptIn : JournalsView → Kept → Type 0
AreKeptIn journals (Shards shards) = ArePlanned journals.maps journals.options shards.now × (written_entries shards.now ≡ journals.shards)
AreKeptIn journals (Lists lists) = lists.now ≡ journals.shards
