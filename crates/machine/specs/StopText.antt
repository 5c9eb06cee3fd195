-- The number and the fields of a stop, as its text prints them.
use Rattle.std.specs.Prelude.{ℕ}
use Rattle.faults.specs.declared.fields.Fields.{Fields}
use Rattle.faults.specs.declared.fields.Fields.TheVariants as fields
use Rattle.machine.specs.declared.exit.Stop.{Stop}
use Rattle.machine.specs.declared.exit.Stop.TheVariants.{JournalFull}

abbrev pub stop_number : Stop → ℕ
stop_number (JournalFull shard) = 60

-- the numbers of the fields that a fault is printed with
abbrev pub stop_fields : Stop → Fields
stop_fields (JournalFull shard) = fields.One shard
