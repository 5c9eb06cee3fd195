-- The number of the fault and its fields, and its text.
use Rattle.std.specs.Prelude.{ℕ, List, ◌++◌, codes}
use Rattle.std.specs.Fmt.{decimal}
use Rattle.faults.specs.declared.fields.Fields.{Fields}
use Rattle.faults.specs.declared.fields.Fields.TheVariants as fields
use Rattle.semantics.specs.declared.full.JournalFull.{JournalFull}

abbrev pub journal_full_number : JournalFull → ℕ
journal_full_number fault = 50

abbrev pub journal_full_fields : JournalFull → Fields
journal_full_fields fault = fields.One fault.shard

abbrev pub journal_full_text : JournalFull → List ℕ
journal_full_text fault = codes "fault 50 JournalFull shard " ++ decimal fault.shard
