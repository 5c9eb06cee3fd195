-- The number and the fields of each fault, as its text prints them.
use Rattle.std.specs.Prelude.{ℕ}
use Rattle.faults.specs.declared.fields.Fields.{Fields}
use Rattle.faults.specs.declared.fields.Fields.TheVariants as fields
use Rattle.journals.specs.declared.fault.FileFault.{FileFault}
use Rattle.journals.specs.declared.fault.FileFault.TheVariants.{Device, Memory, BadJournalFile}

abbrev pub file_fault_number : FileFault → ℕ
file_fault_number Device = 7
file_fault_number Memory = 52
file_fault_number (BadJournalFile line) = 55

-- the numbers of the fields that a fault is printed with
abbrev pub file_fault_fields : FileFault → Fields
file_fault_fields (BadJournalFile line) = fields.One line
file_fault_fields Device = fields.Empty
file_fault_fields Memory = fields.Empty
