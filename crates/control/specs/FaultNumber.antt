-- The number and the fields of each fault, as its text prints them.
use Rattle.std.specs.Prelude.{ℕ}
use Rattle.faults.specs.declared.fields.Fields.{Fields}
use Rattle.faults.specs.declared.fields.Fields.TheVariants as fields
use Rattle.control.specs.declared.fault.ControlFault.{ControlFault}
use Rattle.control.specs.declared.fault.ControlFault.TheVariants.{BadSize, BadLine, UnknownBackend, BackendTwice, Refused, JournalFull}
use Rattle.control.specs.declared.fault.ControlFault.TheVariants.{Memory}

abbrev pub control_fault_number : ControlFault → ℕ
control_fault_number BadSize = 73
control_fault_number (BadLine line) = 90
control_fault_number UnknownBackend = 91
control_fault_number BackendTwice = 92
control_fault_number (Refused answer) = 93
control_fault_number JournalFull = 94
control_fault_number Memory = 95

-- the numbers of the fields that a fault is printed with
abbrev pub control_fault_fields : ControlFault → Fields
control_fault_fields (BadLine line) = fields.One line
control_fault_fields (Refused answer) = fields.Signed answer
control_fault_fields other = fields.Empty
