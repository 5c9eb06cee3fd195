-- The number and the fields of each fault for which no run is made, as its text prints them.
use Rattle.std.specs.Prelude.{ℕ}
use Rattle.faults.specs.declared.fields.Fields.{Fields}
use Rattle.faults.specs.declared.fields.Fields.TheVariants as fields
use Rattle.map_rules.specs.OpenFaultNumber.{open_fault_number}
use Rattle.runs.specs.declared.fault.RunFault.{RunFault}
use Rattle.runs.specs.declared.fault.RunFault.TheVariants.{Open, Refused, Full}

abbrev pub run_fault_number : RunFault → ℕ
run_fault_number (Open fault) = open_fault_number fault
run_fault_number (Refused place answer) = 93
run_fault_number (Full place) = 94

abbrev pub run_fault_fields : RunFault → Fields
run_fault_fields (Open fault) = fields.Empty
run_fault_fields (Refused place answer) = fields.Signed answer
run_fault_fields (Full place) = fields.Empty
