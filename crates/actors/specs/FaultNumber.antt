-- The number and the fields of each fault, as its text prints them.
use Rattle.std.specs.Prelude.{ℕ}
use Rattle.faults.specs.declared.fields.Fields.{Fields}
use Rattle.faults.specs.declared.fields.Fields.TheVariants as fields
use Rattle.actors.specs.declared.fault.ReplayFault.{ReplayFault}
use Rattle.actors.specs.declared.fault.ReplayFault.TheVariants.{BadOptions, Memory, NoThread, Refused, Full}

abbrev pub replay_fault_number : ReplayFault → ℕ
replay_fault_number BadOptions = 51
replay_fault_number Memory = 52
replay_fault_number NoThread = 56
replay_fault_number (Refused place answer) = 93
replay_fault_number (Full place) = 94

-- the numbers of the fields that a fault is printed with
abbrev pub replay_fault_fields : ReplayFault → Fields
replay_fault_fields (Refused place answer) = fields.Signed answer
replay_fault_fields other = fields.Empty
