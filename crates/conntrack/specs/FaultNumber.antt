-- The number of each fault, as its text prints it.
use Rattle.std.specs.Prelude.{ℕ}
use Rattle.conntrack.specs.declared.fault.SteerFault.{SteerFault}
use Rattle.conntrack.specs.declared.fault.SteerFault.TheVariants.{BadSize, Memory}

abbrev pub steer_fault_number : SteerFault → ℕ
steer_fault_number BadSize = 73
steer_fault_number Memory = 74
