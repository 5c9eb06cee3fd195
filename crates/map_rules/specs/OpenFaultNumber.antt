-- The number of each fault, as its text prints it.
use Rattle.std.specs.Prelude.{ℕ}
use Rattle.map_rules.specs.declared.open_fault.OpenFault.{OpenFault}
use Rattle.map_rules.specs.declared.open_fault.OpenFault.TheVariants.{BadOptions, Memory}

abbrev pub open_fault_number : OpenFault → ℕ
open_fault_number BadOptions = 51
open_fault_number Memory = 52
