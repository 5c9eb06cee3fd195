-- The number of each fault, as its text prints it.
use Rattle.std.specs.Prelude.{ℕ}
use Rattle.shards.specs.declared.pass_fault.PassFault.{PassFault}
use Rattle.shards.specs.declared.pass_fault.PassFault.TheVariants.{BadOptions, Memory, PassTaken}

abbrev pub pass_fault_number : PassFault → ℕ
pass_fault_number BadOptions = 51
pass_fault_number Memory = 52
pass_fault_number PassTaken = 54
