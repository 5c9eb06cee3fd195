-- The number of each fault, as its text prints it.
use Rattle.std.specs.Prelude.{ℕ}
use Rattle.maglev.specs.declared.fault.RingFault.{RingFault}
use Rattle.maglev.specs.declared.fault.RingFault.TheVariants.{NoBackend, Twice, TooMany, BadSize, Memory}

abbrev pub ring_fault_number : RingFault → ℕ
ring_fault_number NoBackend = 70
ring_fault_number Twice = 71
ring_fault_number TooMany = 72
ring_fault_number BadSize = 73
ring_fault_number Memory = 74
