-- The number of each fault, as its text prints it.
use Rattle.std.specs.Prelude.{ℕ}
use Rattle.ipip.specs.declared.fault.IpipFault.{IpipFault}
use Rattle.ipip.specs.declared.fault.IpipFault.TheVariants.{TtlZero, TooLong, NoRoom, NotPlainIpv4}

abbrev pub ipip_fault_number : IpipFault → ℕ
ipip_fault_number TtlZero = 80
ipip_fault_number TooLong = 81
ipip_fault_number NoRoom = 82
ipip_fault_number NotPlainIpv4 = 83
