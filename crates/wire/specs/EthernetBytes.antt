-- The fourteen bytes of an Ethernet header.
use Rattle.std.specs.Prelude.{ℕ, List, ◌++◌}
use Rattle.wire.specs.declared.ethernet.EthernetHeader.{EthernetHeader}
use Rattle.wire.specs.FlowBytes.{be_bytes}

-- destination first; the type's high byte first
abbrev pub ethernet_bytes : EthernetHeader → List ℕ
ethernet_bytes header = header.destination.0 ++ header.source.0 ++ be_bytes header.ether_type
