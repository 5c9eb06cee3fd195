-- The sixteen bytes of a flow key.
use Rattle.std.specs.Prelude.{ℕ, ◌/◌, ◌%◌, List, [], ◌∷◌, ◌++◌}
use Rattle.wire.specs.declared.flow.Transport.{Transport}
use Rattle.wire.specs.declared.flow.Transport.TheVariants.{Tcp, Udp}
use Rattle.wire.specs.declared.flow.FlowKey.{FlowKey}

-- the protocol number in the IPv4 header
abbrev pub protocol_number : Transport → ℕ
protocol_number Tcp = 6
protocol_number Udp = 17

-- a 16-bit number as two bytes, high byte first
abbrev pub be_bytes : ℕ → List ℕ
be_bytes word = word / 256 ∷ word % 256 ∷ []

abbrev pub flow_key_bytes : FlowKey → List ℕ
flow_key_bytes key =
    key.source.0 ++ key.destination.0 ++ be_bytes key.source_port ++ be_bytes key.destination_port ++
    protocol_number key.transport ∷ 0 ∷ 0 ∷ 0 ∷ []
