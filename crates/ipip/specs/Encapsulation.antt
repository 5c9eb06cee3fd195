-- IP in IP (RFC 2003): before the packet of a frame is an IPv4 header without options
-- (RFC 791, section 3.1) from one end of a tunnel to the other, and before that the Ethernet
-- addresses of the next hop. The packet itself is left as it was, its time to live too.
use Rattle.std.specs.Prelude.{ℕ, ◌+◌, ◌-◌, List, [], ◌∷◌, ◌++◌, drop}
use Rattle.wire.specs.FrameView.{FrameView}
use Rattle.wire.specs.FlowBytes.{be_bytes}
use Rattle.wire.specs.EthernetBytes.{ethernet_bytes}
use Rattle.wire.specs.Checksum.{ones_sum_of, ones_complement}
use Rattle.wire.specs.PlainIpv4.{type_of_service, total_length}
use Rattle.ipip.specs.declared.ends.Tunnel.{Tunnel}

-- the outer header with this checksum: version 4 and five words of header, the type of service,
-- the total length; identification 0, don't fragment; time to live 64, protocol 4 (IPv4 in IPv4),
-- the checksum; the two ends
abbrev pub header_with : ℕ → ℕ → ℕ → Tunnel → List ℕ
header_with checksum service total tunnel =
    0x45 ∷ service ∷ be_bytes total
    ++ 0 ∷ 0 ∷ 0x40 ∷ 0x00 ∷ []
    ++ 64 ∷ 4 ∷ be_bytes checksum
    ++ tunnel.source.0
    ++ tunnel.target.0

-- the checksum of the header: the complement of the sum where its own field is zero
abbrev pub header_checksum : ℕ → ℕ → Tunnel → ℕ
header_checksum service total tunnel = ones_complement (ones_sum_of (header_with 0 service total tunnel))

-- the outer header of a packet of this many bytes, this header among them
unfoldable pub outer_header : ℕ → ℕ → Tunnel → List ℕ
outer_header service total tunnel = header_with (header_checksum service total tunnel) service total tunnel

-- the Ethernet header: the two addresses, destination first, and the type IPv4
abbrev pub ethernet_header : Tunnel → List ℕ
ethernet_header tunnel = ethernet_bytes (record { destination = tunnel.destination_mac; source = tunnel.source_mac; ether_type = 0x0800 })

-- the frame with these 34 bytes in place of its old Ethernet header, 20 of them out of the headroom
abbrev pub with_headers : List ℕ → List ℕ → FrameView → FrameView
with_headers ethernet outer old = record { bytes = ethernet ++ outer ++ drop 14 old.bytes; headroom = old.headroom - 20 }

-- the frame in the tunnel: the new headers, then the old packet with what followed it
abbrev pub encapsulated_frame : Tunnel → FrameView → FrameView
encapsulated_frame tunnel old =
    with_headers (ethernet_header tunnel) (outer_header (type_of_service old.bytes) (total_length old.bytes + 20) tunnel) old
