-- What a frame is to a balancer of TCP and UDP over IPv4 (RFC 791, section 3.1): the first kind in this order that fits.
use Rattle.std.specs.Prelude.{ℕ, ◌+◌, ◌/◌, ◌%◌, ◌==◌, ◌||◌, not, nat_lt, bit_and, List, length, slice_index, if◌then◌else◌}
use Rattle.std.specs.Prelude.{Bool, true, false}
use Rattle.wire.specs.BigEndian.{be_word_at}
use Rattle.wire.specs.PlainIpv4.{total_length, time_to_live}
use Rattle.traffic.specs.declared.kind.FrameKind.{FrameKind}
use Rattle.traffic.specs.declared.kind.FrameKind.TheVariants.{Short, Ipv6, Arp, Vlan, OtherType, Malformed, Options, Fragment, Icmp}
use Rattle.traffic.specs.declared.kind.FrameKind.TheVariants.{OtherProtocol, Expired, Large, Flow}

-- the kind of a datagram of TCP or UDP that is whole and no fragment
abbrev pub flow_kind : List ℕ → FrameKind
flow_kind frame =
    if time_to_live frame == 0 then Expired
    else if nat_lt 1480 (total_length frame) then Large
    else Flow

-- the kind of a whole IPv4 packet without options
abbrev pub packet_kind : List ℕ → FrameKind
packet_kind frame =
    if not (bit_and (be_word_at 20 frame) 0x3fff == 0) then Fragment
    else if slice_index frame 23 == 1 then Icmp
    else if not (slice_index frame 23 == 6 || slice_index frame 23 == 17) then OtherProtocol
    else if nat_lt (total_length frame) 28 then Malformed
    else flow_kind frame

-- the kind of a frame whose Ethernet type is that of IPv4
abbrev pub ipv4_kind : List ℕ → FrameKind
ipv4_kind frame =
    if nat_lt (length frame) 34 || not (slice_index frame 14 / 16 == 4) || nat_lt (slice_index frame 14 % 16) 5 then Malformed
    else if nat_lt 5 (slice_index frame 14 % 16) then Options
    else if nat_lt (total_length frame) 20 || nat_lt (length frame) (14 + total_length frame) then Malformed
    else packet_kind frame

abbrev pub frame_kind_of : List ℕ → FrameKind
frame_kind_of frame =
    if nat_lt (length frame) 14 then Short
    else if be_word_at 12 frame == 0x0800 then ipv4_kind frame
    else if be_word_at 12 frame == 0x86dd then Ipv6
    else if be_word_at 12 frame == 0x0806 then Arp
    else if be_word_at 12 frame == 0x8100 || be_word_at 12 frame == 0x88a8 then Vlan
    else OtherType

-- the kinds of frames that have a flow
abbrev pub is_of_flow_kind : FrameKind → Bool
is_of_flow_kind Expired = true
is_of_flow_kind Large = true
is_of_flow_kind Flow = true
is_of_flow_kind other = false
