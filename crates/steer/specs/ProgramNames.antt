-- Names of the places and values that the program's lines speak of. Places are bytes; those on the stack are counted from its upper end.
use Rattle.std.specs.Prelude.{ℤ, pos, negsuc}

-- ---- what a run finds in its context

-- the packet's start
abbrev pub packet_start_place : ℤ
packet_start_place = pos 0

-- the packet's end
abbrev pub packet_end : ℤ
packet_end = pos 4

-- ---- where the frame's fields begin, before it is moved and after: both have their headers in the same places

-- the frame's type
abbrev pub ether_type : ℤ
ether_type = pos 12

-- the version and the header's length, in one byte
abbrev pub version : ℤ
version = pos 14

-- the type of service
abbrev pub type_of_service_place : ℤ
type_of_service_place = pos 15

-- the packet's length
abbrev pub total_length_place : ℤ
total_length_place = pos 16

-- flags and offset of a fragment
abbrev pub fragment : ℤ
fragment = pos 20

-- the time to live
abbrev pub time_to_live_place : ℤ
time_to_live_place = pos 22

-- the protocol
abbrev pub protocol : ℤ
protocol = pos 23

-- the header's checksum
abbrev pub header_checksum_place : ℤ
header_checksum_place = pos 24

-- the source address, and after it the destination address
abbrev pub source : ℤ
source = pos 26

-- the destination address
abbrev pub destination : ℤ
destination = pos 30

-- the two ports
abbrev pub ports : ℤ
ports = pos 34

-- the destination's MAC address: its first two bytes
abbrev pub destination_mac : ℤ
destination_mac = pos 0

-- its last four bytes
abbrev pub destination_mac_rest : ℤ
destination_mac_rest = pos 2

-- the source's MAC address: its first four bytes
abbrev pub source_mac : ℤ
source_mac = pos 6

-- its last two bytes
abbrev pub source_mac_rest : ℤ
source_mac_rest = pos 10

-- ---- where values are on the stack, from its upper end

-- the flow's key, of sixteen bytes
abbrev pub flow_key : ℤ
flow_key = negsuc 15

-- the ports in it
abbrev pub flow_ports : ℤ
flow_ports = negsuc 7

-- the protocol in it, and three zeros
abbrev pub flow_protocol : ℤ
flow_protocol = negsuc 3

-- the service's key, of eight bytes
abbrev pub service_key_place : ℤ
service_key_place = negsuc 23

-- the port in it, the protocol and a zero
abbrev pub service_port : ℤ
service_port = negsuc 19

-- an index of four bytes
abbrev pub index : ℤ
index = negsuc 27

-- the first sixteen bytes of the tunnel's record: the source address
abbrev pub tunnel : ℤ
tunnel = negsuc 47

-- in it the source's MAC address: its first four bytes
abbrev pub tunnel_source_mac : ℤ
tunnel_source_mac = negsuc 43

-- its last two bytes
abbrev pub tunnel_macs : ℤ
tunnel_macs = negsuc 39

-- the destination's MAC address: its first two bytes
abbrev pub tunnel_destination_mac : ℤ
tunnel_destination_mac = negsuc 37

-- its last four bytes
abbrev pub tunnel_destination_mac_rest : ℤ
tunnel_destination_mac_rest = negsuc 35

-- the chosen backend's number, of eight bytes
abbrev pub number : ℤ
number = negsuc 55

-- ---- where words begin in records

-- a record's first word
abbrev pub first_word_place : ℤ
first_word_place = pos 0

-- the owner's number plus 1, in a slot's record
abbrev pub owner : ℤ
owner = pos 0

-- the tunnel's record: its first word
abbrev pub tunnel_source_word : ℤ
tunnel_source_word = pos 0

-- its second word
abbrev pub tunnel_macs_word : ℤ
tunnel_macs_word = pos 8

-- its third word
abbrev pub tunnel_ready_word : ℤ
tunnel_ready_word = pos 16

-- ---- values

-- the bytes of an Ethernet header, an IPv4 header and two ports with what follows them in UDP's header
abbrev pub headers : ℤ
headers = pos 42

-- the type of IPv4, 08 00, as a number of the frame's own byte order
abbrev pub ipv4 : ℤ
ipv4 = pos 8

-- version 4, and a header of five words: no options
abbrev pub plain_header : ℤ
plain_header = pos 69

-- the fewest bytes of a packet with an IPv4 and a UDP header
abbrev pub least_packet : ℤ
least_packet = pos 28

-- the most bytes of a packet in a frame of 2048
abbrev pub most_packet : ℤ
most_packet = pos 2034

-- the bytes of an Ethernet header
abbrev pub ethernet_header_length : ℤ
ethernet_header_length = pos 14

-- all bits of flags and offset but "don't fragment", as a number of the frame's own byte order
abbrev pub fragment_bits : ℤ
fragment_bits = pos 65343

-- the protocol TCP
abbrev pub tcp : ℤ
tcp = pos 6

-- the protocol UDP
abbrev pub udp : ℤ
udp = pos 17

-- the most bytes of a packet that goes through the tunnel
abbrev pub most_tunnelled : ℤ
most_tunnelled = pos 1480

-- the bytes of the outer header
abbrev pub outer_header_length : ℤ
outer_header_length = pos 20

-- the bytes of an Ethernet header and the outer header
abbrev pub new_headers : ℤ
new_headers = pos 34

-- the bytes 40 00 40 04 of the outer header: don't fragment, time to live 64, protocol 4 (IP in IP)
abbrev pub unfragmented_ttl_64_ipip : ℤ
unfragmented_ttl_64_ipip = pos 71303232

-- the sum of the outer header's two words that never change: 40 00 and 40 04, in the frame's own byte order
abbrev pub fixed_words : ℤ
fixed_words = pos 1152

-- the lower sixteen bits
abbrev pub low_half_mask : ℤ
low_half_mask = pos 65535

-- the service's flag for no tracking
abbrev pub notrack : ℤ
notrack = pos 1

-- the tunnel is set up
abbrev pub ready : ℤ
ready = pos 1

-- the backend is up
abbrev pub up : ℤ
up = pos 1

-- a lookup found nothing, or a slot has no owner
abbrev pub found_nothing : ℤ
found_nothing = pos 0
