-- Which Ethernet frames hold a whole IPv4 packet without options (RFC 791, section 3.1),
-- and the fields of its header.
use Rattle.std.specs.Prelude.{◌≡◌, ℕ, ◌+◌, ◌≤◌, List, length, slice_index}
use Rattle.wire.specs.BigEndian.{be_word_at}

-- the type of service of the packet in the frame
abbrev pub type_of_service : List ℕ → ℕ
type_of_service frame = slice_index frame 15

-- how many bytes the packet has, by its own header: the header's 20 and the data
abbrev pub total_length : List ℕ → ℕ
total_length frame = be_word_at 16 frame

-- the time to live of the packet in the frame
abbrev pub time_to_live : List ℕ → ℕ
time_to_live frame = slice_index frame 22

-- the frame holds a whole IPv4 packet without options, and perhaps padding after it
pub record IsPlainIpv4 (frame : List ℕ) : Type 0 where
  pub long : 34 ≤ length frame
  pub ether_type_high : slice_index frame 12 ≡ 0x08
  pub ether_type_low : slice_index frame 13 ≡ 0x00
  pub version_and_header_length : slice_index frame 14 ≡ 0x45
  pub total_at_least : 20 ≤ total_length frame
  pub whole : 14 + total_length frame ≤ length frame
