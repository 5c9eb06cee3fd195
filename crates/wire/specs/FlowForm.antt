-- Which frames carry a flow, and the sixteen bytes of its key: an unfragmented IPv4
-- datagram (RFC 791) without options, of TCP or UDP, whole in an Ethernet frame.
use Rattle.std.specs.Prelude.{◌≡◌, ℕ, zero, suc, ◌+◌, ◌≤◌, ◌⊎◌, List, [], ◌∷◌, ◌++◌, slice_index, bit_and}
use Rattle.wire.specs.PlainIpv4.{total_length, IsPlainIpv4}
pub use Rattle.wire.specs.BigEndian.{be_word_at}

-- this many bytes from an index on
abbrev pub bytes_at : ℕ → ℕ → List ℕ → List ℕ
bytes_at from zero bytes = []
bytes_at from (suc count) bytes = slice_index bytes from ∷ bytes_at (from + 1) count bytes

-- the frame has a flow key
pub record HasFlow (frame : List ℕ) : Type 0 where
  pub plain : IsPlainIpv4 frame
  pub total_at_least : 28 ≤ total_length frame
  pub unfragmented : bit_and (be_word_at 20 frame) 0x3fff ≡ 0
  pub transport : (slice_index frame 23 ≡ 6) ⊎ (slice_index frame 23 ≡ 17)

-- source and destination address, source and destination port as they are in the
-- frame, the protocol, three zeros
abbrev pub flow_bytes_of : List ℕ → List ℕ
flow_bytes_of frame = bytes_at 26 12 frame ++ slice_index frame 23 ∷ 0 ∷ 0 ∷ 0 ∷ []
