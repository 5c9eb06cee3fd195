-- How many frames of a capture are of a kind, and how many sent frames go through a tunnel to an address.
use Rattle.std.specs.Prelude.{◌≡◌, ◌≢◌, ℕ, ◌+◌, ◌*◌, ◌==◌, ◌||◌, not, nat_lt, Bool, false, List, length, filter, slice_index, Option, Some}
use Rattle.std.specs.Prelude.{None}
use Rattle.std.specs.Prelude.{if◌then◌else◌, unwrap_or}
use Rattle.std.specs.Ordering.{nat_cmp}
use Rattle.std.specs.BTreeMap.{get}
use Rattle.traffic.specs.declared.tunnels.Targets.{Targets}
use Rattle.wire.specs.BigEndian.{be_word_at}
use Rattle.wire.specs.declared.records.Sent.{Sent}
use Rattle.traffic.specs.declared.kind.FrameKind.{FrameKind}
use Rattle.traffic.specs.declared.kind.FrameKind.TheVariants.{Short, Ipv6, Arp, Vlan, OtherType, Malformed, Options, Fragment, Icmp}
use Rattle.traffic.specs.declared.kind.FrameKind.TheVariants.{OtherProtocol, Expired, Large, Flow}
use Rattle.traffic.specs.Kinds.{frame_kind_of}

-- the place of a kind in their order
abbrev pub place_of : FrameKind → ℕ
place_of Short = 0
place_of Ipv6 = 1
place_of Arp = 2
place_of Vlan = 3
place_of OtherType = 4
place_of Malformed = 5
place_of Options = 6
place_of Fragment = 7
place_of Icmp = 8
place_of OtherProtocol = 9
place_of Expired = 10
place_of Large = 11
place_of Flow = 12

abbrev pub is_of_kind : FrameKind → Sent → Bool
is_of_kind kind sent = place_of (frame_kind_of sent.bytes.items) == place_of kind

-- how many of the frames are of this kind
abbrev pub how_many_of_kind : FrameKind → List Sent → ℕ
how_many_of_kind kind frames = length (filter (is_of_kind kind) frames)

-- ---- tunnels

-- the four bytes at an index as one number, the first byte highest
abbrev pub address_at : ℕ → List ℕ → ℕ
address_at at bytes = be_word_at at bytes * 65536 + be_word_at (at + 2) bytes

-- the address to which a frame's tunnel leads, as one number: that of its outer header, if it holds IP in IP (RFC 2003), protocol 4
abbrev pub target_of : List ℕ → Option ℕ
target_of frame =
    if nat_lt (length frame) 34 || not (be_word_at 12 frame == 0x0800) || not (slice_index frame 14 == 0x45)
    || not (slice_index frame 23 == 4)
    then None
    else Some (address_at 30 frame)

abbrev pub is_target_address : ℕ → Option ℕ → Bool
is_target_address address None = false
is_target_address address (Some target) = target == address

abbrev pub leads_to : ℕ → Sent → Bool
leads_to address sent = is_target_address address (target_of sent.bytes.items)

-- how many of the frames go through a tunnel to this address
abbrev pub how_many_to : ℕ → List Sent → ℕ
how_many_to address frames = length (filter (leads_to address) frames)

-- 1 for a frame that is counted
abbrev pub one_if : Bool → ℕ
one_if counted = if counted then 1 else 0

-- the number that a table of counts has for an address
abbrev pub count_to : Targets → ℕ → ℕ
count_to targets address = unwrap_or (get nat_cmp targets.counts address) 0

-- the address has one more, and the others have what they had
pub record HasOneMoreFor (old new : Targets) (address : ℕ) : Type 0 where
  pub here : count_to new address ≡ count_to old address + 1
  pub others : (other : ℕ) → other ≢ address → count_to new other ≡ count_to old other
