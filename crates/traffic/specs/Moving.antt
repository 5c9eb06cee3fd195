-- Sent frames whose flow was sent to another address before.
use Rattle.std.specs.Prelude.{ℕ, ◌+◌, ◌*◌, ◌==◌, not, nat_lt, Bool, false, List, [], ◌∷◌, ◌++◌, Option, Some, None, length, reverse}
use Rattle.std.specs.Prelude.{slice_index}
use Rattle.std.specs.Prelude.{if◌then◌else◌}
use Rattle.std.specs.Ordering.{nat_cmp}
use Rattle.std.specs.BTreeMap.{get}
use Rattle.wire.specs.declared.records.Sent.{Sent}
use Rattle.traffic.specs.declared.moves.LastTargets.{LastTargets}
use Rattle.traffic.specs.Counting.{address_at, one_if, target_of}

-- the flow of the packet within a tunnel as one number: addresses, ports and protocol, where the frame is long enough for the ports
abbrev pub inner_flow : List ℕ → ℕ
inner_flow frame =
    ((address_at 46 frame * 4294967296 + address_at 50 frame) * 4294967296 + address_at 54 frame) * 256 + slice_index frame 43

-- the flow of a frame and the address to which its tunnel leads
abbrev pub Passage : Type 0
Passage = ℕ × ℕ

abbrev pub passage_to : List ℕ → Option ℕ → Option Passage
passage_to frame None = None
passage_to frame (Some target) = if nat_lt (length frame) 58 then None else Some (inner_flow frame, target)

abbrev pub passage_of : List ℕ → Option Passage
passage_of frame = passage_to frame (target_of frame)

-- where the newest of these frames of the flow went; the newest frame is the first
abbrev pub target_unless : ℕ → Option Passage → Option ℕ → Option ℕ
target_unless flow None older = older
target_unless flow (Some passage) older = if passage.0 == flow then Some passage.1 else older

abbrev pub last_target : ℕ → List Sent → Option ℕ
last_target flow [] = None
last_target flow (sent ∷ older) = target_unless flow (passage_of sent.bytes.items) (last_target flow older)

-- whether the last frame of this flow went elsewhere
abbrev pub differs : ℕ → Option ℕ → Bool
differs target None = false
differs target (Some last) = not (last == target)

abbrev pub is_moved : Option Passage → List Sent → Bool
is_moved None older = false
is_moved (Some passage) older = differs passage.1 (last_target passage.0 older)

-- how many of these frames, the newest first, are moved
abbrev pub moves_until : List Sent → ℕ
moves_until [] = 0
moves_until (sent ∷ older) = moves_until older + one_if (is_moved (passage_of sent.bytes.items) older)

-- how many of the frames, in their order, went to another address than the last frame of their flow before them
abbrev pub moves_in : List Sent → ℕ
moves_in frames = moves_until (reverse frames)

-- the places of those that are moved, counted from 0 from the oldest on; the frames are given the newest first
abbrev pub moved_until : List Sent → List ℕ
moved_until [] = []
moved_until (sent ∷ older) = moved_until older ++ (if is_moved (passage_of sent.bytes.items) older then length older ∷ [] else [])

abbrev pub moved_places : List Sent → List ℕ
moved_places frames = moved_until (reverse frames)

-- what a table has for a flow
abbrev pub last_in : LastTargets → ℕ → Option ℕ
last_in table flow = get nat_cmp table.targets flow

-- the table after a frame
abbrev pub last_after : LastTargets → Option Passage → ℕ → Option ℕ
last_after table passage flow = target_unless flow passage (last_in table flow)

abbrev pub moves_by : LastTargets → Option Passage → Bool
moves_by table None = false
moves_by table (Some passage) = differs passage.1 (last_in table passage.0)
