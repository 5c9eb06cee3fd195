-- The parts of a capture: each has the records of some of the flows. Where one part is lost, the others have its records from there on.
use Rattle.std.specs.Prelude.{ℕ, suc, ◌+◌, ◌-◌, ◌/◌, ◌%◌, ◌^◌, ◌==◌, ◌<◌, Bool, not, ◌&&◌, ◌||◌, nat_lt, List, [], ◌∷◌, ◌++◌, length, slice_index}
use Rattle.std.specs.Prelude.{bit_and, take, if◌then◌else◌, Option, Some, None}
use Rattle.std.specs.Option.{ForSome}
use Rattle.wire.specs.declared.records.Sent.{Sent}
use Rattle.fleet.specs.declared.part.Loss.{Loss}
use Rattle.wire.specs.FlowForm.{be_word_at, flow_bytes_of}
use Rattle.wire.specs.Fnv.{fnv1a64_of}

-- the frame has a flow (as `HasFlow` says)
abbrev pub has_flow_key : List ℕ → Bool
has_flow_key frame =
    not (nat_lt (length frame) 42) && (slice_index frame 12 == 0x08) && (slice_index frame 13 == 0x00) && (slice_index frame 14 == 0x45)
    && not (nat_lt (be_word_at 16 frame) 28) && not (nat_lt (length frame) (14 + be_word_at 16 frame))
    && (bit_and (be_word_at 20 frame) 0x3fff == 0) && ((slice_index frame 23 == 6) || (slice_index frame 23 == 17))

-- the byte behind a flow's key
abbrev pub salt : ℕ
salt = 0x70

-- and the one in its place where the flow's part is lost
abbrev pub second_salt : ℕ
second_salt = 0x6c

-- a part, counted from 0 of so many, by the upper half of the hash of a flow's key and one byte more. Of FNV-1a the lower bits of two such
-- hashes follow from each other, whatever the byte is, and workers and shards go by these.
abbrev pub part_by : ℕ → ℕ → List ℕ → ℕ
part_by byte of key = (fnv1a64_of (key ++ byte ∷ []) / 2 ^ 32) % of

-- the part of a frame: that of its flow, or the first one where it has none
abbrev pub part_of_frame : ℕ → List ℕ → ℕ
part_of_frame of frame = if has_flow_key frame then part_by salt of (flow_bytes_of frame) else 0

-- ---- a loss

-- one of so many parts can be lost: there is another one
abbrev pub CanLose : ℕ → Option Loss → Type 0
CanLose of lost = ForSome lost (λ (loss : Loss). (loss.part < of) × (1 < of))

-- the part at a place, counted from 0, among those other than the lost one
abbrev pub other_part : ℕ → ℕ → ℕ
other_part lost place = if nat_lt place lost then place else place + 1

-- the place, among so many other parts, of the one that has a frame of the lost part: by the second hash of its flow, or the first one where it
-- has none. A number of parts and that of the others have no common divisor, so that the frames of one part are spread over all others,
-- though of these hashes the upper halves too are near each other.
abbrev pub heir_place : ℕ → List ℕ → ℕ
heir_place others frame = if has_flow_key frame then part_by second_salt others (flow_bytes_of frame) else 0

-- that part
abbrev pub heir_of_frame : ℕ → ℕ → List ℕ → ℕ
heir_of_frame of lost frame = other_part lost (heir_place (of - 1) frame)

-- the part of a frame behind the loss
abbrev pub part_behind : ℕ → ℕ → List ℕ → ℕ
part_behind of lost frame = if part_of_frame of frame == lost then heir_of_frame of lost frame else part_of_frame of frame

-- ---- records

-- the part of a record before which so many of the capture come
abbrev pub part_of_record : ℕ → Option Loss → ℕ → Sent → ℕ
part_of_record of None place sent = part_of_frame of sent.bytes.items
part_of_record of (Some loss) place sent =
    if nat_lt place loss.from then part_of_frame of sent.bytes.items else part_behind of loss.part sent.bytes.items

abbrev pub is_in_part : ℕ → Option Loss → ℕ → ℕ → Sent → Bool
is_in_part of lost number place sent = part_of_record of lost place sent == number

-- the items at which a test gives true that sees how many come before each
abbrev pub filter_at : {X : Type 0} → (ℕ → X → Bool) → List X → List X
filter_at test [] = []
filter_at test (x ∷ xs) = if test 0 x then x ∷ filter_at (λ place. test (suc place)) xs else filter_at (λ place. test (suc place)) xs

-- the records of a part, in the order of the capture
abbrev pub records_of_part : ℕ → Option Loss → ℕ → List Sent → List Sent
records_of_part of lost number records = filter_at (is_in_part of lost number) records

-- those among the next records of the capture, behind so many
abbrev pub records_behind : ℕ → Option Loss → ℕ → ℕ → List Sent → List Sent
records_behind of lost number past records = filter_at (λ place. is_in_part of lost number (place + past)) records

-- how many of the first N records of the capture are in the part. That is the number, in the part, of a command that comes behind N records
-- of the capture.
abbrev pub number_in_part : ℕ → Option Loss → ℕ → List Sent → ℕ → ℕ
number_in_part of lost number records frame = length (records_of_part of lost number (take frame records))

-- how many of the capture's records come before the loss, behind so many; none where there is no loss
abbrev pub records_left : Option Loss → ℕ → ℕ
records_left None past = 0
records_left (Some loss) past = loss.from - past
