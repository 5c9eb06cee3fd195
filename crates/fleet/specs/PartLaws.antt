-- What holds of the parts of every capture, whether one of them is lost or not.
use Rattle.std.specs.Prelude.{◌≡◌, ◌≢◌, ◌↔◌, ℕ, zero, suc, ◌+◌, ◌-◌, ◌<◌, ◌≤◌, true, List, length, sum_by, slice_get, Option, Some, None}
use Rattle.wire.specs.declared.records.Sent.{Sent}
use Rattle.wire.specs.FlowForm.{flow_bytes_of}
use Rattle.fleet.specs.declared.part.Loss.{Loss}
use Rattle.fleet.specs.Parts.{CanLose, has_flow_key, is_in_part, number_in_part, other_part, part_of_frame, part_of_record, records_of_part}

-- ---- a partition

-- each record of the capture is in one part, and each record of a part is in the capture once
pub record IsPartition (of : ℕ) (lost : Option Loss) (records : List Sent) : Type 0 where
  -- the record at a place is in its own part, behind as many records as the part has before that place. So the parts, merged by these
  -- places, are the capture.
  pub found : (place : ℕ) (sent : Sent) → slice_get records place ≡ Some sent → (part_of_record of lost place sent < of)
      × (slice_get (records_of_part of lost (part_of_record of lost place sent) records)
      (number_in_part of lost (part_of_record of lost place sent) records place) ≡ Some sent)
  -- each record of a part is at one of these places
  pub placed : (number behind : ℕ) (sent : Sent) → slice_get (records_of_part of lost number records) behind ≡ Some sent → (place : ℕ)
      × (slice_get records place ≡ Some sent) × (part_of_record of lost place sent ≡ number) × (number_in_part of lost number records place ≡ behind)
  -- of two records of a part the earlier one of the capture is the earlier one of the part
  pub in_order : (number place later : ℕ) (sent : Sent) → slice_get records place ≡ Some sent → part_of_record of lost place sent ≡ number
      → place < later → number_in_part of lost number records place < number_in_part of lost number records later

abbrev pub PartsAreAPartition : Type 0
PartsAreAPartition = (of : ℕ) (lost : Option Loss) (records : List Sent) → 0 < of → CanLose of lost → IsPartition of lost records

-- ---- flows

-- two frames of one flow are in one part
abbrev pub FlowsAreInOnePart : Type 0
FlowsAreInOnePart = (of : ℕ) (frame other : List ℕ) → has_flow_key frame ≡ true → has_flow_key other ≡ true
    → flow_bytes_of frame ≡ flow_bytes_of other → part_of_frame of frame ≡ part_of_frame of other

-- ---- a loss

-- two records of one flow, both before the loss or both behind it, are in one part
abbrev pub FlowsMoveOnlyAtTheLoss : Type 0
FlowsMoveOnlyAtTheLoss = (of : ℕ) (loss : Loss) (place then : ℕ) (sent other : Sent) → has_flow_key sent.bytes.items ≡ true
    → has_flow_key other.bytes.items ≡ true → flow_bytes_of sent.bytes.items ≡ flow_bytes_of other.bytes.items
    → ((place < loss.from) ↔ (then < loss.from)) → part_of_record of (Some loss) place sent ≡ part_of_record of (Some loss) then other

-- before the loss, and in the other parts, each record is where it is with no loss; behind it none is in the lost part
abbrev pub OnlyTheLostPartMoves : Type 0
OnlyTheLostPartMoves = (of : ℕ) (loss : Loss) (place : ℕ) (sent : Sent)
    → (place < loss.from → part_of_record of (Some loss) place sent ≡ part_of_record of None place sent)
    × (part_of_record of None place sent ≢ loss.part → part_of_record of (Some loss) place sent ≡ part_of_record of None place sent)
    × (loss.from ≤ place → part_of_record of (Some loss) place sent ≢ loss.part)

-- the places that the second hash can name are those of the other parts: each is named, once
abbrev pub OthersAreNamed : Type 0
OthersAreNamed = (of lost part : ℕ) → lost < of → part < of → part ≢ lost
    → (place : ℕ) × (place < of - 1) × (other_part lost place ≡ part) × ((same : ℕ) → other_part lost same ≡ part → same ≡ place)

-- ---- totals

-- the sum of a number over the parts below N
abbrev pub sum_over_parts : (ℕ → ℕ) → ℕ → ℕ
sum_over_parts total zero = 0
sum_over_parts total (suc number) = sum_over_parts total number + total number

-- what is a sum over the records of a capture is the sum of those over the records of its parts
abbrev pub TotalsAddUp : Type 0
TotalsAddUp = (of : ℕ) (lost : Option Loss) (records : List Sent) (figure : Sent → ℕ) → 0 < of → CanLose of lost
    → sum_over_parts (λ number. sum_by figure (records_of_part of lost number records)) of ≡ sum_by figure records

-- and so are the numbers of records
abbrev pub LengthsAddUp : Type 0
LengthsAddUp = (of : ℕ) (lost : Option Loss) (records : List Sent) → 0 < of → CanLose of lost
    → sum_over_parts (λ number. length (records_of_part of lost number records)) of ≡ length records

-- ---- commands

-- a command comes before the same records of the part as in the whole capture
abbrev pub CommandsKeepTheirSide : Type 0
CommandsKeepTheirSide = (of : ℕ) (lost : Option Loss) (number frame place : ℕ) (records : List Sent) (sent : Sent)
    → slice_get records place ≡ Some sent → is_in_part of lost number place sent ≡ true
    → ((frame ≤ place) ↔ (number_in_part of lost number records frame ≤ number_in_part of lost number records place))

-- a later command of the capture is no earlier one of the part, and none has a higher number there
abbrev pub NumbersNeverFall : Type 0
NumbersNeverFall = (of : ℕ) (lost : Option Loss) (number frame later : ℕ) (records : List Sent) → frame ≤ later
    → (number_in_part of lost number records frame ≤ number_in_part of lost number records later)
    × (number_in_part of lost number records frame ≤ frame)
