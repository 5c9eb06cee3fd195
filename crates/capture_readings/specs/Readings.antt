-- How the bytes of a file are read as a capture: as they are, or without the end that is cut within a record, with records that are padded
-- to the length of their frames, without records of more bytes than a frame may have.
use Rattle.std.specs.Prelude.{◌≡◌, ◌+◌, ◌-◌, ◌<◌, ◌≤◌, ◌⊎◌, ◌++◌, ◌&&◌, ◌||◌, nat_lt, nat_le, ℕ, Bool, true, false, List, [], length, take, drop}
use Rattle.std.specs.Prelude.{replicate, filter, flat_map, if◌then◌else◌}
use Rattle.std.specs.List.{AllByRecursion, concat}
use Rattle.wire.specs.CaptureFormat.{le32_at}
use Rattle.capture_readings.specs.declared.readings.AlteredCapture.{AlteredCapture}
use Rattle.capture_readings.specs.declared.readings.Reading.{Reading}

-- whether anything but the bytes themselves may be read
abbrev pub alters : Reading → Bool
alters reading = reading.allow_cut || (reading.pad_cut || reading.skip_long)

-- the bytes are read as they are
abbrev pub unaltered : Reading
unaltered = record { skip_long = false; pad_cut = false; allow_cut = false }

-- ---- records

-- how many bytes a record keeps, and how many its frame had when it was captured: both are numbers in its head
abbrev pub kept_len : List ℕ → ℕ
kept_len one = le32_at 8 one

abbrev pub frame_len : List ℕ → ℕ
frame_len one = le32_at 12 one

-- these are the bytes of one record: its head of 16 bytes, and as many bytes as it says that it keeps
pub record IsRecord (record_bytes : List ℕ) : Type 0 where
  pub head : 16 ≤ length record_bytes
  pub whole : length record_bytes ≡ 16 + kept_len record_bytes

-- no whole record is at the front of these bytes: they end in its head, or in what it keeps
abbrev pub HasNoRecord : List ℕ → Type 0
HasNoRecord rest = length rest < 16 ⊎ length rest < 16 + kept_len rest

-- ---- first: the end

-- what is read of the bytes behind the last whole record
abbrev pub read_rest : Reading → List ℕ → List ℕ
read_rest reading rest = if reading.allow_cut then [] else rest

-- how many of them are not read
abbrev pub left_over_of : Reading → List ℕ → ℕ
left_over_of reading rest = if reading.allow_cut then length rest else 0

-- ---- then: padding

-- the record keeps fewer bytes than its frame had
abbrev pub is_snapped : List ℕ → Bool
is_snapped one = nat_lt (kept_len one) (frame_len one)

-- how many zeros it gets: as many as it lacks; none for a frame of more than 2048 bytes, whose record is refused or skipped by its head
abbrev pub zeros_for : List ℕ → ℕ
zeros_for one = if nat_lt 2048 (frame_len one) then 0 else frame_len one - kept_len one

-- the record of its whole frame: by its head it keeps as many bytes as the frame had, and zeros follow those that it has
abbrev pub padded_record : List ℕ → List ℕ
padded_record one = take 8 one ++ (take 4 (drop 12 one) ++ (drop 12 one ++ replicate (zeros_for one) 0))

abbrev pub is_padded : Reading → List ℕ → Bool
is_padded reading one = reading.pad_cut && is_snapped one

abbrev pub with_padding : Reading → List ℕ → List ℕ
with_padding reading one = if is_padded reading one then padded_record one else one

-- the record of a frame of at most 2048 bytes gets zeros
abbrev pub is_filled : Reading → List ℕ → Bool
is_filled reading one = is_padded reading one && nat_le (frame_len one) 2048

-- ---- last: long records

-- a record that keeps more than 2048 bytes
abbrev pub is_long : List ℕ → Bool
is_long one = nat_lt 2048 (kept_len one)

abbrev pub is_skipped : Reading → List ℕ → Bool
is_skipped reading one = reading.skip_long && is_long (with_padding reading one)

-- what is read of a whole record
abbrev pub read_record : Reading → List ℕ → List ℕ
read_record reading one = if is_skipped reading one then [] else with_padding reading one

abbrev pub read_records : Reading → List (List ℕ) → List ℕ
read_records reading records = flat_map (read_record reading) records

-- ---- the capture

-- how many records are skipped, and how many get zeros
abbrev pub skipped_of : Reading → List (List ℕ) → ℕ
skipped_of reading records = length (filter (is_skipped reading) records)

abbrev pub filled_of : Reading → List (List ℕ) → ℕ
filled_of reading records = length (filter (is_filled reading) records)

-- The file consists of a header of 24 bytes (of all bytes, if there are fewer), of whole records, and of a rest that begins with no whole
-- record: nothing, or a record that is cut short. What is left are the header, of each record what is read of it, and of the rest what is
-- read of that.
pub record AreAltered (reading : Reading) (bytes left : List ℕ) : Type 0 where
  pub records : List (List ℕ)
  pub rest : List ℕ
  pub each : AllByRecursion IsRecord records
  pub ends : HasNoRecord rest
  pub parts : bytes ≡ take 24 bytes ++ (concat records ++ rest)
  pub left_are : left ≡ take 24 bytes ++ (read_records reading records ++ read_rest reading rest)

-- and it is counted what is not read as it stands in the file
pub record IsAltered (reading : Reading) (bytes : List ℕ) (altered : AlteredCapture) : Type 0 where
  pub are : AreAltered reading bytes altered.bytes.items
  pub skipped_are : altered.skipped ≡ skipped_of reading are.records
  pub filled_are : altered.padded ≡ filled_of reading are.records
  pub left_over_are : altered.left_over ≡ left_over_of reading are.rest

-- what is left, by whether the reading alters anything: else all bytes
abbrev pub AreLeft : Bool → Reading → List ℕ → List ℕ → Type 0
AreLeft false reading bytes left = bytes ≡ left
AreLeft true reading bytes left = AreAltered reading bytes left

-- the bytes of the capture that is read of these bytes under this reading
abbrev pub AreCaptureBytes : Reading → List ℕ → List ℕ → Type 0
AreCaptureBytes reading bytes left = AreLeft (alters reading) reading bytes left
