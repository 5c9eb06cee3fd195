-- A capture file that is read in pieces, and altered: which bytes are read of it, and which are still to be read.
use Rattle.std.specs.Prelude.{◌≡◌, ℕ, true, List, [], Option, Some, None, ◌++◌}
use Rattle.std.specs.List.{AllByRecursion, concat}
use Rattle.capture_readings.specs.declared.readings.Reading.{Reading}
use Rattle.capture_readings.specs.Readings.{AreCaptureBytes, HasNoRecord, IsRecord, alters, read_records, read_rest, unaltered}

-- how a file is altered: these bytes of it were returned by its folder, and nothing of them was read yet
pub record AlteringView : Type 0 where
  pub reading : Reading
  pub raw : List ℕ

-- the bytes are the capture that this reading reads of the file
pub record AreReadOf (reading : Reading) (has : List ℕ → Type 0) (bytes : List ℕ) : Type 0 where
  pub all : List ℕ
  pub held : has all
  pub bytes_are : AreCaptureBytes reading all bytes

-- these bytes are still to be read: of the whole records that are there and are left in the file, and of its rest
pub record AreStillRead (view : AlteringView) (is_left : List ℕ → Type 0) (bytes : List ℕ) : Type 0 where
  pub behind : List ℕ
  pub left : is_left behind
  pub records : List (List ℕ)
  pub rest : List ℕ
  pub each : AllByRecursion IsRecord records
  pub ends : HasNoRecord rest
  pub parts : view.raw ++ behind ≡ concat records ++ rest
  pub bytes_are : bytes ≡ read_records view.reading records ++ read_rest view.reading rest

-- the same of a file that may be read as it is: then what is left of it is still to be read
abbrev pub still_read : Option AlteringView → (List ℕ → Type 0) → List ℕ → Type 0
still_read None is_left = is_left
still_read (Some view) is_left = AreStillRead view is_left

-- the bytes that its folder returned, and of which nothing was read yet
abbrev pub raw_of : Option AlteringView → List ℕ
raw_of None = []
raw_of (Some view) = view.raw

-- so does this reading read
abbrev pub IsOf : Reading → Option AlteringView → Type 0
IsOf reading None = reading ≡ unaltered
IsOf reading (Some view) = (view.reading ≡ reading) × (alters reading ≡ true)

-- the file is read as before
abbrev pub IsReadAlike : Option AlteringView → Option AlteringView → Type 0
IsReadAlike was now = (reading : Reading) → IsOf reading was → IsOf reading now
