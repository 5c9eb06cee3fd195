-- A capture file that is read in pieces: what was read of it, and what is left.
use Rattle.std.specs.Prelude.{◌≡◌, ℕ, ◌+◌, ◌*◌, ◌^◌, ◌≤◌, nat_lt, if◌then◌else◌, List, [], ◌∷◌, ◌++◌, Bool, true, false, Option, Some, None, length, drop}
use Rattle.wire.specs.declared.records.Sent.{Sent}
use Rattle.wire.specs.declared.capture_fault.CaptureFault.{CaptureFault}
use Rattle.wire.specs.CaptureFormat.{le32_at, BeginsWithHeader, BeginsWithRecord, AreRecords, IsCaptureFile, RefusesCapture}
use Rattle.capture_readings.specs.declared.readings.Reading.{Reading}
use Rattle.capture_readings.specs.Readings.{unaltered}
use Rattle.folders.specs.AlteredReading.{AlteringView, AreReadOf, IsOf, raw_of, still_read}
use Rattle.folders.specs.declared.record_head.RecordHead.{RecordHead}

-- what a contract sees of a reader: the bytes that are unread, how many records it read, and how many of these were cut; and where the file is
-- altered how: then the unread bytes are what is read of it, and else those that its folder returned
pub record ReaderView : Type 0 where
  pub unread : List ℕ
  pub count : ℕ
  pub cut : ℕ
  pub source : Option AlteringView

-- behind the header, where these bytes follow it: they are read as they are, or those are that are read of them
abbrev pub read_behind : Bool → Reading → List ℕ → ReaderView
read_behind false reading bytes = record { unread = bytes; count = 0; cut = 0; source = None }
read_behind true reading bytes = record { unread = []; count = 0; cut = 0; source = Some (record { reading = reading; raw = bytes }) }

-- how many bytes are still to be read at most, where so many are left of the file: a record has 16 or more, and gets 2048 at most
abbrev pub most_to_come : ℕ → ReaderView → ℕ
most_to_come most reader = length reader.unread + 129 * (length (raw_of reader.source) + most)

-- so few records are counted, and to come, that no count is too large
abbrev pub HasRoom : ℕ → ReaderView → Type 0
HasRoom most reader = 16 * reader.count + most_to_come most reader ≤ 2 ^ 48

-- 1 for a record at the front of the bytes that keeps fewer bytes than its frame had, else 0
abbrev pub cut_at_front : List ℕ → Sent → ℕ
cut_at_front bytes sent = if nat_lt (length sent.bytes.items) (le32_at 12 bytes) then 1 else 0

-- the reader behind this record, which is at the front of its unread bytes
abbrev pub behind_record : ReaderView → Sent → ReaderView
behind_record reader sent = record {
  unread = drop (16 + length sent.bytes.items) reader.unread;
  count = reader.count + 1;
  cut = reader.cut + cut_at_front reader.unread sent;
  source = reader.source;
}

-- a whole record is at the front of the bytes, and its head says this
pub record IsAtFront (bytes : List ℕ) (head : RecordHead) : Type 0 where
  pub sent : Sent
  pub begins : BeginsWithRecord bytes sent
  pub seconds_are : head.seconds ≡ le32_at 0 bytes
  pub micros_are : head.micros ≡ le32_at 4 bytes
  pub kept_is : head.kept ≡ le32_at 8 bytes
  pub cut_is : head.is_cut ≡ nat_lt (le32_at 8 bytes) (le32_at 12 bytes)

-- how many of the records that the bytes begin with keep fewer bytes than their frames had
abbrev pub cut_record_count : List ℕ → List Sent → ℕ
cut_record_count bytes [] = 0
cut_record_count bytes (sent ∷ sents) = cut_at_front bytes sent + cut_record_count (drop (16 + length sent.bytes.items) bytes) sents

-- the file begins with a header and these records, with this number of cut ones among them, and behind them it has these bytes
pub record HasRecords (has : List ℕ → Type 0) (records : List Sent) (cut : ℕ) (behind : List ℕ) : Type 0 where
  pub all : List ℕ
  pub held : has all
  pub header : BeginsWithHeader all
  pub are : AreRecords (drop 24 all) records behind
  pub cut_is : cut ≡ cut_record_count (drop 24 all) records

-- under this reading the file has these records so far: something is still to be read, and whatever that is, it comes behind them and the unread
-- bytes
pub record IsReadTo (reading : Reading) (has : List ℕ → Type 0) (is_left : List ℕ → Type 0) (records : List Sent) (reader : ReaderView) : Type 0 where
  pub reading_is : IsOf reading reader.source
  pub counted : reader.count ≡ length records
  pub rest : List ℕ
  pub left : still_read reader.source is_left rest
  pub file : (behind : List ℕ) → still_read reader.source is_left behind
      → HasRecords (AreReadOf reading has) records reader.cut (reader.unread ++ behind)

-- under this reading the file is a capture of these records, with this number of cut ones among them
pub record IsReadWhole (reading : Reading) (has : List ℕ → Type 0) (records : List Sent) (cut : ℕ) : Type 0 where
  pub all : List ℕ
  pub held : AreReadOf reading has all
  pub capture : IsCaptureFile all records
  pub cut_is : cut ≡ cut_record_count (drop 24 all) records

-- the file is refused with this fault
pub record IsFileRefused (has : List ℕ → Type 0) (fault : CaptureFault) : Type 0 where
  pub all : List ℕ
  pub held : has all
  pub refused : RefusesCapture all fault

-- from the one state to the other these records were read: behind whatever records a file has in the one, it has these in the other
abbrev pub ReadsOn : {F : Type 0} → (F → List ℕ → List ℕ → Type 0) → (List ℕ → Type 0) → (List ℕ → Type 0) → ReaderView → ReaderView
    → List Sent → Type 0
ReadsOn holds was_left is_left was now sents =
    (reading : Reading) (opened : _) (name : List ℕ) (records : List Sent) → IsReadTo reading (holds opened name) was_left records was →
    IsReadTo reading (holds opened name) is_left (records ++ sents) now

-- behind whatever records a file has in this state come these, and then it ends; this number of all of them were cut
abbrev pub ReadsToEnd : {F : Type 0} → (F → List ℕ → List ℕ → Type 0) → (List ℕ → Type 0) → ReaderView → List Sent → ℕ → Type 0
ReadsToEnd holds was_left was sents cut =
    (reading : Reading) (opened : _) (name : List ℕ) (records : List Sent) → IsReadTo reading (holds opened name) was_left records was →
    IsReadWhole reading (holds opened name) (records ++ sents) cut

-- whatever file has some records in this state, and is read as it is, is refused with this fault
abbrev pub RefusesNext : {F : Type 0} → (F → List ℕ → List ℕ → Type 0) → (List ℕ → Type 0) → ReaderView → CaptureFault → Type 0
RefusesNext holds was_left was fault =
    (opened : _) (name : List ℕ) (records : List Sent) → IsReadTo unaltered (holds opened name) was_left records was →
    IsFileRefused (holds opened name) fault
