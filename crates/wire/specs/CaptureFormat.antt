-- The classic capture file (pcap 2.4, little-endian, microseconds): a header of 24
-- bytes, then records of a head of 16 bytes and the kept bytes of a frame.
use Rattle.std.specs.Prelude.{◌≡◌, ℕ, ◌+◌, ◌<◌, ◌≤◌, ◌≢◌, ◌⊎◌, List, [], ◌∷◌, ◌++◌, length, take, drop, ⊤, All}
use Rattle.byteorder.specs.Endian.{little_number, little_bytes}
use Rattle.wire.specs.declared.records.Sent.{Sent}
use Rattle.wire.specs.declared.capture_fault.CaptureFault.{CaptureFault}
use Rattle.wire.specs.declared.capture_fault.CaptureFault.TheVariants.{BadMagic, BadVersion, BadLink, CutHead, CutFrame, FrameTooLong}
use Rattle.wire.specs.declared.capture_fault.CaptureFault.TheVariants.{Device, Memory}

-- the numbers of 16 and of 32 bits at an index, low byte first
abbrev pub le16_at : ℕ → List ℕ → ℕ
le16_at at bytes = little_number 2 (drop at bytes)

abbrev pub le32_at : ℕ → List ℕ → ℕ
le32_at at bytes = little_number 4 (drop at bytes)

-- the bytes begin with a header of version 2.4 for Ethernet (link type 1). Its zone,
-- accuracy and snap length may be any.
pub record BeginsWithHeader (bytes : List ℕ) : Type 0 where
  pub long : 24 ≤ length bytes
  pub magic : le32_at 0 bytes ≡ 0xa1b2c3d4
  pub major : le16_at 4 bytes ≡ 2
  pub minor : le16_at 6 bytes ≡ 4
  pub link : le32_at 20 bytes ≡ 1

-- the bytes begin with the record of a frame of up to 2048 bytes. Its original length
-- may be any.
pub record BeginsWithRecord (bytes : List ℕ) (sent : Sent) : Type 0 where
  pub seconds : le32_at 0 bytes ≡ sent.seconds
  pub micros : le32_at 4 bytes ≡ sent.micros
  pub kept : le32_at 8 bytes ≡ length sent.bytes.items
  pub small : length sent.bytes.items ≤ 2048
  pub whole : 16 + length sent.bytes.items ≤ length bytes
  pub frame : sent.bytes.items ≡ take (length sent.bytes.items) (drop 16 bytes)

-- the bytes are these records, one after the other, and then the rest
abbrev pub AreRecords : List ℕ → List Sent → List ℕ → Type 0
AreRecords bytes [] rest = bytes ≡ rest
AreRecords bytes (sent ∷ sents) rest =
    BeginsWithRecord bytes sent × AreRecords (drop (16 + length sent.bytes.items) bytes) sents rest

-- the bytes are a capture file of these records
pub record IsCaptureFile (bytes : List ℕ) (sents : List Sent) : Type 0 where
  pub header : BeginsWithHeader bytes
  pub records : AreRecords (drop 24 bytes) sents []

-- what is wrong with the header, in the order in which it is looked at
abbrev pub IsHeaderFault : List ℕ → CaptureFault → Type 0
IsHeaderFault bytes (CutHead number) = (number ≡ 0) × (length bytes < 24)
IsHeaderFault bytes BadMagic = (24 ≤ length bytes) × (le32_at 0 bytes ≢ 0xa1b2c3d4)
IsHeaderFault bytes BadVersion =
    (24 ≤ length bytes) × (le32_at 0 bytes ≡ 0xa1b2c3d4) × ((le16_at 4 bytes ≢ 2) ⊎ (le16_at 6 bytes ≢ 4))
IsHeaderFault bytes BadLink =
    (24 ≤ length bytes) × (le32_at 0 bytes ≡ 0xa1b2c3d4) × (le16_at 4 bytes ≡ 2) × (le16_at 6 bytes ≡ 4) × (le32_at 20 bytes ≢ 1)
IsHeaderFault bytes _ = ⊥

-- what is wrong with the record of this number at the bytes' front
abbrev pub IsRecordFault : List ℕ → ℕ → CaptureFault → Type 0
IsRecordFault bytes number (CutHead at) = (at ≡ number) × (0 < length bytes) × (length bytes < 16)
IsRecordFault bytes number (FrameTooLong at) = (at ≡ number) × (16 ≤ length bytes) × (2048 < le32_at 8 bytes)
IsRecordFault bytes number (CutFrame at) =
    (at ≡ number) × (16 ≤ length bytes) × (le32_at 8 bytes ≤ 2048) × (length bytes < 16 + le32_at 8 bytes)
IsRecordFault bytes number _ = ⊥

-- why a record was refused: by memory, or by its fault
abbrev pub RefusesRecord : List ℕ → ℕ → CaptureFault → Type 0
RefusesRecord bytes number Memory = ⊤
RefusesRecord bytes number fault = IsRecordFault bytes number fault

-- after a header and some records, the next record has this fault
pub record HasRecordFault (bytes : List ℕ) (fault : CaptureFault) : Type 0 where
  pub header : BeginsWithHeader bytes
  pub sents : List Sent
  pub rest : List ℕ
  pub records : AreRecords (drop 24 bytes) sents rest
  pub cause : IsRecordFault rest (length sents + 1) fault

-- the first fault of bytes that are no capture file
abbrev pub IsFirstCaptureFault : List ℕ → CaptureFault → Type 0
IsFirstCaptureFault bytes fault = IsHeaderFault bytes fault ⊎ HasRecordFault bytes fault

-- the bytes are no capture file
abbrev pub IsNoCaptureFile : List ℕ → Type 0
IsNoCaptureFile bytes = (sents : List Sent) → ¬ IsCaptureFile bytes sents

-- why bytes were refused: by the device, by memory, or as no capture file
abbrev pub RefusesCapture : List ℕ → CaptureFault → Type 0
RefusesCapture bytes Device = ⊥
RefusesCapture bytes Memory = ⊤
RefusesCapture bytes fault = IsFirstCaptureFault bytes fault × IsNoCaptureFile bytes

-- the header as it is written: zone 0, accuracy 0, snap length 65535
abbrev pub header_bytes : List ℕ
header_bytes =
    little_bytes 4 0xa1b2c3d4 ++ little_bytes 2 2 ++ little_bytes 2 4 ++ little_bytes 4 0 ++ little_bytes 4 0 ++ little_bytes 4 65535 ++
    little_bytes 4 1

-- the head of a record: its moment, and both lengths
abbrev pub record_head_bytes : Sent → List ℕ
record_head_bytes sent =
    little_bytes 4 sent.seconds ++ little_bytes 4 sent.micros ++ little_bytes 4 (length sent.bytes.items) ++
    little_bytes 4 (length sent.bytes.items)

abbrev pub record_bytes : Sent → List ℕ
record_bytes sent = record_head_bytes sent ++ sent.bytes.items

abbrev pub records_bytes : List Sent → List ℕ
records_bytes [] = []
records_bytes (sent ∷ sents) = record_bytes sent ++ records_bytes sents

-- the capture file of these records
abbrev pub capture_bytes : List Sent → List ℕ
capture_bytes sents = header_bytes ++ records_bytes sents

-- what is written reads back, where no frame has more than 2048 bytes
abbrev pub CaptureReadsBack : List Sent → Type 0
CaptureReadsBack sents =
    All (λ sent. length sent.bytes.items ≤ 2048) sents → IsCaptureFile (capture_bytes sents) sents
