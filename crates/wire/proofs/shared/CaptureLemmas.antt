-- Reading records one after another, and that no bytes are read in two ways.
use Rattle.std.proofs.Common.{◌≡◌, ℕ, zero, suc, ◌+◌, ◌<◌, ◌≤◌, inr, List, [], ◌∷◌, ◌++◌, length, drop, get_or, sym, ap, subst, ◌∙◌, arith}
use Rattle.std.specs.List.{between}
use Rattle.std.proofs.lemmas.Slice.{between_to_end}
use Rattle.wire.specs.declared.records.Sent.{Sent}
use Rattle.wire.specs.declared.capture_fault.CaptureFault.{CaptureFault}
use Rattle.wire.specs.declared.capture_fault.CaptureFault.TheVariants.{BadMagic, BadVersion, BadLink, CutHead, CutFrame, FrameTooLong, Device, Memory}
use Rattle.wire.specs.CaptureFormat.{BeginsWithHeader, BeginsWithRecord, AreRecords, IsRecordFault, RefusesRecord, IsFirstCaptureFault, IsNoCaptureFile}
use Rattle.wire.specs.CaptureFormat.{RefusesCapture}

-- one more record
pub AreRecords-more : (bytes : List ℕ) (sents : List Sent) (rest : List ℕ) (sent : Sent) → AreRecords bytes sents rest → BeginsWithRecord rest sent → AreRecords bytes (sents ++ sent ∷ []) (drop (16 + length sent.bytes.items) rest)
AreRecords-more bytes [] rest sent same begins =
    let P : List ℕ → Type 0 = λ xs. BeginsWithRecord xs sent in
    (subst P (sym same) begins, ap (λ xs. drop (16 + length sent.bytes.items) xs) same)
AreRecords-more bytes (first ∷ sents) rest sent are begins =
    (are.0, AreRecords-more (drop (16 + length first.bytes.items) bytes) sents rest sent are.1 begins)

-- no record that was read is over 2048 bytes
pub AreRecords-short : (bytes : List ℕ) (sents : List Sent) (rest : List ℕ) → AreRecords bytes sents rest → (k : ℕ) (d : Sent) → k < length sents → length (get_or sents k d).bytes.items ≤ 2048
AreRecords-short bytes [] rest are k d within = absurd (omega arith)
AreRecords-short bytes (first ∷ sents) rest are zero d within = are.0.small
AreRecords-short bytes (first ∷ sents) rest are (suc k) d within =
    AreRecords-short (drop (16 + length first.bytes.items) bytes) sents rest are.1 k d (omega arith)

-- a record's fault comes only before the end, where no record is
fault_blocks : (rest : List ℕ) (number : ℕ) (fault : CaptureFault) → IsRecordFault rest number fault → (0 < length rest) × ((other : Sent) → BeginsWithRecord rest other → ⊥)
fault_blocks rest number BadMagic h = absurd h
fault_blocks rest number BadVersion h = absurd h
fault_blocks rest number BadLink h = absurd h
fault_blocks rest number (CutHead at) h = (h.1, λ other begins. omega arith)
fault_blocks rest number (CutFrame at) h = (omega arith, λ other begins. omega arith)
fault_blocks rest number (FrameTooLong at) h = (omega arith, λ other begins. omega arith)
fault_blocks rest number Device h = absurd h
fault_blocks rest number Memory h = absurd h

-- bytes that stop at a fault are not records to their end
no_records : (bytes : List ℕ) (sents : List Sent) (rest : List ℕ) (others : List Sent) → 0 < length rest → ((other : Sent) → BeginsWithRecord rest other → ⊥) → AreRecords bytes sents rest → AreRecords bytes others [] → ⊥
no_records bytes [] rest [] some blocked same end =
    let same_length : length bytes ≡ length rest = ap length same in
    let no_length : length bytes ≡ 0 = ap length end in
    omega arith
no_records bytes [] rest (other ∷ others) some blocked same are =
    let P : List ℕ → Type 0 = λ xs. BeginsWithRecord xs other in
    blocked other (subst P same are.0)
no_records bytes (sent ∷ sents) rest [] some blocked are end =
    let whole : 16 + length sent.bytes.items ≤ length bytes = are.0.whole in
    let no_length : length bytes ≡ 0 = ap length end in
    omega arith
no_records bytes (sent ∷ sents) rest (other ∷ others) some blocked are are' =
    let same_kept : length other.bytes.items ≡ length sent.bytes.items = sym are'.0.kept ∙ are.0.kept in
    let P : ℕ → Type 0 = λ n. AreRecords (drop (16 + n) bytes) others [] in
    no_records (drop (16 + length sent.bytes.items) bytes) sents rest others some blocked are.1 (subst P same_kept are'.1)

-- a record's fault is the file's first
first_fault : (bytes : List ℕ) (sents : List Sent) (rest : List ℕ) (fault : CaptureFault) → BeginsWithHeader bytes → AreRecords (drop 24 bytes) sents rest → IsRecordFault rest (length sents + 1) fault → IsFirstCaptureFault bytes fault × IsNoCaptureFile bytes
first_fault bytes sents rest fault header are cause =
    let blocks = fault_blocks rest (length sents + 1) fault cause in (
      inr (record { header = header; sents = sents; rest = rest; records = are; cause = cause }),
      λ others file. no_records (drop 24 bytes) sents rest others blocks.0 blocks.1 are file.records,
    )

-- a refused record refuses the file
pub refused_record : (bytes : List ℕ) (sents : List Sent) (rest : List ℕ) (fault : CaptureFault) → BeginsWithHeader bytes → AreRecords (drop 24 bytes) sents rest → RefusesRecord rest (length sents + 1) fault → RefusesCapture bytes fault
refused_record bytes sents rest BadMagic header are cause = absurd cause
refused_record bytes sents rest BadVersion header are cause = absurd cause
refused_record bytes sents rest BadLink header are cause = absurd cause
refused_record bytes sents rest (CutHead at) header are cause = first_fault bytes sents rest (CutHead at) header are cause
refused_record bytes sents rest (CutFrame at) header are cause = first_fault bytes sents rest (CutFrame at) header are cause
refused_record bytes sents rest (FrameTooLong at) header are cause = first_fault bytes sents rest (FrameTooLong at) header are cause
refused_record bytes sents rest Device header are cause = absurd cause
refused_record bytes sents rest Memory header are cause = tt

-- one more record, as the code goes past it
pub records_read : (bytes : List ℕ) (sents : List Sent) (rest : List ℕ) (sent : Sent) (after : List Sent) (past : ℕ) → AreRecords bytes sents rest → BeginsWithRecord rest sent → after ≡ sents ++ sent ∷ [] → past ≡ 16 + length sent.bytes.items → AreRecords bytes after (between past (length rest) rest)
records_read bytes sents rest sent after past are begins pushed is_past =
    rw (pushed, is_past, between_to_end rest (16 + length sent.bytes.items) (length rest) (omega arith))
    (AreRecords-more bytes sents rest sent are begins)
