-- A file's records so far, one step after another.
use Rattle.std.proofs.Common.{Option, Some, None, Bool, true, false, ◌≡◌, ℕ, ◌+◌, ◌^◌, ◌≤◌, ◌<◌, ◌⊎◌, inl, inr, nat_lt, if◌then◌else◌, List, [], ◌∷◌, ◌++◌, length, take, drop, refl, sym, ap, subst, ◌∙◌, append_assoc, append-nil, length-append, add_assoc, arith}
use Rattle.std.proofs.lemmas.List.{drop-append-le, length-take-le, take-append-drop, take-append-le}
use Rattle.std.proofs.lemmas.Bool.{true≢false}
use Rattle.std.proofs.Math.Seq.{drop-append_seam}
use Rattle.capture_readings.specs.declared.readings.Reading.{Reading}
use Rattle.capture_readings.specs.Readings.{AreCaptureBytes, AreLeft, alters, read_records, read_rest, unaltered}
use Rattle.folders.specs.Pieces.{IsOpened}
use Rattle.wire.specs.declared.records.Sent.{Sent}
use Rattle.wire.specs.declared.capture_fault.CaptureFault.{CaptureFault}
use Rattle.wire.specs.declared.capture_fault.CaptureFault.TheVariants.{Device}
use Rattle.wire.specs.CaptureFormat.{le32_at, BeginsWithHeader, BeginsWithRecord, AreRecords, IsHeaderFault, RefusesRecord}
use Rattle.wire.proofs.shared.CaptureLemmas.{AreRecords-more, refused_record}
use Rattle.folders.specs.Filling.{IsFilled}
use Rattle.folders.specs.AlteredReading.{AlteringView, AreReadOf, AreStillRead, IsOf, IsReadAlike, still_read}
use Rattle.folders.specs.PieceReading.{ReaderView, behind_record, cut_at_front, cut_record_count, HasRecords, IsReadTo, IsReadWhole, IsFileRefused}
use Rattle.folders.specs.PieceReading.{HasRoom, ReadsOn, ReadsToEnd, read_behind}
use Rattle.folders.specs.PieceReading.{RefusesNext}
use Rattle.folders.proofs.CaptureFronts.{le32_at-append, begins_header, begins_record, front_header, refuses_record, refuses_header}
use Rattle.folders.proofs.AlteringLemmas.{something_read}

-- a whole record is unread, or nothing is left
abbrev pub IsEnough : (List ℕ → Type 0) → List ℕ → Type 0
IsEnough is_left unread = (2064 ≤ length unread) ⊎ is_left []

-- bytes that are left; none, where no whole record need be unread
record Behind (is_left : List ℕ → Type 0) (unread : List ℕ) : Type 0 where
  bytes : List ℕ
  left : is_left bytes
  ended : length unread < 2064 → length bytes ≡ 0

behind : (is_left : List ℕ → Type 0) (unread rest : List ℕ) → is_left rest → IsEnough is_left unread → Behind is_left unread
behind is_left unread rest left enough =
    elim enough [
      | inl long ↦ record { bytes = rest; left = left; ended = λ short. absurd (omega (arith, long, short)) }
      | inr end ↦ record { bytes = []; left = end; ended = λ short. refl }
    ]

-- what the unread bytes are at the start
at_start : (was_left is_left : List ℕ → Type 0) (unread : List ℕ) → IsFilled was_left is_left [] unread → (rest : List ℕ) → is_left rest → was_left (unread ++ rest)
at_start was_left is_left unread filled rest left =
    let P : List ℕ → Type 0 = λ xs. was_left (xs ++ rest) in
    subst P (sym filled.appended) (filled.came.behind rest left)

-- the bytes themselves are read where nothing alters them
as_it_is : (has : List ℕ → Type 0) (bytes : List ℕ) → has bytes → AreReadOf unaltered has bytes
as_it_is has bytes held = record { all = bytes; held = held; bytes_are = refl }

-- where it is read as it is
plain_opened : (has was_left is_left : List ℕ → Type 0) (unread : List ℕ) → IsOpened has was_left → IsFilled was_left is_left [] unread
    → BeginsWithHeader unread → IsReadTo unaltered has is_left [] (read_behind false unaltered (drop 24 unread))
plain_opened has was_left is_left unread opened filled begins =
    let next = filled.came.some opened.bytes opened.left in
    record {
      reading_is = refl;
      counted = refl;
      rest = next.0;
      left = next.1;
      file = λ rest left. record {
        all = unread ++ rest;
        held = as_it_is has (unread ++ rest) (opened.held (unread ++ rest) (at_start was_left is_left unread filled rest left));
        header = begins_header unread rest begins;
        are = drop-append-le 24 unread rest begins.long;
        cut_is = refl;
      };
    }

-- a header is its first bytes
header_alone : (bytes : List ℕ) → BeginsWithHeader bytes → BeginsWithHeader (take 24 bytes)
header_alone bytes begins =
    let long = length-take-le 24 bytes begins.long in
    front_header (take 24 bytes) (drop 24 bytes) (omega (arith, long)) (subst BeginsWithHeader (sym (take-append-drop 24 bytes)) begins)

-- what is read of an altered file: its header, and what is still to be read
altered_all : (reading : Reading) (is_left : List ℕ → Type 0) (unread bytes : List ℕ) → 24 ≤ length unread → alters reading ≡ true
    → (still : AreStillRead (record { reading = reading; raw = drop 24 unread }) is_left bytes)
    → AreCaptureBytes reading (unread ++ still.behind) (take 24 unread ++ bytes)
altered_all reading is_left unread bytes long some still =
    let front : take 24 (unread ++ still.behind) ≡ take 24 unread = take-append-le 24 unread still.behind long in
    subst (λ (altered : Bool). AreLeft altered reading (unread ++ still.behind) (take 24 unread ++ bytes)) (sym some) (record {
      records = still.records;
      rest = still.rest;
      each = still.each;
      ends = still.ends;
      parts = sym (take-append-drop 24 (unread ++ still.behind))
          ∙ ap (λ (back : List ℕ). take 24 (unread ++ still.behind) ++ back) (drop-append-le 24 unread still.behind long ∙ still.parts);
      left_are = ap (λ (back : List ℕ). take 24 unread ++ back) still.bytes_are
          ∙ ap (λ (header : List ℕ). header ++ (read_records reading still.records ++ read_rest reading still.rest)) (sym front);
    })

-- where it is altered
altered_opened : (reading : Reading) (has was_left is_left : List ℕ → Type 0) (unread : List ℕ) → alters reading ≡ true → IsOpened has was_left
    → IsFilled was_left is_left [] unread → BeginsWithHeader unread → IsReadTo reading has is_left [] (read_behind true reading (drop 24 unread))
altered_opened reading has was_left is_left unread some opened filled begins =
    let next = filled.came.some opened.bytes opened.left in
    let read = something_read (record { reading = reading; raw = drop 24 unread }) is_left next.0 next.1 in
    let short = length-take-le 24 unread begins.long in
    record {
      reading_is = (refl, some);
      counted = refl;
      rest = read.0;
      left = read.1;
      file = λ bytes still. record {
        all = take 24 unread ++ bytes;
        held = record {
          all = unread ++ still.behind;
          held = opened.held (unread ++ still.behind) (at_start was_left is_left unread filled still.behind still.left);
          bytes_are = altered_all reading is_left unread bytes begins.long some still;
        };
        header = begins_header (take 24 unread) bytes (header_alone unread begins);
        are = ap (λ (n : ℕ). drop n (take 24 unread ++ bytes)) (sym short) ∙ drop-append_seam (take 24 unread) bytes;
        cut_is = refl;
      };
    }

-- nothing is set in a reading that alters nothing
none_set : (reading : Reading) → alters reading ≡ false → reading ≡ unaltered
none_set reading none = grind arith

-- the file was opened, and begins with a header
pub opened_read : (altered : Bool) (reading : Reading) (has was_left is_left : List ℕ → Type 0) (unread : List ℕ) → alters reading ≡ altered
    → IsOpened has was_left → IsFilled was_left is_left [] unread → BeginsWithHeader unread
    → IsReadTo reading has is_left [] (read_behind altered reading (drop 24 unread))
opened_read true reading has was_left is_left unread is opened filled begins =
    altered_opened reading has was_left is_left unread is opened filled begins
opened_read false reading has was_left is_left unread is opened filled begins =
    subst (λ (it : Reading). IsReadTo it has is_left [] (read_behind false it (drop 24 unread))) (sym (none_set reading is))
    (plain_opened has was_left is_left unread opened filled begins)

-- and has room
pub behind_room : (altered : Bool) (reading : Reading) (bytes : List ℕ) (most : ℕ) → length bytes + most ≤ 2 ^ 40 → HasRoom most (read_behind altered reading bytes)
behind_room false reading bytes most few = omega (arith, few)
behind_room true reading bytes most few = omega (arith, few)

-- the file was opened, and does not begin with a header
pub opened_refused : (has was_left is_left : List ℕ → Type 0) (unread : List ℕ) (fault : CaptureFault) → IsOpened has was_left → IsFilled was_left is_left [] unread → IsEnough is_left unread → IsHeaderFault unread fault → IsFileRefused has fault
opened_refused has was_left is_left unread fault opened filled enough cause =
    let next = filled.came.some opened.bytes opened.left in
    let some = behind is_left unread next.0 next.1 enough in
    record {
      all = unread ++ some.bytes;
      held = opened.held (unread ++ some.bytes) (at_start was_left is_left unread filled some.bytes some.left);
      refused = refuses_header unread some.bytes fault some.ended cause;
    }

-- more bytes came into the buffer
pub filled_read : (reading : Reading) (has was_left is_left : List ℕ → Type 0) (records : List Sent) (was now : ReaderView) → now.count ≡ was.count
    → now.cut ≡ was.cut → IsReadAlike was.source now.source → IsFilled (still_read was.source was_left) (still_read now.source is_left) was.unread now.unread
    → IsReadTo reading has was_left records was → IsReadTo reading has is_left records now
filled_read reading has was_left is_left records was now counts cuts alike filled read =
    let next = filled.came.some read.rest read.left in
    record {
      reading_is = alike reading read.reading_is;
      counted = counts ∙ read.counted;
      rest = next.0;
      left = next.1;
      file = λ rest left.
          let P : List ℕ → Type 0 = λ bytes. HasRecords (AreReadOf reading has) records was.cut bytes in
          let C : ℕ → Type 0 = λ cut. HasRecords (AreReadOf reading has) records cut (now.unread ++ rest) in
          let before = read.file (filled.piece ++ rest) (filled.came.behind rest left) in
          subst C (sym cuts) (subst P (sym (append_assoc was.unread filled.piece rest) ∙ ap (λ xs. xs ++ rest) (sym filled.appended)) before);
    }

-- how many records were cut, with one more
cut_of-more : (bytes : List ℕ) (records : List Sent) (rest : List ℕ) (sent : Sent) → AreRecords bytes records rest → cut_record_count bytes (records ++ sent ∷ []) ≡ cut_record_count bytes records + cut_at_front rest sent
cut_of-more bytes [] rest sent same =
    let at : List ℕ → ℕ = λ xs. cut_at_front xs sent in
    let here : at bytes ≡ at rest = ap at same in
    omega (arith, here)
cut_of-more bytes (first ∷ records) rest sent are =
    let later = drop (16 + length first.bytes.items) bytes in
    let more : cut_record_count later (records ++ sent ∷ []) ≡ cut_record_count later records + cut_at_front rest sent = cut_of-more later records rest sent are.1 in
    ap (λ n. cut_at_front bytes first + n) more ∙ sym (add_assoc (cut_at_front bytes first) (cut_record_count later records) (cut_at_front rest sent))

-- one more record was read
pub sent_read : (reading : Reading) (has is_left : List ℕ → Type 0) (records : List Sent) (reader after : ReaderView) (sent : Sent)
    → IsReadTo reading has is_left records reader → BeginsWithRecord reader.unread sent → after ≡ behind_record reader sent
    → IsReadTo reading has is_left (records ++ sent ∷ []) after
sent_read reading has is_left records reader after sent read begins is_after =
    let unread = reader.unread in
    let past = 16 + length sent.bytes.items in
    let R : ReaderView → Type 0 = λ it. IsReadTo reading has is_left (records ++ sent ∷ []) it in
    let long : length (records ++ sent ∷ []) ≡ length records + 1 = length-append records (sent ∷ []) in
    subst R (sym is_after) (record {
      reading_is = read.reading_is;
      counted = omega (arith, read.counted, long);
      rest = read.rest;
      left = read.left;
      file = λ rest left.
          let before = read.file rest left in
          let whole = begins.whole in
          let P : List ℕ → Type 0 = λ xs. AreRecords (drop 24 before.all) (records ++ sent ∷ []) xs in
          let had : le32_at 12 (unread ++ rest) ≡ le32_at 12 unread = le32_at-append 12 unread rest (omega (arith, whole)) in
          let Cut : ℕ → ℕ = λ n. if nat_lt (length sent.bytes.items) n then 1 else 0 in
          let same : cut_at_front (unread ++ rest) sent ≡ cut_at_front unread sent = ap Cut had in
          let sum = cut_of-more (drop 24 before.all) records (unread ++ rest) sent before.are in
          record {
            all = before.all;
            held = before.held;
            header = before.header;
            are = subst P (drop-append-le past unread rest whole) (AreRecords-more (drop 24 before.all) records (unread ++ rest) sent before.are (begins_record unread rest sent begins));
            cut_is = ap (λ n. n + cut_at_front unread sent) before.cut_is ∙ ap (λ n. cut_record_count (drop 24 before.all) records + n) (sym same) ∙ sym sum;
          };
    })

no_bytes : (xs : List ℕ) → length xs ≡ 0 → xs ≡ []
no_bytes [] none = refl
no_bytes (x ∷ xs) none = absurd (omega (arith, none))

-- nothing is unread, and nothing is left
pub read_whole : (reading : Reading) (has is_left : List ℕ → Type 0) (records : List Sent) (reader : ReaderView)
    → IsReadTo reading has is_left records reader → length reader.unread ≡ 0 → still_read reader.source is_left []
    → IsReadWhole reading has records reader.cut
read_whole reading has is_left records reader read none end =
    let last = read.file [] end in
    let P : List ℕ → Type 0 = λ xs. AreRecords (drop 24 last.all) records xs in
    record {
      all = last.all;
      held = last.held;
      capture = record { header = last.header; records = subst P (append-nil reader.unread ∙ no_bytes reader.unread none) last.are };
      cut_is = last.cut_is;
    }

-- the next record is refused, in a file that is read as it is
plain_refused : (has is_left : List ℕ → Type 0) (records : List Sent) (reader : ReaderView) (fault : CaptureFault)
    → IsReadTo unaltered has is_left records reader → reader.source ≡ None → IsEnough is_left reader.unread
    → RefusesRecord reader.unread (reader.count + 1) fault → IsFileRefused has fault
plain_refused has is_left records reader fault read plain enough cause =
    let S : Option AlteringView → Type 0 = λ source. still_read source is_left read.rest in
    let some = behind is_left reader.unread read.rest (subst S plain read.left) enough in
    let B : Option AlteringView → Type 0 = λ source. still_read source is_left some.bytes in
    let before = read.file some.bytes (subst B (sym plain) some.left) in
    let P : ℕ → Type 0 = λ n. RefusesRecord (reader.unread ++ some.bytes) (n + 1) fault in
    record {
      all = before.all;
      held = subst has before.held.bytes_are before.held.held;
      refused =
          refused_record before.all records (reader.unread ++ some.bytes) fault before.header before.are
          (subst P read.counted (refuses_record reader.unread some.bytes (reader.count + 1) fault some.ended cause));
    }

-- no file that is read as it is is altered
plain_source : (source : Option AlteringView) → IsOf unaltered source → source ≡ None
plain_source None of = refl
plain_source (Some view) of = absurd (true≢false (sym of.1))

-- the same of every file, from one state of a reader to a later one: more bytes came into the buffer
pub filled_on : {F : Type 0} (holds : F → List ℕ → List ℕ → Type 0) (was_left is_left : List ℕ → Type 0) (was now : ReaderView) → now.count ≡ was.count
    → now.cut ≡ was.cut → IsReadAlike was.source now.source → IsFilled (still_read was.source was_left) (still_read now.source is_left) was.unread now.unread
    → ReadsOn holds was_left is_left was now []
filled_on holds was_left is_left was now counts cuts alike filled reading opened name records read =
    let L : List Sent → Type 0 = λ sents. IsReadTo reading (holds opened name) is_left sents now in
    subst L (sym (append-nil records)) (filled_read reading (holds opened name) was_left is_left records was now counts cuts alike filled read)

-- nothing was read yet
pub none_on : {F : Type 0} (holds : F → List ℕ → List ℕ → Type 0) (left : List ℕ → Type 0) (was : ReaderView) → ReadsOn holds left left was was []
none_on holds left was reading opened name records read =
    let L : List Sent → Type 0 = λ sents. IsReadTo reading (holds opened name) left sents was in
    subst L (sym (append-nil records)) read

-- records, and then more of them
pub more_on : {F : Type 0} (holds : F → List ℕ → List ℕ → Type 0) (first now last : List ℕ → Type 0) (was mid after : ReaderView) (sents more : List Sent) → ReadsOn holds first now was mid sents → ReadsOn holds now last mid after more → ReadsOn holds first last was after (sents ++ more)
more_on holds first now last was mid after sents more before later reading opened name records read =
    let L : List Sent → Type 0 = λ all. IsReadTo reading (holds opened name) last all after in
    subst L (append_assoc records sents more) (later reading opened name (records ++ sents) (before reading opened name records read))

-- the record at the front was read
pub sent_on : {F : Type 0} (holds : F → List ℕ → List ℕ → Type 0) (first now : List ℕ → Type 0) (was mid after : ReaderView) (sent : Sent) → ReadsOn holds first now was mid [] → BeginsWithRecord mid.unread sent → after ≡ behind_record mid sent → ReadsOn holds first now was after (sent ∷ [])
sent_on holds first now was mid after sent before begins is_after reading opened name records read =
    let L : List Sent → Type 0 = λ all. IsReadTo reading (holds opened name) now all mid in
    sent_read reading (holds opened name) now records mid after sent (subst L (append-nil records) (before reading opened name records read)) begins is_after

-- the file ended behind the records
pub end_on : {F : Type 0} (holds : F → List ℕ → List ℕ → Type 0) (first now : List ℕ → Type 0) (was mid : ReaderView) (sents : List Sent) → ReadsOn holds first now was mid sents → length mid.unread ≡ 0 → (0 < length mid.unread) ⊎ still_read mid.source now [] → ReadsToEnd holds first was sents mid.cut
end_on holds first now was mid sents before none enough reading opened name records read =
    read_whole reading (holds opened name) now (records ++ sents) mid (before reading opened name records read) none
    (elim enough [ inl some ↦ absurd (omega (arith, none, some)) | inr end ↦ end ])

-- records, and then the end
pub then_end : {F : Type 0} (holds : F → List ℕ → List ℕ → Type 0) (first now : List ℕ → Type 0) (was mid : ReaderView) (sents : List Sent) (cut : ℕ) → ReadsOn holds first now was mid sents → ReadsToEnd holds now mid [] cut → ReadsToEnd holds first was sents cut
then_end holds first now was mid sents cut before end reading opened name records read =
    let L : List Sent → Type 0 = λ all. IsReadWhole reading (holds opened name) all cut in
    subst L (append-nil (records ++ sents)) (end reading opened name (records ++ sents) (before reading opened name records read))

-- the record at the front is refused
pub refused_on : {F : Type 0} (holds : F → List ℕ → List ℕ → Type 0) (first now : List ℕ → Type 0) (was mid : ReaderView) (fault : CaptureFault) → ReadsOn holds first now was mid [] → (mid.source ≡ None → IsEnough now mid.unread) → RefusesRecord mid.unread (mid.count + 1) fault → RefusesNext holds first was fault
refused_on holds first now was mid fault before enough cause opened name records read =
    let there = before unaltered opened name records read in
    let plain = plain_source mid.source there.reading_is in
    plain_refused (holds opened name) now (records ++ []) mid fault there plain (enough plain) cause

altered_or_not : {F : Type 0} (holds : F → List ℕ → List ℕ → Type 0) (left : List ℕ → Type 0) (was : ReaderView) (fault : CaptureFault) (source : Option AlteringView) → was.source ≡ source → (source ≡ None → fault ≡ Device) → (fault ≡ Device) ⊎ RefusesNext holds left was fault
altered_or_not holds left was fault None is plain = inl (plain refl)
altered_or_not holds left was fault (Some view) is plain =
    inr (λ opened name records read. absurd (true≢false (sym (subst (λ (it : Option AlteringView). IsOf unaltered it) is read.reading_is).1)))

-- where more bytes are refused, and it is no file that is read as it is
pub not_filled : {F : Type 0} (holds : F → List ℕ → List ℕ → Type 0) (left : List ℕ → Type 0) (was : ReaderView) (fault : CaptureFault) → (was.source ≡ None → fault ≡ Device) → (fault ≡ Device) ⊎ RefusesNext holds left was fault
not_filled holds left was fault plain = altered_or_not holds left was fault was.source refl plain

-- records, and then one that is refused
pub then_refused : {F : Type 0} (holds : F → List ℕ → List ℕ → Type 0) (first now : List ℕ → Type 0) (was mid : ReaderView) (sents : List Sent) (fault : CaptureFault) → ReadsOn holds first now was mid sents → RefusesNext holds now mid fault → RefusesNext holds first was fault
then_refused holds first now was mid sents fault before refused opened name records read =
    refused opened name (records ++ sents) (before unaltered opened name records read)

-- where the same is left, the same is still to be read
pub still_same : (source : Option AlteringView) (left left' : List ℕ → Type 0) → ((bytes : List ℕ) → left bytes → left' bytes) → (bytes : List ℕ)
    → still_read source left bytes → still_read source left' bytes
still_same None left left' same bytes still = same bytes still
still_same (Some view) left left' same bytes still = record {
  behind = still.behind;
  left = same still.behind still.left;
  records = still.records;
  rest = still.rest;
  each = still.each;
  ends = still.ends;
  parts = still.parts;
  bytes_are = still.bytes_are;
}
