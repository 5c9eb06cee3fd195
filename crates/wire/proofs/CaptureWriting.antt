-- Writing records one after another, and reading back what was written.
use Rattle.std.proofs.Common.{◌≡◌, ℕ, zero, suc, ◌+◌, ◌<◌, ◌≤◌, List, [], ◌∷◌, ◌++◌, length, take, drop, get_or, Option, refl, sym, ap, subst, ◌∙◌, arith, append_assoc, append-nil, length-append}
use Rattle.std.proofs.lemmas.List.{take_more, take-append-drop, drop-drop, take_at, take_all, drop_at}
use Rattle.std.specs.Io.KnownBytes.{append_known}
use Rattle.byteorder.specs.Endian.{little_bytes}
use Rattle.byteorder.specs.Numbers.{little_number-reads_back}
use Rattle.wire.specs.declared.records.Sent.{Sent}
use Rattle.wire.specs.Device.{AppendsFront}
use Rattle.wire.specs.CaptureFormat.{BeginsWithRecord, AreRecords, CaptureReadsBack, header_bytes, record_head_bytes, record_bytes, records_bytes}
use Rattle.wire.specs.CaptureFormat.{capture_bytes}
use Rattle.wire.proofs.DeviceLemmas.{front_of_first, front_of_second, written_both}

-- the bytes of records one after another
records_bytes-append : (xs ys : List Sent) → records_bytes (xs ++ ys) ≡ records_bytes xs ++ records_bytes ys
records_bytes-append [] ys = refl
records_bytes-append (x ∷ xs) ys =
    ap (λ bytes. record_bytes x ++ bytes) (records_bytes-append xs ys) ∙ sym (append_assoc (record_bytes x) (records_bytes xs) (records_bytes ys))

-- one more record
records_bytes-more : (sents : List Sent) (i : ℕ) (sent : Sent) → i < length sents → sent ≡ get_or sents i sent → records_bytes (take (i + 1) sents) ≡ records_bytes (take i sents) ++ record_bytes sent
records_bytes-more sents i sent within is =
    ap records_bytes (take_more sents i sent within)
    ∙ records_bytes-append (take i sents) (get_or sents i sent ∷ [])
    ∙ ap (λ bytes. records_bytes (take i sents) ++ bytes) (append-nil (record_bytes (get_or sents i sent)) ∙ ap record_bytes (sym is))

-- the header and the records so far, and one more
pub written_record : (old now new : Option (List ℕ)) (sents : List Sent) (i : ℕ) (sent : Sent) → i < length sents → sent ≡ get_or sents i sent → now ≡ append_known old (header_bytes ++ records_bytes (take i sents)) → new ≡ append_known now (record_bytes sent) → new ≡ append_known old (header_bytes ++ records_bytes (take (i + 1) sents))
written_record old now new sents i sent within is so_far more =
    written_both old now new (header_bytes ++ records_bytes (take i sents)) (record_bytes sent) so_far more
    ∙ ap (append_known old) (ap (λ bytes. header_bytes ++ bytes) (sym (records_bytes-more sents i sent within is)))

-- a record was cut short
pub front_of_record : (old now new : Option (List ℕ)) (sents : List Sent) (i : ℕ) (sent : Sent) → i < length sents → sent ≡ get_or sents i sent → now ≡ append_known old (header_bytes ++ records_bytes (take i sents)) → AppendsFront now new (record_bytes sent) → AppendsFront old new (capture_bytes sents)
front_of_record old now new sents i sent within is so_far cut =
    let upto : List ℕ = header_bytes ++ records_bytes (take (i + 1) sents) in
    let first : AppendsFront old new ((header_bytes ++ records_bytes (take i sents)) ++ record_bytes sent) = front_of_second old now new (header_bytes ++ records_bytes (take i sents)) (record_bytes sent) so_far cut in
    let same : (header_bytes ++ records_bytes (take i sents)) ++ record_bytes sent ≡ upto = ap (λ bytes. header_bytes ++ bytes) (sym (records_bytes-more sents i sent within is)) in
    let P : List ℕ → Type 0 = λ bytes. AppendsFront old new bytes in
    let whole : upto ++ records_bytes (drop (i + 1) sents) ≡ capture_bytes sents = ap (λ bytes. header_bytes ++ bytes) (sym (records_bytes-append (take (i + 1) sents) (drop (i + 1) sents)) ∙ ap records_bytes (take-append-drop (i + 1) sents)) in
    subst P whole (front_of_first old new upto (records_bytes (drop (i + 1) sents)) (subst P same first))

-- a written record reads back
begins : (sent : Sent) (more : List ℕ) → length sent.bytes.items ≤ 2048 → BeginsWithRecord (record_bytes sent ++ more) sent
begins sent more small = record {
  seconds = little_number-reads_back 4 sent.seconds [] sent.spellable.0;
  micros = little_number-reads_back 4 sent.micros [] sent.spellable.1;
  kept = little_number-reads_back 4 (length sent.bytes.items) [] (omega arith);
  small = small;
  whole = omega (arith, length-append sent.bytes.items more);
  frame = sym (take_at sent.bytes.items more (length sent.bytes.items) refl);
}

are_records : (sents : List Sent) → ((k : ℕ) (d : Sent) → k < length sents → length (get_or sents k d).bytes.items ≤ 2048) → AreRecords (records_bytes sents) sents []
are_records [] small = refl
are_records (sent ∷ sents) small =
    let P : List ℕ → Type 0 = λ bytes. AreRecords bytes sents [] in
    let past : drop (16 + length sent.bytes.items) (record_bytes sent ++ records_bytes sents) ≡ records_bytes sents =
    sym (drop-drop (length sent.bytes.items) 16 (record_bytes sent ++ records_bytes sents)) ∙ drop_at sent.bytes.items (records_bytes sents) (length sent.bytes.items) refl in (
      begins sent (records_bytes sents) (small zero sent (omega arith)),
      subst P (sym past) (are_records sents (λ k d within. small (suc k) d (omega arith))),
    )

-- what is written reads back
pub reads_back : (sents : List Sent) → CaptureReadsBack sents
reads_back sents small = record {
  header = record { long = omega arith; magic = refl; major = refl; minor = refl; link = refl };
  records = are_records sents small;
}

-- the header and all records
pub written_all : (old new : Option (List ℕ)) (sents : List Sent) (i : ℕ) → length sents ≤ i → new ≡ append_known old (header_bytes ++ records_bytes (take i sents)) → new ≡ append_known old (capture_bytes sents)
written_all old new sents i all written =
    written ∙ ap (λ some. append_known old (header_bytes ++ records_bytes some)) (take_all i sents all)

-- the head of a record, as the code makes it
pub head_is : (sent : Sent) (head : List ℕ) (len : ℕ) → head ≡ little_bytes 4 sent.seconds ++ little_bytes 4 sent.micros ++ little_bytes 4 len ++ little_bytes 4 len → len ≡ sent.bytes.len → head ≡ record_head_bytes sent
head_is sent head len put is_len =
    put ∙ ap (λ n. little_bytes 4 sent.seconds ++ little_bytes 4 sent.micros ++ little_bytes 4 n ++ little_bytes 4 n) (is_len ∙ sent.bytes.ok.0)

-- the head was cut short
pub front_of_head : (old new : Option (List ℕ)) (sent : Sent) (head : List ℕ) → head ≡ record_head_bytes sent → AppendsFront old new head → AppendsFront old new (record_bytes sent)
front_of_head old new sent head is cut =
    let P : List ℕ → Type 0 = λ bytes. AppendsFront old new bytes in
    front_of_first old new (record_head_bytes sent) sent.bytes.items (subst P is cut)

-- head and frame were written
pub written_frame : (old now new : Option (List ℕ)) (sent : Sent) (head frame : List ℕ) → head ≡ record_head_bytes sent → frame ≡ sent.bytes.items → now ≡ append_known old head → new ≡ append_known now frame → new ≡ append_known old (record_bytes sent)
written_frame old now new sent head frame is is_frame at_head at_frame =
    written_both old now new (record_head_bytes sent) sent.bytes.items (at_head ∙ ap (append_known old) is) (at_frame ∙ ap (append_known now) is_frame)

-- the frame was cut short
pub front_of_frame : (old now new : Option (List ℕ)) (sent : Sent) (head frame : List ℕ) → head ≡ record_head_bytes sent → frame ≡ sent.bytes.items → now ≡ append_known old head → AppendsFront now new frame → AppendsFront old new (record_bytes sent)
front_of_frame old now new sent head frame is is_frame at_head cut =
    let P : List ℕ → Type 0 = λ bytes. AppendsFront now new bytes in
    front_of_second old now new (record_head_bytes sent) sent.bytes.items (at_head ∙ ap (append_known old) is) (subst P is_frame cut)
