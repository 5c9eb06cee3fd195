-- What is read of a file that is altered, record after record.
use Rattle.std.proofs.Common.{◌≡◌, ℕ, zero, suc, ◌+◌, ◌-◌, ◌*◌, ◌≤◌, inl, inr, Bool, true, false, List, [], ◌∷◌, ◌++◌, length, take, drop, replicate, cond, refl, sym, ap, subst, ◌∙◌, arith, append_assoc, append-nil, length-append, length-drop}
use Rattle.std.specs.List.{AllByRecursion, concat}
use Rattle.std.proofs.lemmas.List.{drop-take, length-take-le, take-append-drop, length-replicate}
use Rattle.std.proofs.lemmas.Bool.{cases_lt, le-ltb, lt-ltb}
use Rattle.byteorder.specs.Endian.{little_number}
use Rattle.byteorder.specs.Numbers.{little_from-take}
use Rattle.wire.specs.CaptureFormat.{le32_at}
use Rattle.capture_readings.specs.declared.readings.Reading.{Reading}
use Rattle.capture_readings.specs.Readings.{HasNoRecord, IsRecord, frame_len, is_padded, is_skipped, kept_len, padded_record, read_record, read_records, read_rest, zeros_for}
use Rattle.folders.specs.Filling.{IsFilled}
use Rattle.folders.specs.AlteredReading.{AlteringView, AreStillRead}

-- ---- all bytes are whole records, and behind them a rest that begins with none

record AreSplit (bytes : List ℕ) : Type 0 where
  records : List (List ℕ)
  rest : List ℕ
  each : AllByRecursion IsRecord records
  ends : HasNoRecord rest
  parts : bytes ≡ concat records ++ rest

none_split : (bytes : List ℕ) → HasNoRecord bytes → AreSplit bytes
none_split bytes none = record { records = []; rest = bytes; each = tt; ends = none; parts = refl }

-- the length that a record's head says, read from its front alone
head_number : (len : ℕ) (rest : List ℕ) → 12 ≤ len → le32_at 8 (take len rest) ≡ le32_at 8 rest
head_number len rest enough =
    let parts : len ≡ 8 + (len - 8) = omega (arith, enough) in
    ap (λ n. le32_at 8 (take n rest)) parts
    ∙ (ap (λ bytes. little_number 4 bytes) (drop-take 8 (len - 8) rest) ∙ little_from-take 0 4 (len - 8) (drop 8 rest) (omega (arith, enough)))

-- the first bytes are a record
pub first_record : (bytes : List ℕ) (len : ℕ) → len ≡ 16 + kept_len bytes → len ≤ length bytes → IsRecord (take len bytes)
first_record bytes len is whole =
    let long : length (take len bytes) ≡ len = length-take-le len bytes whole in
    let same : kept_len (take len bytes) ≡ kept_len bytes = head_number len bytes (omega (arith, is)) in
    record { head = omega (arith, long, is); whole = omega (arith, long, is, same) }

first_split : (bytes : List ℕ) (len : ℕ) → len ≡ 16 + kept_len bytes → len ≤ length bytes → AreSplit (drop len bytes) → AreSplit bytes
first_split bytes len is whole behind =
    let one = take len bytes in
    record {
      records = one ∷ behind.records;
      rest = behind.rest;
      each = (first_record bytes len is whole, behind.each);
      ends = behind.ends;
      parts = sym (take-append-drop len bytes) ∙ ap (λ (back : List ℕ). one ++ back) behind.parts
          ∙ sym (append_assoc one (concat behind.records) behind.rest);
    }

split_by : (most : ℕ) (bytes : List ℕ) → length bytes ≤ most → AreSplit bytes
split_by zero bytes few = none_split bytes (inl (omega (arith, few)))
split_by (suc most) bytes few =
    elim (cases_lt (length bytes) 16) [
      | inl short ↦ none_split bytes (inl short)
      | inr head ↦
          elim (cases_lt (length bytes) (16 + kept_len bytes)) [
            | inl cut ↦ none_split bytes (inr cut)
            | inr whole ↦
                let shorter = length-drop (16 + kept_len bytes) bytes in
                first_split bytes (16 + kept_len bytes) refl whole
                (split_by most (drop (16 + kept_len bytes) bytes) (omega (arith, few, shorter, whole)))
          ]
    ]

-- so something is read of them
pub something_read : (view : AlteringView) (is_left : List ℕ → Type 0) (behind : List ℕ) → is_left behind
    → (bytes : List ℕ) × AreStillRead view is_left bytes
something_read view is_left behind left =
    let all = split_by (length (view.raw ++ behind)) (view.raw ++ behind) (omega arith) in (
      read_records view.reading all.records ++ read_rest view.reading all.rest,
      record {
        behind = behind;
        left = left;
        records = all.records;
        rest = all.rest;
        each = all.each;
        ends = all.ends;
        parts = all.parts;
        bytes_are = refl;
      },
    )

-- ---- steps

-- more bytes of the file came, and nothing was read
pub bytes_came : (was now : AlteringView) (was_left is_left : List ℕ → Type 0) (unread : List ℕ) → now.reading ≡ was.reading
    → IsFilled was_left is_left was.raw now.raw → IsFilled (AreStillRead was was_left) (AreStillRead now is_left) unread unread
bytes_came was now was_left is_left unread same filled = record {
  piece = [];
  appended = sym (append-nil unread);
  came = record {
    some = λ before still.
        let next = filled.came.some still.behind still.left in
        something_read now is_left next.0 next.1;
    behind = λ bytes still. record {
      behind = filled.piece ++ still.behind;
      left = filled.came.behind still.behind still.left;
      records = still.records;
      rest = still.rest;
      each = still.each;
      ends = still.ends;
      parts = sym (append_assoc was.raw filled.piece still.behind) ∙ ap (λ (front : List ℕ). front ++ still.behind) (sym filled.appended) ∙ still.parts;
      bytes_are = still.bytes_are
          ∙ ap (λ (reading : Reading). read_records reading still.records ++ read_rest reading still.rest) same;
    };
  };
}

-- the record at the front was read
pub record_came : (was now : AlteringView) (is_left : List ℕ → Type 0) (one unread : List ℕ) → now.reading ≡ was.reading → IsRecord one
    → was.raw ≡ one ++ now.raw → unread ≡ read_record was.reading one → IsFilled (AreStillRead was is_left) (AreStillRead now is_left) [] unread
record_came was now is_left one unread same is parts read = record {
  piece = unread;
  appended = refl;
  came = record {
    some = λ before still. something_read now is_left still.behind still.left;
    behind = λ more still. record {
      behind = still.behind;
      left = still.left;
      records = one ∷ still.records;
      rest = still.rest;
      each = (is, still.each);
      ends = still.ends;
      parts = ap (λ (front : List ℕ). front ++ still.behind) parts ∙ append_assoc one now.raw still.behind
          ∙ ap (λ (back : List ℕ). one ++ back) still.parts
          ∙ sym (append_assoc one (concat still.records) still.rest);
      bytes_are = ap (λ (back : List ℕ). unread ++ back) (still.bytes_are
          ∙ ap (λ (reading : Reading). read_records reading still.records ++ read_rest reading still.rest) same)
          ∙ ap (λ (front : List ℕ). front ++ (read_records was.reading still.records ++ read_rest was.reading still.rest)) read
          ∙ sym (append_assoc (read_record was.reading one) (read_records was.reading still.records) (read_rest was.reading still.rest));
    };
  };
}

-- the file ended, and nothing is read of the bytes that are there
pub none_come : (view : AlteringView) (is_left : List ℕ → Type 0) → HasNoRecord view.raw → is_left [] → read_rest view.reading view.raw ≡ []
    → AreStillRead view is_left []
none_come view is_left none left nothing = record {
  behind = [];
  left = left;
  records = [];
  rest = view.raw;
  each = tt;
  ends = none;
  parts = append-nil view.raw;
  bytes_are = sym nothing;
}

-- one step behind another
pub filled_both : (first now last : List ℕ → Type 0) (xs ys zs : List ℕ) → IsFilled first now xs ys → IsFilled now last ys zs → IsFilled first last xs zs
filled_both first now last xs ys zs before later = record {
  piece = before.piece ++ later.piece;
  appended = later.appended ∙ ap (λ (front : List ℕ). front ++ later.piece) before.appended ∙ append_assoc xs before.piece later.piece;
  came = record {
    some = λ one left. let next = before.came.some one left in later.came.some next.0 next.1;
    behind = λ rest left. subst first (sym (append_assoc before.piece later.piece rest))
        (before.came.behind (later.piece ++ rest) (later.came.behind rest left));
  };
}

-- ---- how many bytes are read

zeros_few : (one : List ℕ) → zeros_for one ≤ 2048
zeros_few one =
    elim (cases_lt 2048 (frame_len one)) [
      | inl more ↦ (let none = ap (λ (b : Bool). cond b 0 (frame_len one - kept_len one)) (lt-ltb 2048 (frame_len one) more) in omega (arith, none))
      | inr few ↦
          (let some = ap (λ (b : Bool). cond b 0 (frame_len one - kept_len one)) (le-ltb 2048 (frame_len one) few) in omega (arith, some, few))
    ]

padded_few : (one : List ℕ) → 16 ≤ length one → length (padded_record one) ≤ length one + 2048
padded_few one head =
    let back = drop 12 one ++ replicate (zeros_for one) 0 in
    let first = length-take-le 8 one (omega (arith, head)) in
    let behind = length-drop 12 one in
    let number = length-take-le 4 (drop 12 one) (omega (arith, head, behind)) in
    let zeros = length-replicate {A = ℕ} (zeros_for one) 0 in
    let few = zeros_few one in
    let all = length-append (take 8 one) (take 4 (drop 12 one) ++ back) in
    let later = length-append (take 4 (drop 12 one)) back in
    let last = length-append (drop 12 one) (replicate (zeros_for one) 0) in
    omega (arith, first, behind, number, zeros, few, all, later, last, head)

with_padding_few : (padded : Bool) (one : List ℕ) → 16 ≤ length one → length (cond padded (padded_record one) one) ≤ length one + 2048
with_padding_few true one head = padded_few one head
with_padding_few false one head = omega arith

read_few : (skipped padded : Bool) (one : List ℕ) → 16 ≤ length one
    → length (cond skipped [] (cond padded (padded_record one) one)) ≤ 129 * length one
read_few true padded one head = omega arith
read_few false padded one head = (let few = with_padding_few padded one head in omega (arith, few, head))

-- no more than 129 times as many as a record has
pub few_read : (reading : Reading) (one : List ℕ) → 16 ≤ length one → length (read_record reading one) ≤ 129 * length one
few_read reading one head = read_few (is_skipped reading one) (is_padded reading one) one head

no_bytes : (xs : List ℕ) → length xs ≡ 0 → xs ≡ []
no_bytes [] none = refl
no_bytes (x ∷ xs) none = absurd (omega (arith, none))

-- bytes came, and then a record was read, where nothing was unread
pub record_read : (was mid now : AlteringView) (was_left is_left : List ℕ → Type 0) (len : ℕ) (unread more : List ℕ) → mid.reading ≡ was.reading
    → IsFilled was_left is_left was.raw mid.raw → len ≡ 16 + kept_len mid.raw → len ≤ length mid.raw
    → now ≡ record { reading = mid.reading; raw = drop len mid.raw } → more ≡ read_record mid.reading (take len mid.raw) → length unread ≡ 0
    → IsFilled (AreStillRead was was_left) (AreStillRead now is_left) unread more
record_read was mid now was_left is_left len unread more same filled at there is_now read none =
    let rest : AlteringView = record { reading = mid.reading; raw = drop len mid.raw } in
    let one = record_came mid rest is_left (take len mid.raw) more refl (first_record mid.raw len at there) (sym (take-append-drop len mid.raw)) read in
    subst (λ (it : AlteringView). IsFilled (AreStillRead was was_left) (AreStillRead it is_left) unread more) (sym is_now)
    (filled_both (AreStillRead was was_left) (AreStillRead mid is_left) (AreStillRead rest is_left) unread unread more
    (bytes_came was mid was_left is_left unread same filled)
    (subst (λ (them : List ℕ). IsFilled (AreStillRead mid is_left) (AreStillRead rest is_left) them more) (sym (no_bytes unread none)) one))

-- it has so many bytes at most
pub read_few_of : (mid now : AlteringView) (len : ℕ) (more : List ℕ) → len ≡ 16 + kept_len mid.raw → len ≤ length mid.raw
    → now ≡ record { reading = mid.reading; raw = drop len mid.raw } → more ≡ read_record mid.reading (take len mid.raw)
    → length more + 129 * length now.raw ≤ 129 * length mid.raw
read_few_of mid now len more at there is_now read =
    let long = length-take-le len mid.raw there in
    let few = few_read mid.reading (take len mid.raw) (omega (arith, long, at)) in
    let same = ap length read in
    let less = ap (λ (it : AlteringView). length it.raw) is_now ∙ length-drop len mid.raw in
    omega (arith, long, few, same, less, there)
