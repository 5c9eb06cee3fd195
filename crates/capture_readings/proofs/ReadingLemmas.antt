-- Going over the records of a capture one after another.
use Rattle.std.proofs.Common.{◌≡◌, ℕ, ◌+◌, ◌-◌, ◌≤◌, ◌||◌, Bool, true, false, List, [], ◌∷◌, ◌++◌, length, take, drop, replicate, filter, refl, sym, ap, ◌∙◌, arith, append_assoc, append-nil, length-append, length-drop, cond}
use Rattle.std.specs.List.{AllByRecursion, concat}
use Rattle.std.proofs.lemmas.List.{drop-take, take-append-drop, drop-append-le, length-take-le}
use Rattle.std.proofs.lemmas.List.Elements.{filter-append}
use Rattle.std.proofs.lemmas.List.Folds.{concat-append}
use Rattle.std.proofs.lemmas.Grind.{flat_map-append}
use Rattle.byteorder.specs.Endian.{little_number}
use Rattle.byteorder.specs.Numbers.{little_from-take, little_from-append}
use Rattle.wire.specs.CaptureFormat.{le32_at}
use Rattle.capture_readings.specs.declared.readings.Reading.{Reading}
use Rattle.capture_readings.specs.Readings.{IsRecord, alters, filled_of, frame_len, is_filled, is_skipped, kept_len, padded_record, read_record, read_records, read_rest, skipped_of, zeros_for}

-- the length that a record's head says, read from its front alone
head_number : (len : ℕ) (rest : List ℕ) → 12 ≤ len → le32_at 8 (take len rest) ≡ le32_at 8 rest
head_number len rest enough =
    let parts : len ≡ 8 + (len - 8) = omega (arith, enough) in
    ap (λ n. le32_at 8 (take n rest)) parts
    ∙ (ap (λ bytes. little_number 4 bytes) (drop-take 8 (len - 8) rest) ∙ little_from-take 0 4 (len - 8) (drop 8 rest) (omega (arith, enough)))

-- a whole record at the front of the rest
pub record_at_front : (rest one : List ℕ) (len : ℕ) → one ≡ take len rest → length one ≡ len → len ≡ 16 + kept_len rest → IsRecord one
record_at_front rest one len front long is =
    let same : le32_at 8 one ≡ le32_at 8 rest = ap (λ bytes. le32_at 8 bytes) front ∙ head_number len rest (omega (arith, is)) in
    record {
      head = omega (arith, long, is);
      whole = omega (arith, long, is, same);
    }

-- a padded record keeps, by its head, as many bytes as its frame had
pub padded_len : (one : List ℕ) → 16 ≤ length one → kept_len (padded_record one) ≡ frame_len one
padded_len one head =
    let zeros = drop 12 one ++ replicate (zeros_for one) 0 in
    let number = take 4 (drop 12 one) in
    let before : length (take 8 one) ≡ 8 = length-take-le 8 one (omega (arith, head)) in
    let more : 4 ≤ length (drop 12 one) = (let d = length-drop 12 one in omega (arith, d, head)) in
    let four : length number ≡ 4 = length-take-le 4 (drop 12 one) more in
    let behind : drop 8 (take 8 one ++ (number ++ zeros)) ≡ number ++ zeros =
    drop-append-le 8 (take 8 one) (number ++ zeros) (omega (arith, before)) ∙ ap (λ front. front ++ (number ++ zeros)) (drop-take 8 0 one) in
    ap (λ bytes. little_number 4 bytes) behind
    ∙ (little_from-append 4 number zeros (omega (arith, four)) ∙ little_from-take 0 4 4 (drop 12 one) (omega arith))

-- the records so far were gone over; this is what is left of the file
pub record AreGoneOver (reading : Reading) (bytes kept : List ℕ) (skipped filled : ℕ) (rest : List ℕ) : Type 0 where
  pub records : List (List ℕ)
  pub each : AllByRecursion IsRecord records
  pub parts : bytes ≡ take 24 bytes ++ (concat records ++ rest)
  pub kept_are : kept ≡ take 24 bytes ++ read_records reading records
  pub skipped_are : skipped ≡ skipped_of reading records
  pub filled_are : filled ≡ filled_of reading records
  pub few : skipped + length rest ≤ length bytes
  pub few_filled : filled + length rest ≤ length bytes

-- at the beginning, only the header
pub none_yet : (reading : Reading) (bytes kept rest : List ℕ) → kept ≡ take 24 bytes → rest ≡ drop 24 bytes → AreGoneOver reading bytes kept 0 0 rest
none_yet reading bytes kept rest header later =
    let short : length rest ≤ length bytes = (let short = ap length later ∙ length-drop 24 bytes in omega (arith, short)) in
    record {
      records = [];
      each = tt;
      parts = sym (take-append-drop 24 bytes) ∙ ap (λ back. take 24 bytes ++ back) (sym later);
      kept_are = header ∙ sym (append-nil (take 24 bytes));
      skipped_are = refl;
      filled_are = refl;
      few = omega (arith, short);
      few_filled = omega (arith, short);
    }

all_and_one : (records : List (List ℕ)) (one : List ℕ) → AllByRecursion IsRecord records → IsRecord one → AllByRecursion IsRecord (records ++ one ∷ [])
all_and_one [] one each is = (is, tt)
all_and_one (first ∷ records) one each is = (each.0, all_and_one records one each.1 is)

concat_one : (records : List (List ℕ)) (one : List ℕ) → concat (records ++ one ∷ []) ≡ concat records ++ one
concat_one records one = concat-append records (one ∷ []) ∙ ap (λ back. concat records ++ back) (append-nil one)

read_one : (reading : Reading) (records : List (List ℕ)) (one : List ℕ)
    → read_records reading (records ++ one ∷ []) ≡ read_records reading records ++ read_record reading one
read_one reading records one =
    flat_map-append (read_record reading) records (one ∷ []) ∙ ap (λ back. read_records reading records ++ back) (append-nil (read_record reading one))

count_one : (counted : List ℕ → Bool) (records : List (List ℕ)) (one : List ℕ)
    → length (filter counted (records ++ one ∷ [])) ≡ length (filter counted records) + length (filter counted (one ∷ []))
count_one counted records one =
    ap length (filter-append counted records (one ∷ [])) ∙ length-append (filter counted records) (filter counted (one ∷ []))

count_of : (counted : Bool) (one : List ℕ) → length (cond counted (one ∷ []) []) ≤ 1
count_of true one = omega arith
count_of false one = omega arith

-- one record counts once at most
pub skipped_once : (reading : Reading) (one : List ℕ) → skipped_of reading (one ∷ []) ≤ 1
skipped_once reading one = count_of (is_skipped reading one) one

pub filled_once : (reading : Reading) (one : List ℕ) → filled_of reading (one ∷ []) ≤ 1
filled_once reading one = count_of (is_filled reading one) one

-- one more record
pub one_more : (reading : Reading) (bytes kept newer : List ℕ) (skipped filled skips fills : ℕ) (rest one later : List ℕ)
    → AreGoneOver reading bytes kept skipped filled rest → IsRecord one → rest ≡ one ++ later → newer ≡ kept ++ read_record reading one
    → skips ≡ skipped + skipped_of reading (one ∷ []) → fills ≡ filled + filled_of reading (one ∷ [])
    → AreGoneOver reading bytes newer skips fills later
one_more reading bytes kept newer skipped filled skips fills rest one later over is front more skips_are fills_are =
    let long : length rest ≡ length one + length later = ap length front ∙ length-append one later in
    let head = is.head in
    record {
      records = over.records ++ one ∷ [];
      each = all_and_one over.records one over.each is;
      parts =
          over.parts
          ∙ ap (λ back. take 24 bytes ++ back)
          (ap (λ back. concat over.records ++ back) front
          ∙ (sym (append_assoc (concat over.records) one later) ∙ ap (λ part. part ++ later) (sym (concat_one over.records one))));
      kept_are =
          more
          ∙ (ap (λ part. part ++ read_record reading one) over.kept_are
          ∙ (append_assoc (take 24 bytes) (read_records reading over.records) (read_record reading one)
          ∙ ap (λ back. take 24 bytes ++ back) (sym (read_one reading over.records one))));
      skipped_are =
          skips_are
          ∙ (ap (λ n. n + skipped_of reading (one ∷ [])) over.skipped_are ∙ sym (count_one (is_skipped reading) over.records one));
      filled_are =
          fills_are
          ∙ (ap (λ n. n + filled_of reading (one ∷ [])) over.filled_are ∙ sym (count_one (is_filled reading) over.records one));
      few =
          (let before = over.few in
          let single = skipped_once reading one in
          omega (arith, long, head, before, single, skips_are));
      few_filled =
          (let before = over.few_filled in
          let single = filled_once reading one in
          omega (arith, long, head, before, single, fills_are));
    }

-- ---- where nothing is altered

none_set : (first second third : Bool) → first || (second || third) ≡ false → (first ≡ false) × (second ≡ false) × (third ≡ false)
none_set false false false is = (refl, refl, refl)
none_set false false true is = cc
none_set false true third is = cc
none_set true second third is = cc

unaltered_record : (reading : Reading) → alters reading ≡ false → (one : List ℕ) → read_record reading one ≡ one
unaltered_record reading none one =
    let off = none_set reading.allow_cut reading.pad_cut reading.skip_long none in
    rw (off.1, off.2) refl

unaltered_records : (reading : Reading) → alters reading ≡ false → (records : List (List ℕ)) → read_records reading records ≡ concat records
unaltered_records reading none [] = refl
unaltered_records reading none (one ∷ records) =
    ap (λ front. front ++ read_records reading records) (unaltered_record reading none one)
    ∙ ap (λ back. one ++ back) (unaltered_records reading none records)

unaltered_rest : (reading : Reading) → alters reading ≡ false → (rest : List ℕ) → read_rest reading rest ≡ rest
unaltered_rest reading none rest =
    let off = none_set reading.allow_cut reading.pad_cut reading.skip_long none in
    rw off.0 refl

-- the bytes themselves are read
pub unaltered : (reading : Reading) (bytes kept left : List ℕ) (skipped filled : ℕ) (rest : List ℕ) → AreGoneOver reading bytes kept skipped filled rest
    → left ≡ kept ++ read_rest reading rest → alters reading ≡ false → left ≡ bytes
unaltered reading bytes kept left skipped filled rest over is none =
    is
    ∙ (ap (λ back. kept ++ back) (unaltered_rest reading none rest)
    ∙ (ap (λ front. front ++ rest) (over.kept_are ∙ ap (λ back. take 24 bytes ++ back) (unaltered_records reading none over.records))
    ∙ (append_assoc (take 24 bytes) (concat over.records) rest ∙ sym over.parts)))
