-- What the front of a file's bytes says of all of them.
use Rattle.std.proofs.Common.{◌≡◌, ℕ, zero, suc, ◌+◌, ◌*◌, ◌≤◌, ◌<◌, ◌⊎◌, inl, inr, List, ◌++◌, length, take, drop, get_or, refl, sym, ap, subst, ◌∙◌, length-append, arith}
use Rattle.std.proofs.lemmas.List.{drop-append-le, take-append-le, length-drop, get_or_append_left}
use Rattle.byteorder.specs.Endian.{little_from}
use Rattle.wire.specs.declared.records.Sent.{Sent}
use Rattle.wire.specs.declared.capture_fault.CaptureFault.{CaptureFault}
use Rattle.wire.specs.declared.capture_fault.CaptureFault.TheVariants.{BadMagic, BadVersion, BadLink, CutHead, CutFrame, FrameTooLong, Device, Memory}
use Rattle.wire.specs.CaptureFormat.{le16_at, le32_at, BeginsWithHeader, BeginsWithRecord, IsHeaderFault, RefusesRecord, RefusesCapture, IsFirstCaptureFault}
use Rattle.wire.specs.CaptureFormat.{IsNoCaptureFile}

-- a number in the front
little_from-append : (i n : ℕ) (xs ys : List ℕ) → i + n ≤ length xs → little_from i n (xs ++ ys) ≡ little_from i n xs
little_from-append i zero xs ys within = refl
little_from-append i (suc n) xs ys within =
    let here : get_or (xs ++ ys) i 0 ≡ get_or xs i 0 = get_or_append_left xs ys 0 i (omega arith) in
    let later : little_from (suc i) n (xs ++ ys) ≡ little_from (suc i) n xs = little_from-append (suc i) n xs ys (omega arith) in
    ap (λ x. x + 256 * little_from (suc i) n (xs ++ ys)) here ∙ ap (λ x. get_or xs i 0 + 256 * x) later

pub le32_at-append : (at : ℕ) (xs ys : List ℕ) → at + 4 ≤ length xs → le32_at at (xs ++ ys) ≡ le32_at at xs
le32_at-append at xs ys within =
    ap (λ zs. little_from 0 4 zs) (drop-append-le at xs ys (omega arith))
    ∙ little_from-append 0 4 (drop at xs) ys (omega (arith, length-drop at xs))

le16_at-append : (at : ℕ) (xs ys : List ℕ) → at + 2 ≤ length xs → le16_at at (xs ++ ys) ≡ le16_at at xs
le16_at-append at xs ys within =
    ap (λ zs. little_from 0 2 zs) (drop-append-le at xs ys (omega arith))
    ∙ little_from-append 0 2 (drop at xs) ys (omega (arith, length-drop at xs))

-- a header at the front
pub begins_header : (xs ys : List ℕ) → BeginsWithHeader xs → BeginsWithHeader (xs ++ ys)
begins_header xs ys begins =
    let long = begins.long in
    record {
      long = omega (arith, long, length-append xs ys);
      magic = le32_at-append 0 xs ys (omega (arith, long)) ∙ begins.magic;
      major = le16_at-append 4 xs ys (omega (arith, long)) ∙ begins.major;
      minor = le16_at-append 6 xs ys (omega (arith, long)) ∙ begins.minor;
      link = le32_at-append 20 xs ys (omega (arith, long)) ∙ begins.link;
    }

-- a header that is there whole
pub front_header : (xs ys : List ℕ) → 24 ≤ length xs → BeginsWithHeader (xs ++ ys) → BeginsWithHeader xs
front_header xs ys long begins = record {
  long = long;
  magic = sym (le32_at-append 0 xs ys (omega (arith, long))) ∙ begins.magic;
  major = sym (le16_at-append 4 xs ys (omega (arith, long))) ∙ begins.major;
  minor = sym (le16_at-append 6 xs ys (omega (arith, long))) ∙ begins.minor;
  link = sym (le32_at-append 20 xs ys (omega (arith, long))) ∙ begins.link;
}

-- a record at the front
pub begins_record : (xs ys : List ℕ) (sent : Sent) → BeginsWithRecord xs sent → BeginsWithRecord (xs ++ ys) sent
begins_record xs ys sent begins =
    let kept = length sent.bytes.items in
    let whole : 16 + kept ≤ length xs = begins.whole in
    let behind = length-drop 16 xs in
    record {
      seconds = le32_at-append 0 xs ys (omega (arith, whole)) ∙ begins.seconds;
      micros = le32_at-append 4 xs ys (omega (arith, whole)) ∙ begins.micros;
      kept = le32_at-append 8 xs ys (omega (arith, whole)) ∙ begins.kept;
      small = begins.small;
      whole = omega (arith, whole, length-append xs ys);
      frame =
          begins.frame
          ∙ sym (take-append-le kept (drop 16 xs) ys (omega (arith, whole, behind)))
          ∙ ap (λ zs. take kept zs) (sym (drop-append-le 16 xs ys (omega (arith, whole))));
    }

-- what is wrong with a record, where the bytes end or there are as many as a record can have
pub refuses_record : (xs ys : List ℕ) (number : ℕ) (fault : CaptureFault) → (length xs < 2064 → length ys ≡ 0) → RefusesRecord xs number fault → RefusesRecord (xs ++ ys) number fault
refuses_record xs ys number BadMagic ended cause = absurd cause
refuses_record xs ys number BadVersion ended cause = absurd cause
refuses_record xs ys number BadLink ended cause = absurd cause
refuses_record xs ys number (CutHead at) ended cause =
    let short = cause.2 in
    let none : length ys ≡ 0 = ended (omega (arith, short)) in
    let sum = length-append xs ys in
    (cause.0, omega (arith, cause.1, sum), omega (arith, short, none, sum))
refuses_record xs ys number (CutFrame at) ended cause =
    let short = cause.3 in
    let none : length ys ≡ 0 = ended (omega (arith, short, cause.2)) in
    let sum = length-append xs ys in
    let same = le32_at-append 8 xs ys (omega (arith, cause.1)) in
    let P : ℕ → Type 0 = λ kept. kept ≤ 2048 in
    let Q : ℕ → Type 0 = λ kept. length (xs ++ ys) < 16 + kept in
    (cause.0, omega (arith, cause.1, sum), subst P (sym same) cause.2, subst Q (sym same) (omega (arith, short, none, sum)))
refuses_record xs ys number (FrameTooLong at) ended cause =
    let sum = length-append xs ys in
    let same = le32_at-append 8 xs ys (omega (arith, cause.1)) in
    let P : ℕ → Type 0 = λ kept. 2048 < kept in
    (cause.0, omega (arith, cause.1, sum), subst P (sym same) cause.2)
refuses_record xs ys number Device ended cause = absurd cause
refuses_record xs ys number Memory ended cause = tt

-- what is wrong with the header of a whole file
no_header : (xs : List ℕ) (fault : CaptureFault) → IsHeaderFault xs fault → (BeginsWithHeader xs → ⊥) → IsFirstCaptureFault xs fault × IsNoCaptureFile xs
no_header xs fault cause none = (inl cause, λ sents file. none file.header)

-- what is wrong with the header, where the bytes end or there are as many as a record can have
pub refuses_header : (xs ys : List ℕ) (fault : CaptureFault) → (length xs < 2064 → length ys ≡ 0) → IsHeaderFault xs fault → RefusesCapture (xs ++ ys) fault
refuses_header xs ys BadMagic ended cause =
    let same = le32_at-append 0 xs ys (omega (arith, cause.0)) in
    let P : ℕ → Type 0 = λ x. x ≡ 0xa1b2c3d4 → ⊥ in
    let bad = subst P (sym same) cause.1 in
    no_header (xs ++ ys) BadMagic (omega (arith, cause.0, length-append xs ys), bad) (λ header. bad header.magic)
refuses_header xs ys BadVersion ended cause =
    let magic = le32_at-append 0 xs ys (omega (arith, cause.0)) in
    let major = le16_at-append 4 xs ys (omega (arith, cause.0)) in
    let minor = le16_at-append 6 xs ys (omega (arith, cause.0)) in
    let bad : ((le16_at 4 (xs ++ ys) ≡ 2 → ⊥) ⊎ (le16_at 6 (xs ++ ys) ≡ 4 → ⊥)) =
    elim cause.2 [ inl other ↦ inl (λ same. other (sym major ∙ same)) | inr other ↦ inr (λ same. other (sym minor ∙ same)) ] in
    no_header (xs ++ ys) BadVersion (omega (arith, cause.0, length-append xs ys), magic ∙ cause.1, bad)
    (λ header. elim bad [ inl other ↦ other header.major | inr other ↦ other header.minor ])
refuses_header xs ys BadLink ended cause =
    let magic = le32_at-append 0 xs ys (omega (arith, cause.0)) in
    let major = le16_at-append 4 xs ys (omega (arith, cause.0)) in
    let minor = le16_at-append 6 xs ys (omega (arith, cause.0)) in
    let link = le32_at-append 20 xs ys (omega (arith, cause.0)) in
    let bad = λ (same : le32_at 20 (xs ++ ys) ≡ 1). cause.4 (sym link ∙ same) in
    no_header (xs ++ ys) BadLink (omega (arith, cause.0, length-append xs ys), magic ∙ cause.1, major ∙ cause.2, minor ∙ cause.3, bad)
    (λ header. bad header.link)
refuses_header xs ys (CutHead at) ended cause =
    let none : length ys ≡ 0 = ended (omega (arith, cause.1)) in
    let short : length (xs ++ ys) < 24 = omega (arith, cause.1, none, length-append xs ys) in
    no_header (xs ++ ys) (CutHead at) (cause.0, short) (λ header. omega (arith, short, header.long))
refuses_header xs ys (CutFrame at) ended cause = absurd cause
refuses_header xs ys (FrameTooLong at) ended cause = absurd cause
refuses_header xs ys Device ended cause = absurd cause
refuses_header xs ys Memory ended cause = absurd cause
