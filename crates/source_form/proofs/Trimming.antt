-- Texts that begin and end with no white space are left as they are by `trim`; and where marks are in a text.
use Rattle.std.proofs.Common.{◌≡◌, ◌∙◌, ℕ, zero, suc, ◌+◌, ◌<◌, Bool, true, false, ◌&&◌, cond, not, ltb, eqb, List, [], ◌∷◌, ◌++◌, length, take, get_or, refl, sym, ap, arith, append_assoc, length-append}
use Rattle.std.specs.Char.{is_whitespace}
use Rattle.std.specs.List.{onto_first, position_or_len}
use Rattle.std.specs.Str.{IsAscii, trim, trim_start, trim_end, skip_leading_whitespace, drop_trailing_whitespace, encode_utf8_all}
use Rattle.std.proofs.lemmas.Bool.Decides.{nat_tests, Decides-eqb}
use Rattle.std.proofs.lemmas.List.Splits.{slice_split-cons_yes, slice_split-cons_no}
use Rattle.std.proofs.lemmas.Str.{chars-IsAscii, encodes-IsAscii}
use Rattle.std.proofs.lemmas.Str.Ascii.{IsAscii-from_reads}
use Rattle.text_lines.proofs.shared.ByteLemmas.{all_bytes}
use Rattle.source_form.specs.SourceText.{parts_at, before_mark, has_mark}

pub both : (a b : Bool) → (a && b) ≡ true → (a ≡ true) × (b ≡ true)
both true b e = (refl, e)
both false b e = absurd cc

-- ---- marks

-- the byte is not the mark
abbrev pub other : ℕ → ℕ → Bool
other mark b = not (eqb b mark)

mark_itself : (mark : ℕ) → eqb mark mark ≡ true
mark_itself mark = (Decides-eqb mark mark).1 refl

is_other : (mark b : ℕ) → other mark b ≡ true → eqb b mark ≡ false
is_other mark b e = by_test (eqb b mark) e
  where
    by_test : (test : Bool) → not test ≡ true → test ≡ false
    by_test true e = absurd cc
    by_test false e = refl

position_at_end : (mark : ℕ) (xs : List ℕ) → all_bytes (other mark) xs ≡ true → position_or_len (λ b. eqb b mark) xs ≡ length xs
position_at_end mark [] a = refl
position_at_end mark (x ∷ xs) a =
    let s = both (other mark x) (all_bytes (other mark) xs) a in
    let rest : position_or_len (λ b. eqb b mark) xs ≡ length xs = position_at_end mark xs s.1 in
    rw s.0 (omega (arith, rest))

take_whole : (xs : List ℕ) → take (length xs) xs ≡ xs
take_whole [] = refl
take_whole (x ∷ xs) = ap (λ (ys : List ℕ). x ∷ ys) (take_whole xs)

pub before_none : (mark : ℕ) (xs : List ℕ) → all_bytes (other mark) xs ≡ true → before_mark mark xs ≡ xs
before_none mark xs a = ap (λ (n : ℕ). take n xs) (position_at_end mark xs a) ∙ take_whole xs

position_after : (mark : ℕ) (xs ys : List ℕ) → all_bytes (other mark) xs ≡ true → position_or_len (λ b. eqb b mark) (xs ++ mark ∷ ys) ≡ length xs
position_after mark [] ys a = rw (mark_itself mark) refl
position_after mark (x ∷ xs) ys a =
    let s = both (other mark x) (all_bytes (other mark) xs) a in
    let rest : position_or_len (λ b. eqb b mark) (xs ++ mark ∷ ys) ≡ length xs = position_after mark xs ys s.1 in
    rw s.0 (omega (arith, rest))

take_front : (xs ys : List ℕ) → take (length xs) (xs ++ ys) ≡ xs
take_front [] ys = refl
take_front (x ∷ xs) ys = ap (λ (zs : List ℕ). x ∷ zs) (take_front xs ys)

pub before_first_one : (mark : ℕ) (xs ys : List ℕ) → all_bytes (other mark) xs ≡ true → before_mark mark (xs ++ mark ∷ ys) ≡ xs
before_first_one mark xs ys a = ap (λ (n : ℕ). take n (xs ++ mark ∷ ys)) (position_after mark xs ys a) ∙ take_front xs (mark ∷ ys)

same_not_below : (n : ℕ) → ltb n n ≡ false
same_not_below n = grind (arith, nat_tests)

pub no_mark : (mark : ℕ) (xs : List ℕ) → all_bytes (other mark) xs ≡ true → has_mark mark xs ≡ false
no_mark mark xs a = ap (λ (n : ℕ). ltb n (length xs)) (position_at_end mark xs a) ∙ same_not_below (length xs)

pub one_part : (mark : ℕ) (xs : List ℕ) → all_bytes (other mark) xs ≡ true → parts_at mark xs ≡ xs ∷ []
one_part mark [] a = refl
one_part mark (x ∷ xs) a =
    let s = both (other mark x) (all_bytes (other mark) xs) a in
    slice_split-cons_no (λ b. eqb b mark) x xs (is_other mark x s.0) ∙ ap (λ (parts : List (List ℕ)). onto_first x parts) (one_part mark xs s.1)

pub first_part : (mark : ℕ) (xs ys : List ℕ) → all_bytes (other mark) xs ≡ true → parts_at mark (xs ++ mark ∷ ys) ≡ xs ∷ parts_at mark ys
first_part mark [] ys a = slice_split-cons_yes (λ b. eqb b mark) mark ys (mark_itself mark)
first_part mark (x ∷ xs) ys a =
    let s = both (other mark x) (all_bytes (other mark) xs) a in
    slice_split-cons_no (λ b. eqb b mark) x (xs ++ mark ∷ ys) (is_other mark x s.0)
    ∙ ap (λ (parts : List (List ℕ)). onto_first x parts) (first_part mark xs ys s.1)

-- ---- ASCII

abbrev pub ascii_byte : ℕ → Bool
ascii_byte b = ltb b 128

reads_ascii : (xs : List ℕ) → all_bytes ascii_byte xs ≡ true → (i : ℕ) → i < length xs → get_or xs i 0 < 128
reads_ascii [] a i lt = absurd (omega (arith, lt))
reads_ascii (x ∷ xs) a zero lt =
    let s = both (ascii_byte x) (all_bytes ascii_byte xs) a in
    grind (arith, nat_tests)
reads_ascii (x ∷ xs) a (suc i) lt = reads_ascii xs (both (ascii_byte x) (all_bytes ascii_byte xs) a).1 i (omega (arith, lt))

pub is_ascii : (xs : List ℕ) → all_bytes ascii_byte xs ≡ true → IsAscii xs
is_ascii xs a = IsAscii-from_reads xs (length xs) (omega arith) (reads_ascii xs a)

-- ---- the end of a text

-- no white space
abbrev pub solid : ℕ → Bool
solid b = not (is_whitespace b)

-- the last byte is solid
pub record EndsWell (xs : List ℕ) : Type 0 where
  pub front : List ℕ
  pub last : ℕ
  pub is : xs ≡ front ++ last ∷ []
  pub good : solid last ≡ true

pub ends_word : (x : ℕ) (xs : List ℕ) → all_bytes solid (x ∷ xs) ≡ true → EndsWell (x ∷ xs)
ends_word x [] a = record { front = []; last = x; is = refl; good = (both (solid x) true a).0 }
ends_word x (y ∷ xs) a =
    let rest = ends_word y xs (both (solid x) (all_bytes solid (y ∷ xs)) a).1 in
    record { front = x ∷ rest.front; last = rest.last; is = ap (λ (ys : List ℕ). x ∷ ys) rest.is; good = rest.good }

pub ends_before : (xs ys : List ℕ) → EndsWell ys → EndsWell (xs ++ ys)
ends_before xs ys ends = record {
  front = xs ++ ends.front;
  last = ends.last;
  is = ap (λ (zs : List ℕ). xs ++ zs) ends.is ∙ sym (append_assoc xs ends.front (ends.last ∷ []));
  good = ends.good;
}

not_white : (b : ℕ) → solid b ≡ true → is_whitespace b ≡ false
not_white b e = by_test (is_whitespace b) e
  where
    by_test : (test : Bool) → not test ≡ true → test ≡ false
    by_test true e = absurd cc
    by_test false e = refl

pub some_bytes : (xs : List ℕ) → EndsWell xs → 0 < length xs
some_bytes xs ends =
    let long : length xs ≡ length ends.front + 1 = ap length ends.is ∙ length-append ends.front (ends.last ∷ []) in
    omega (arith, long)

stays : (white : Bool) (x : ℕ) (kept : List ℕ) → 0 < length kept → cond (white && eqb (length kept) 0) [] (x ∷ kept) ≡ x ∷ kept
stays false x kept some = refl
stays true x kept some =
    let full : eqb (length kept) 0 ≡ false = grind (arith, nat_tests) in
    rw full refl

kept_to : (front : List ℕ) (last : ℕ) → solid last ≡ true → drop_trailing_whitespace (front ++ last ∷ []) ≡ front ++ last ∷ []
kept_to [] last good = rw (not_white last good) refl
kept_to (x ∷ front) last good =
    let some : 0 < length (front ++ last ∷ []) = omega (arith, length-append front (last ∷ [])) in
    ap (λ (kept : List ℕ). cond (is_whitespace x && eqb (length kept) 0) [] (x ∷ kept)) (kept_to front last good)
    ∙ stays (is_whitespace x) x (front ++ last ∷ []) some

pub end_kept : (xs : List ℕ) → EndsWell xs → drop_trailing_whitespace xs ≡ xs
end_kept xs ends = ap drop_trailing_whitespace ends.is ∙ kept_to ends.front ends.last ends.good ∙ sym ends.is

-- ---- the beginning of a text

pub begin_kept : (x : ℕ) (xs : List ℕ) → solid x ≡ true → skip_leading_whitespace (x ∷ xs) ≡ x ∷ xs
begin_kept x xs good = rw (not_white x good) refl

-- ---- trimming

start_same : (xs ys : List ℕ) → IsAscii xs → IsAscii ys → skip_leading_whitespace xs ≡ ys → trim_start xs ≡ ys
unfolding trim_start
start_same xs ys ascii ascii_ys e =
    ap (λ (cs : List ℕ). encode_utf8_all (skip_leading_whitespace cs)) (chars-IsAscii xs ascii) ∙ ap encode_utf8_all e ∙ encodes-IsAscii ys ascii_ys

end_same : (xs : List ℕ) → IsAscii xs → drop_trailing_whitespace xs ≡ xs → trim_end xs ≡ xs
unfolding trim_end
end_same xs ascii e =
    ap (λ (cs : List ℕ). encode_utf8_all (drop_trailing_whitespace cs)) (chars-IsAscii xs ascii) ∙ ap encode_utf8_all e ∙ encodes-IsAscii xs ascii

pub record IsTrimmed (xs : List ℕ) : Type 0 where
  pub ascii : all_bytes ascii_byte xs ≡ true
  pub begins : skip_leading_whitespace xs ≡ xs
  pub ends : EndsWell xs

pub trim_same : (xs : List ℕ) → IsTrimmed xs → trim xs ≡ xs
trim_same xs is =
    ap trim_end (start_same xs xs (is_ascii xs is.ascii) (is_ascii xs is.ascii) is.begins)
    ∙ end_same xs (is_ascii xs is.ascii) (end_kept xs is.ends)

-- a space before it goes
pub trim_space : (xs : List ℕ) → IsTrimmed xs → trim (32 ∷ xs) ≡ xs
trim_space xs is =
    ap trim_end (start_same (32 ∷ xs) xs (is_ascii (32 ∷ xs) is.ascii) (is_ascii xs is.ascii) is.begins)
    ∙ end_same xs (is_ascii xs is.ascii) (end_kept xs is.ends)
