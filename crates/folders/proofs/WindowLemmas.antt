-- Bytes that are read into a buffer, behind those that are unread.
use Rattle.std.proofs.Common.{◌≡◌, ℕ, ◌+◌, ◌-◌, ◌≤◌, List, [], ◌++◌, length, take, drop, sym, ap, subst, ◌∙◌, append_assoc, append-nil, arith}
use Rattle.std.specs.List.{between}
use Rattle.std.proofs.Math.Seq.{take-append-add}
use Rattle.std.proofs.lemmas.List.{drop-drop, drop-take, length-take, length-take-le, take-append-le}
use borrow.Rule.Slice.PartMut.{put_mid, post_of}
use Rattle.folders.specs.Pieces.{IsPiece}
use Rattle.folders.specs.Filling.{IsFilled}

-- going past some of the unread bytes
pub skipped : (bytes : List ℕ) (at end count : ℕ) → count ≤ length (between at end bytes) → between (at + count) end bytes ≡ drop count (between at end bytes)
skipped bytes at end count few =
    let short = length-take (end - at) (drop at bytes) in
    let parts : end - at ≡ count + (end - (at + count)) = omega (arith, short, few) in
    ap (λ xs. take (end - (at + count)) xs) (sym (drop-drop count at bytes))
    ∙ sym (drop-take count (end - (at + count)) (drop at bytes))
    ∙ ap (λ n. drop count (take n (drop at bytes))) (sym parts)

-- nothing was read
pub filled_none : (left : List ℕ → Type 0) (unread : List ℕ) → IsFilled left left unread unread
filled_none left unread = record {
  piece = [];
  appended = sym (append-nil unread);
  came = record { some = λ before was. (before, was); behind = λ rest is. is };
}

-- the next bytes came into the buffer, behind the unread ones
pub filled_more : (first now last : List ℕ → Type 0) (was bytes ys : List ℕ) (all k count : ℕ) → all ≤ length bytes → count ≤ length ys → IsFilled first now was (take all bytes) → IsPiece now last (take count ys) → IsFilled first last was (take (all + count) (put_mid all k bytes ys))
filled_more first now last was bytes ys all k count within few filled came =
    let front = take all bytes in
    let long : all ≡ length front = sym (length-take-le all bytes within) in
    let behind : List ℕ = post_of all k bytes in
    let taken : take (all + count) (put_mid all k bytes ys) ≡ front ++ take count ys =
    ap (λ n. take (n + count) (front ++ (ys ++ behind))) long
    ∙ take-append-add front (ys ++ behind) count
    ∙ ap (λ xs. front ++ xs) (take-append-le count ys behind few) in
    record {
      piece = filled.piece ++ take count ys;
      appended = taken ∙ ap (λ xs. xs ++ take count ys) filled.appended ∙ append_assoc was filled.piece (take count ys);
      came = record {
        some = λ before left. let next = filled.came.some before left in came.some next.0 next.1;
        behind = λ rest left. subst first (sym (append_assoc filled.piece (take count ys) rest)) (filled.came.behind (take count ys ++ rest) (came.behind rest left));
      };
    }

-- no more bytes came
pub filled_end : (first now last : List ℕ → Type 0) (was bytes ys : List ℕ) (all k count : ℕ) → all ≤ length bytes → count ≡ 0 → IsFilled first now was (take all bytes) → IsPiece now last (take count ys) → IsFilled first last was (take all (put_mid all k bytes ys))
filled_end first now last was bytes ys all k count within none filled came =
    let P : ℕ → Type 0 = λ n. IsFilled first last was (take n (put_mid all k bytes ys)) in
    let same : all + count ≡ all = omega (arith, none) in
    subst P same (filled_more first now last was bytes ys all k count within (omega (arith, none)) filled came)
