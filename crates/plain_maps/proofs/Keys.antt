-- What comparing and hashing keys goes by.
use Rattle.std.proofs.Common.{◌≡◌, ◌≢◌, ℕ, suc, ◌+◌, ◌/◌, ◌<◌, Bool, true, false, List, length, take, drop, get_or, bytes_eq, refl, sym, ap, ◌∙◌, inl, inr, arith}
use Rattle.std.specs.Int.{from_le_bytes, w64}
use Rattle.std.proofs.lemmas.List.{same_lists, get_or_default}
use Rattle.std.proofs.lemmas.Bool.{cases_Bool}
use Rattle.std.proofs.lemmas.Slice.Eq.{bytes_eq-Decides}
use Rattle.plain_maps.specs.Hashing.{mixed, with_words}

pub words_step : (rest word later : List ℕ) (hash : ℕ) → word ≡ take 8 rest → later ≡ drop 8 rest → length later + 8 ≡ length rest → with_words (length later / 8) later (mixed hash (from_le_bytes w64 word)) ≡ with_words (length rest / 8) rest hash
words_step rest word later hash first others long =
    let more : length rest / 8 ≡ suc (length later / 8) = omega arith in
    rw (more, first, others) refl

pub same_decided : (same : Bool) (a b : List ℕ) → length a ≡ length b → (same ≡ true → (k : ℕ) → k < length a → get_or a k 0 ≡ get_or b k 0) → (same ≡ false → (k : ℕ) × (k < length a) × (get_or a k 0 ≢ get_or b k 0)) → same ≡ bytes_eq a b
same_decided true a b long same apart = sym ((bytes_eq-Decides a b).1 (same_lists a b long (λ k d lt. get_or_default a k d 0 lt ∙ (same refl k lt ∙ sym (get_or_default b k d 0 (omega arith))))))
same_decided false a b long same apart = elim (cases_Bool (bytes_eq a b)) [
  | inl is ↦ (let equal = (bytes_eq-Decides a b).0 is in
      let there = apart refl in
      absurd (there.2 (ap (λ (xs : List ℕ). get_or xs there.0 0) equal)))
  | inr is ↦ sym is
]
