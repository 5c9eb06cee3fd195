-- The keys of the numbers that are there, listed flag by flag.
use Rattle.std.proofs.Common.{◌≡◌, ℕ, zero, suc, ◌+◌, ◌<◌, Bool, true, false, List, [], ◌∷◌, ◌++◌, length, take, map, get_or, bytes_eq, refl, sym, ap, ◌∙◌, inl, inr, arith}
use Rattle.std.specs.List.{AllByRecursion, IsDistinct}
use Rattle.std.specs.Map.{keys_of}
use Rattle.std.proofs.lemmas.Bool.{cases_Bool, false≢true}
use Rattle.std.proofs.lemmas.Slice.Eq.{bytes_eq-Decides}
use Rattle.std.proofs.lemmas.Map.Keys.{IsDistinct-cons}
use Rattle.plain_maps.specs.Keyed.{key_of, entries_of, numbers_there, key_map}
use Rattle.plain_maps.specs.Buckets.{There}
use Rattle.plain_maps.specs.HashTable.{with_id}
use Rattle.plain_maps.specs.Listed.{ListsAll, item_of}
use Rattle.plain_maps.proofs.Tables.{cell_by_entry}
use Rattle.plain_maps.proofs.shared.Listing.{none_distinct}

-- ---- one flag further

there_more : (from : ℕ) (flags : List Bool) (n : ℕ) → n < length flags → get_or flags n false ≡ true → numbers_there from (take (suc n) flags) ≡ numbers_there from (take n flags) ++ (from + n) ∷ []
there_more from [] n within set = absurd (omega arith)
there_more from (true ∷ flags) zero within set = let same : from ≡ from + 0 = omega arith in ap (λ (number : ℕ). number ∷ []) same
there_more from (false ∷ flags) zero within set = absurd (false≢true set)
there_more from (true ∷ flags) (suc n) within set =
    let same : suc from + n ≡ from + suc n = omega arith in
    ap (λ (numbers : List ℕ). from ∷ numbers) (there_more (suc from) flags n (omega arith) set ∙ ap (λ (number : ℕ). numbers_there (suc from) (take n flags) ++ number ∷ []) same)
there_more from (false ∷ flags) (suc n) within set =
    let same : suc from + n ≡ from + suc n = omega arith in
    there_more (suc from) flags n (omega arith) set ∙ ap (λ (number : ℕ). numbers_there (suc from) (take n flags) ++ number ∷ []) same

there_on : (from : ℕ) (flags : List Bool) (n : ℕ) → get_or flags n false ≡ false → numbers_there from (take (suc n) flags) ≡ numbers_there from (take n flags)
there_on from [] zero unset = refl
there_on from [] (suc n) unset = refl
there_on from (true ∷ flags) zero unset = absurd (false≢true (sym unset))
there_on from (false ∷ flags) zero unset = refl
there_on from (true ∷ flags) (suc n) unset = ap (λ (numbers : List ℕ). from ∷ numbers) (there_on (suc from) flags n unset)
there_on from (false ∷ flags) (suc n) unset = there_on (suc from) flags n unset

-- the entries of the numbers that are there below this one, each with its item
abbrev pub listed_below : ℕ → List ℕ → List Bool → List ℕ → ℕ → List (List ℕ × ℕ)
listed_below size keys flags items n = map (with_id items) (entries_of size keys (numbers_there 0 (take n flags)))

entries_push : (size : ℕ) (keys items numbers : List ℕ) (n : ℕ) → map (with_id items) (entries_of size keys (numbers ++ n ∷ [])) ≡ map (with_id items) (entries_of size keys numbers) ++ (key_of size keys n, get_or items n 0) ∷ []
entries_push size keys items [] n = refl
entries_push size keys items (m ∷ numbers) n = ap (λ (entries : List (List ℕ × ℕ)). (key_of size keys m, get_or items m 0) ∷ entries) (entries_push size keys items numbers n)

module _ (size : ℕ) (keys : List ℕ) (flags : List Bool) (items : List ℕ) (n : ℕ) where
  pub listed_more : n < length flags → get_or flags n false ≡ true → listed_below size keys flags items (n + 1) ≡ listed_below size keys flags items n ++ (key_of size keys n, get_or items n 0) ∷ []
  listed_more within set =
      let from_zero : 0 + n ≡ n = omega arith in
      let next : n + 1 ≡ suc n = omega arith in
      ap (λ (count : ℕ). listed_below size keys flags items count) next
      ∙ ap (λ (numbers : List ℕ). map (with_id items) (entries_of size keys numbers)) (there_more 0 flags n within set ∙ ap (λ (number : ℕ). numbers_there 0 (take n flags) ++ number ∷ []) from_zero)
      ∙ entries_push size keys items (numbers_there 0 (take n flags)) n

  pub listed_on : get_or flags n false ≡ false → listed_below size keys flags items (n + 1) ≡ listed_below size keys flags items n
  listed_on unset =
      let next : n + 1 ≡ suc n = omega arith in
      ap (λ (count : ℕ). listed_below size keys flags items count) next
      ∙ ap (λ (numbers : List ℕ). map (with_id items) (entries_of size keys numbers)) (there_on 0 flags n unset)

-- ---- all of them

other_keys : (size : ℕ) (keys items key : List ℕ) (from : ℕ) (flags : List Bool) → ((i n : ℕ) → n ≡ from + i → There flags i → bytes_eq key (key_of size keys n) ≡ false)
    → AllByRecursion (λ other. bytes_eq key other ≡ false) (keys_of (map (with_id items) (entries_of size keys (numbers_there from flags))))
other_keys size keys items key from [] apart = tt
other_keys size keys items key from (true ∷ flags) apart =
    (apart zero from (omega arith) refl, other_keys size keys items key (suc from) flags (λ i n is there. apart (suc i) n (omega (arith, is)) there))
other_keys size keys items key from (false ∷ flags) apart = other_keys size keys items key (suc from) flags (λ i n is there. apart (suc i) n (omega (arith, is)) there)

distinct_keys : (size : ℕ) (keys items : List ℕ) (from : ℕ) (flags : List Bool)
    → ((i j n m : ℕ) → n ≡ from + i → m ≡ from + j → There flags i → There flags j → key_of size keys n ≡ key_of size keys m → n ≡ m)
    → IsDistinct bytes_eq (keys_of (map (with_id items) (entries_of size keys (numbers_there from flags))))
distinct_keys size keys items from [] apart = none_distinct
distinct_keys size keys items from (true ∷ flags) apart =
    IsDistinct-cons bytes_eq (key_of size keys from) (keys_of (map (with_id items) (entries_of size keys (numbers_there (suc from) flags))))
    (other_keys size keys items (key_of size keys from) (suc from) flags (λ i n is there. elim (cases_Bool (bytes_eq (key_of size keys from) (key_of size keys n))) [
      | inl equal ↦ (let same : from ≡ n = apart zero (suc i) from n (omega arith) (omega (arith, is)) refl there ((bytes_eq-Decides (key_of size keys from) (key_of size keys n)).0 equal) in
          absurd (omega (arith, same, is)))
      | inr other ↦ other
    ]))
    (distinct_keys size keys items (suc from) flags (λ i j n m is also there too same. apart (suc i) (suc j) n m (omega (arith, is)) (omega (arith, also)) there too same))
distinct_keys size keys items from (false ∷ flags) apart =
    distinct_keys size keys items (suc from) flags (λ i j n m is also there too same. apart (suc i) (suc j) n m (omega (arith, is)) (omega (arith, also)) there too same)

module _ (size capacity : ℕ) (keys : List ℕ) (flags : List Bool) (items : List ℕ) where
  pub lists_flagged : ((n m : ℕ) → There flags n → There flags m → key_of size keys n ≡ key_of size keys m → n ≡ m) → ListsAll (item_of (key_map size capacity keys flags) items) (map (with_id items) (entries_of size keys (numbers_there 0 flags)))
  lists_flagged apart = record {
    apart = distinct_keys size keys items 0 flags (λ i j n m is also there too same.
        let first : n ≡ i = omega (arith, is) in
        let second : m ≡ j = omega (arith, also) in
        first ∙ apart i j there too (ap (key_of size keys) (sym first) ∙ same ∙ ap (key_of size keys) second) ∙ sym second);
    each = λ key. cell_by_entry items key (entries_of size keys (numbers_there 0 flags));
  }
