-- What an insertion at a gap, and a removal, leave.
use Rattle.std.proofs.Common.{◌≡◌, ◌≢◌, ℕ, suc, ◌+◌, ◌-◌, ◌<◌, ◌≤◌, List, [], ◌∷◌, length, map, take, drop, get_or, sym, ap, ◌∙◌, refl, inl, inr, arith}
use Rattle.std.specs.List.{insert, remove}
use Rattle.std.specs.List.Sorted.{IsStrictlySortedBy}
use Rattle.std.specs.Ordering.{nat_cmp}
use Rattle.std.specs.Cmp.Lexicographic.{slice_cmp}
use Rattle.std.proofs.lemmas.Bool.{cases_lt, false≢true}
use Rattle.std.proofs.lemmas.Cmp.{nat_list_cmp_total, nat_list_eq_equiv}
use Rattle.std.proofs.lemmas.Map.Keys.{Less-from_sorted, sorted_from_all_adjacent}
use Rattle.std.proofs.lemmas.List.{map-append, take-map, drop-map, length-map, get_or-map}
use Rattle.std.proofs.lemmas.List.Edits.{length-insert, length-remove, get_or-insert_below, get_or-insert_at, get_or-insert_above, get_or-remove_below, get_or-remove_above}
use Rattle.plain_maps.specs.Keyed.{key_of, keys_in_order, IsOrder, IsAt, IsGapFor, Below}
use Rattle.plain_maps.proofs.Narrowing.{rises}
use Rattle.plain_maps.proofs.Lookups.{apart_above}

-- ---- lists of keys in order

module _ (ks : List (List ℕ)) (at : ℕ) (key : List ℕ) (within : at ≤ length ks) where
  inserted_above : (k m : ℕ) → k ≡ m + 1 → at ≤ m → get_or (insert ks at key) k [] ≡ get_or ks m []
  inserted_above k m e le = rw e (get_or-insert_above ks at key [] m le within)

  pub sorted_insert : IsStrictlySortedBy (slice_cmp nat_cmp) ks → ((j : ℕ) → j < at → Below (get_or ks j []) key) → ((j : ℕ) → at ≤ j → j < length ks → Below key (get_or ks j [])) → IsStrictlySortedBy (slice_cmp nat_cmp) (insert ks at key)
  sorted_insert sorted before after = sorted_from_all_adjacent nat_list_cmp_total (insert ks at key) [] (λ j lt.
      let long : length (insert ks at key) ≡ length ks + 1 = length-insert ks at key within in
      elim (cases_lt (j + 1) at) [
        | inl lower ↦ rw (get_or-insert_below ks at key [] j (omega arith) within, get_or-insert_below ks at key [] (j + 1) lower within) (Less-from_sorted (slice_cmp nat_cmp) ks j (j + 1) [] sorted (omega arith) (omega arith))
        | inr past ↦ elim (cases_lt j at) [
          | inl last ↦ (let e : j + 1 ≡ at = omega arith in rw (get_or-insert_below ks at key [] j last within, e, get_or-insert_at ks at key [] within) (before j last))
          | inr at_least ↦ elim (cases_lt at j) [
            | inl higher ↦ rw (inserted_above j (j - 1) (omega arith) (omega arith), inserted_above (j + 1) j refl at_least) (Less-from_sorted (slice_cmp nat_cmp) ks (j - 1) j [] sorted (omega arith) (omega arith))
            | inr same ↦ (let e : j ≡ at = omega arith in rw (inserted_above (j + 1) j refl at_least, e, get_or-insert_at ks at key [] within) (after at (omega arith) (omega arith)))
          ]
        ]
      ])

module _ (ks : List (List ℕ)) (at : ℕ) (within : at < length ks) where
  pub sorted_remove : IsStrictlySortedBy (slice_cmp nat_cmp) ks → IsStrictlySortedBy (slice_cmp nat_cmp) (remove ks at)
  sorted_remove sorted = sorted_from_all_adjacent nat_list_cmp_total (remove ks at) [] (λ j lt.
      let long : length (remove ks at) + 1 ≡ length ks = length-remove ks at within in
      elim (cases_lt (j + 1) at) [
        | inl lower ↦ rw (get_or-remove_below ks at [] j (omega arith) within, get_or-remove_below ks at [] (j + 1) lower within) (Less-from_sorted (slice_cmp nat_cmp) ks j (j + 1) [] sorted (omega arith) (omega arith))
        | inr past ↦ elim (cases_lt j at) [
          | inl last ↦ rw (get_or-remove_below ks at [] j last within, get_or-remove_above ks at [] (j + 1) past within) (Less-from_sorted (slice_cmp nat_cmp) ks j (j + 1 + 1) [] sorted (omega arith) (omega arith))
          | inr at_least ↦ rw (get_or-remove_above ks at [] j at_least within, get_or-remove_above ks at [] (j + 1) past within) (Less-from_sorted (slice_cmp nat_cmp) ks (j + 1) (j + 1 + 1) [] sorted (omega arith) (omega arith))
        ]
      ])

-- ---- a map over a list that is edited

pub map-insert : {X Y : Type 0} (f : X → Y) (xs : List X) (i : ℕ) (x : X) → map f (insert xs i x) ≡ insert (map f xs) i (f x)
map-insert f xs i x = map-append f (take i xs) (x ∷ drop i xs) ∙ (rw (take-map f i xs, drop-map f i xs))

pub map-remove : {X Y : Type 0} (f : X → Y) (xs : List X) (i : ℕ) → map f (remove xs i) ≡ remove (map f xs) i
map-remove f xs i = map-append f (take i xs) (drop (suc i) xs) ∙ (rw (take-map f i xs, drop-map f (suc i) xs))

pub map_agree : {Y : Type 0} (f g : ℕ → Y) (xs : List ℕ) → ((i : ℕ) → i < length xs → f (get_or xs i 0) ≡ g (get_or xs i 0)) → map f xs ≡ map g xs
map_agree f g [] same = refl
map_agree f g (x ∷ xs) same = rw (same 0 (omega arith)) (ap (λ rest. g x ∷ rest) (map_agree f g xs (λ i lt. same (suc i) (omega arith))))

-- ---- the whole insertion

module _ (size capacity : ℕ) (keys order key : List ℕ) (ok : IsOrder size capacity keys order) (at n : ℕ) (gap : IsGapFor size keys order key at) (small : n < capacity) (number_apart : (i : ℕ) → i < length order → get_or order i 0 ≢ n) (written : List ℕ) (same_length : length written ≡ length keys) (here : key_of size written n ≡ key) (elsewhere : (m : ℕ) → m ≢ n → key_of size written m ≡ key_of size keys m) where
  keys_after : keys_in_order size written (insert order at n) ≡ insert (keys_in_order size keys order) at key
  keys_after =
      let kept : keys_in_order size written order ≡ keys_in_order size keys order = map_agree (key_of size written) (key_of size keys) order (λ i lt. elsewhere (get_or order i 0) (number_apart i lt)) in
      map-insert (key_of size written) order at n ∙ rw (kept, here)

  pub order_after : IsOrder size capacity written (insert order at n)
  order_after = record {
    room_of_keys = same_length ∙ ok.room_of_keys;
    in_range = λ i lt.
        let long : length (insert order at n) ≡ length order + 1 = length-insert order at n gap.in_range in
        elim (cases_lt i at) [
          | inl lower ↦ rw (get_or-insert_below order at n 0 i lower gap.in_range) (ok.in_range i (omega (arith, gap.in_range)))
          | inr at_least ↦ elim (cases_lt at i) [
            | inl higher ↦ (let e : i ≡ i - 1 + 1 = omega arith in rw (e, get_or-insert_above order at n 0 (i - 1) (omega arith) gap.in_range) (ok.in_range (i - 1) (omega arith)))
            | inr same ↦ (let e : i ≡ at = omega arith in rw (e, get_or-insert_at order at n 0 gap.in_range) small)
          ]
        ];
    sorted = rw keys_after (
        let long : length (keys_in_order size keys order) ≡ length order = length-map order (key_of size keys) in
        sorted_insert (keys_in_order size keys order) at key (omega (arith, gap.in_range)) ok.sorted
        (λ j lt. rw (get_or-map (key_of size keys) order j 0 [] (omega (arith, gap.in_range))) (gap.before j lt))
        (λ j le lt. rw (get_or-map (key_of size keys) order j 0 [] (omega arith)) (gap.after j le (omega arith))));
  }

-- ---- the whole removal

module _ (size capacity : ℕ) (keys order key : List ℕ) (ok : IsOrder size capacity keys order) (at : ℕ) (is_at : IsAt size keys order key at) where
  pub order_less : IsOrder size capacity keys (remove order at)
  order_less = record {
    room_of_keys = ok.room_of_keys;
    in_range = λ i lt.
        let long : length (remove order at) + 1 ≡ length order = length-remove order at is_at.in_range in
        elim (cases_lt i at) [
          | inl lower ↦ rw (get_or-remove_below order at 0 i lower is_at.in_range) (ok.in_range i (omega arith))
          | inr at_least ↦ rw (get_or-remove_above order at 0 i at_least is_at.in_range) (ok.in_range (i + 1) (omega arith))
        ];
    sorted = rw (map-remove (key_of size keys) order at) (
        let long : length (keys_in_order size keys order) ≡ length order = length-map order (key_of size keys) in
        sorted_remove (keys_in_order size keys order) at (omega (arith, is_at.in_range)) ok.sorted);
  }

  pub other_number : (i : ℕ) → i < length order → i ≢ at → get_or order i 0 ≢ get_or order at 0
  other_number i lt apart same = elim (cases_lt i at) [
    | inl lower ↦ false≢true (sym (apart_above (key_of size keys (get_or order at 0)) (key_of size keys (get_or order i 0)) (rises size capacity keys order ok i at lower is_at.in_range)) ∙ rw same (nat_list_eq_equiv.refl (key_of size keys (get_or order at 0))))
    | inr at_least ↦ false≢true (sym (apart_above (key_of size keys (get_or order i 0)) (key_of size keys (get_or order at 0)) (rises size capacity keys order ok at i (omega arith) lt)) ∙ rw same (nat_list_eq_equiv.refl (key_of size keys (get_or order at 0))))
  ]

-- the keys of other numbers may change
pub order_kept : (size capacity : ℕ) (keys order written : List ℕ) → IsOrder size capacity keys order → length written ≡ length keys → ((i : ℕ) → i < length order → key_of size written (get_or order i 0) ≡ key_of size keys (get_or order i 0)) → IsOrder size capacity written order
order_kept size capacity keys order written ok same_length same = record {
  room_of_keys = same_length ∙ ok.room_of_keys;
  in_range = ok.in_range;
  sorted = rw (map_agree (key_of size written) (key_of size keys) order same) ok.sorted;
}
