-- What a place, or a gap, says of a look-up.
use Rattle.std.proofs.Common.{◌≡◌, ℕ, zero, suc, ◌*◌, ◌<◌, false, List, [], ◌∷◌, length, get_or, Some, None, sym, ap, refl, inl, inr, arith, bytes_eq, ◌∙◌}
use Rattle.std.specs.Ordering.{nat_cmp, is_eq}
use Rattle.std.specs.Cmp.Lexicographic.{slice_cmp}
use Rattle.std.specs.Map.{lookup}
use Rattle.std.proofs.lemmas.Cmp.{nat_list_eq_equiv}
use Rattle.std.proofs.lemmas.Map.Text.{is_eq-slice_cmp}
use Rattle.std.proofs.lemmas.Bool.{cases_lt}
use Rattle.std.specs.List.Sorted.{IsStrictlySortedBy}
use Rattle.plain_maps.specs.Keyed.{key_of, entries_of, IsOrder, IsAt, IsGapFor, Below}
use Rattle.plain_maps.proofs.Narrowing.{rises}

pub apart_below : (x y : List ℕ) → Below x y → bytes_eq x y ≡ false
apart_below x y less = sym (is_eq-slice_cmp x y) ∙ ap is_eq less

pub apart_above : (x y : List ℕ) → Below y x → bytes_eq x y ≡ false
apart_above x y less = nat_list_eq_equiv.symm x y ∙ apart_below y x less

pub lookup_absent : (size : ℕ) (keys order key : List ℕ) → ((j : ℕ) → j < length order → bytes_eq key (key_of size keys (get_or order j 0)) ≡ false) → lookup (bytes_eq key) (entries_of size keys order) ≡ None
lookup_absent size keys [] key apart = refl
lookup_absent size keys (n ∷ order) key apart = rw (apart 0 (omega arith)) (lookup_absent size keys order key (λ j lt. apart (suc j) (omega arith)))

pub lookup_present : (size : ℕ) (keys order key : List ℕ) (i : ℕ) → i < length order → key_of size keys (get_or order i 0) ≡ key → ((j : ℕ) → j < i → bytes_eq key (key_of size keys (get_or order j 0)) ≡ false) → lookup (bytes_eq key) (entries_of size keys order) ≡ Some (get_or order i 0)
lookup_present size keys [] key i lt same apart = absurd (omega arith)
lookup_present size keys (n ∷ order) key zero lt same apart = rw (same, nat_list_eq_equiv.refl key)
lookup_present size keys (n ∷ order) key (suc i) lt same apart = rw (apart 0 (omega arith)) (lookup_present size keys order key i (omega arith) same (λ j lt. apart (suc j) (omega arith)))

module _ (size capacity : ℕ) (keys order : List ℕ) (ok : IsOrder size capacity keys order) (key : List ℕ) (i : ℕ) where
  pub found_at : IsAt size keys order key i → lookup (bytes_eq key) (entries_of size keys order) ≡ Some (get_or order i 0)
  found_at is_at = lookup_present size keys order key i is_at.in_range is_at.has_key (λ j lt. apart_above key (key_of size keys (get_or order j 0)) (rw is_at.has_key at (rises size capacity keys order ok j i lt is_at.in_range)))

pub absent_in_gap : (size : ℕ) (keys order key : List ℕ) (i : ℕ) → IsGapFor size keys order key i → lookup (bytes_eq key) (entries_of size keys order) ≡ None
absent_in_gap size keys order key i gap = lookup_absent size keys order key (λ j lt. elim (cases_lt j i) [
  | inl lower ↦ apart_above key (key_of size keys (get_or order j 0)) (gap.before j lower)
  | inr at_least ↦ apart_below key (key_of size keys (get_or order j 0)) (gap.after j at_least lt)
])

sorted_nil : IsStrictlySortedBy (slice_cmp nat_cmp) []
unfolding IsStrictlySortedBy
sorted_nil = tt

-- an index of no keys
pub empty_order : (size capacity : ℕ) (keys order : List ℕ) → length keys ≡ capacity * size → order ≡ [] → IsOrder size capacity keys order
empty_order size capacity keys order long none = rw none (record {
  room_of_keys = long;
  in_range = λ i lt. absurd (omega arith);
  sorted = sorted_nil;
})
