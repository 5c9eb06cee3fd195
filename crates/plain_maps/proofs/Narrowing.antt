-- The halves that a search leaves out.
use Rattle.std.proofs.Common.{◌≡◌, ℕ, ◌+◌, ◌<◌, ◌≤◌, List, [], length, get_or, sym, ap, ◌∙◌, inl, inr, arith}
use Rattle.std.specs.Ordering.{nat_cmp, is_eq}
use Rattle.std.specs.declared.cmp.Ordering.TheVariants.{Less, Equal, Greater}
use Rattle.std.specs.Cmp.Lexicographic.{slice_cmp}
use Rattle.std.proofs.lemmas.Cmp.{nat_list_cmp_total}
use Rattle.std.proofs.lemmas.Map.Keys.{Less-from_sorted}
use Rattle.std.proofs.lemmas.List.{get_or-map, length-map}
use Rattle.std.proofs.lemmas.Bool.{cases_lt}
use Rattle.std.proofs.lemmas.Slice.Eq.{bytes_eq-Decides}
use Rattle.std.proofs.lemmas.Map.Text.{is_eq-slice_cmp}
use Rattle.plain_maps.specs.Keyed.{key_of, keys_in_order, IsOrder, Below}

-- what a search knows: smaller keys below low, greater ones from high on
pub record Narrowed (size : ℕ) (keys order key : List ℕ) (low high : ℕ) : Type 0 where
  pub ordered : low ≤ high
  pub in_range : high ≤ length order
  pub before : (j : ℕ) → j < low → Below (key_of size keys (get_or order j 0)) key
  pub after : (j : ℕ) → high ≤ j → j < length order → Below key (key_of size keys (get_or order j 0))

module _ (size capacity : ℕ) (keys order : List ℕ) (ok : IsOrder size capacity keys order) where
  pub rises : (i j : ℕ) → i < j → j < length order → Below (key_of size keys (get_or order i 0)) (key_of size keys (get_or order j 0))
  rises i j lt in_range =
      let long : j < length (keys_in_order size keys order) = omega (arith, length-map order (key_of size keys)) in
      let less = Less-from_sorted (slice_cmp nat_cmp) (keys_in_order size keys order) i j [] ok.sorted lt long in
      let first : get_or (keys_in_order size keys order) i [] ≡ key_of size keys (get_or order i 0) = get_or-map (key_of size keys) order i 0 [] (omega arith) in
      let second : get_or (keys_in_order size keys order) j [] ≡ key_of size keys (get_or order j 0) = get_or-map (key_of size keys) order j 0 [] in_range in
      rw (first, second) at less

  module _ (key : List ℕ) (low high middle : ℕ) (narrowed : Narrowed size keys order key low high) (at_least : low ≤ middle) (below : middle < high) where
    pub go_up : slice_cmp nat_cmp (key_of size keys (get_or order middle 0)) key ≡ Less → Narrowed size keys order key (middle + 1) high
    go_up less = record {
      ordered = omega arith;
      in_range = narrowed.in_range;
      before = λ j lt. elim (cases_lt j middle) [
        | inl lower ↦ nat_list_cmp_total.trans (key_of size keys (get_or order j 0)) (key_of size keys (get_or order middle 0)) key (rises j middle lower (omega (arith, narrowed.in_range))) less
        | inr same ↦ (let here : j ≡ middle = omega arith in rw here less)
      ];
      after = narrowed.after;
    }

    pub go_down : slice_cmp nat_cmp (key_of size keys (get_or order middle 0)) key ≡ Greater → Narrowed size keys order key low middle
    go_down greater =
        let other : Below key (key_of size keys (get_or order middle 0)) = rw (nat_list_cmp_total.antisymm key (key_of size keys (get_or order middle 0)), greater) in
        record {
          ordered = at_least;
          in_range = omega (arith, narrowed.in_range);
          before = narrowed.before;
          after = λ j le lt. elim (cases_lt middle j) [
            | inl higher ↦ nat_list_cmp_total.trans key (key_of size keys (get_or order middle 0)) (key_of size keys (get_or order j 0)) other (rises middle j higher lt)
            | inr same ↦ (let here : j ≡ middle = omega arith in rw here other)
          ];
        }

pub same_keys : (x y : List ℕ) → slice_cmp nat_cmp x y ≡ Equal → x ≡ y
same_keys x y equal = (bytes_eq-Decides x y).0 (sym (is_eq-slice_cmp x y) ∙ ap is_eq equal)
