-- Tests of what is told of flows are tests of the flows.
use Rattle.std.proofs.Common.{◌≡◌, ◌∙◌, ℕ, zero, suc, ◌+◌, ◌++◌, Bool, true, false, not, cond, List, [], ◌∷◌, refl, ap, sym, arith, drop, length, map, take, unwrap_or}
use Rattle.std.proofs.lemmas.List.{map-append}
use Rattle.std.proofs.lemmas.List.Sums.{prefix_len-le-length}
use Rattle.std.proofs.lemmas.Bool.Decides.{nat_tests}
use Rattle.std.specs.Prelude.{nat_lt}
use Rattle.std.specs.List.{insert, position, position_or_len, take-map}

module _ {X Y : Type 0} (f : X → Y) where
  -- the same is the first that passes
  pub first_of_map : (p : Y → Bool) (xs : List X) → position_or_len p (map f xs) ≡ position_or_len (λ x. p (f x)) xs
  first_of_map p [] = refl
  first_of_map p (x ∷ xs) = ap (λ (n : ℕ). cond (not (p (f x))) (1 + n) 0) (first_of_map p xs)

  drop_of_map : (n : ℕ) (xs : List X) → drop n (map f xs) ≡ map f (drop n xs)
  drop_of_map zero xs = refl
  drop_of_map (suc n) [] = refl
  drop_of_map (suc n) (x ∷ xs) = drop_of_map n xs

  -- an element that is put into the list
  pub insert_of_map : (xs : List X) (i : ℕ) (x : X) → map f (insert xs i x) ≡ insert (map f xs) i (f x)
  insert_of_map xs i x =
      map-append f (take i xs) (x ∷ drop i xs)
      ∙ (ap (λ (front : List Y). front ++ f x ∷ map f (drop i xs)) (sym (take-map f i xs))
      ∙ ap (λ (back : List Y). take i (map f xs) ++ f x ∷ back) (sym (drop_of_map i xs)))

-- the first place that passes, or the end
pub first_or_end : {X : Type 0} (p : X → Bool) (xs : List X) → unwrap_or (position p xs) (length xs) ≡ position_or_len p xs
first_or_end p xs = by_test (nat_lt (position_or_len p xs) (length xs)) refl where
  by_test : (test : Bool) → nat_lt (position_or_len p xs) (length xs) ≡ test → unwrap_or (position p xs) (length xs) ≡ position_or_len p xs
  by_test true inside = rw inside refl
  by_test false past =
      let most = prefix_len-le-length (λ x. not (p x)) xs in
      let at_end : length xs ≡ position_or_len p xs = grind (arith, nat_tests) in
      rw past at_end
