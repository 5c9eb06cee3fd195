-- Lists of a known length, item by item.
use Rattle.std.proofs.Common.{◌≡◌, ℕ, suc, zero, ◌<◌, List, [], ◌∷◌, ◌++◌, length, get_or, refl, ap, arith}
use Rattle.std.specs.Prelude.{Some, slice_get, unwrap_or}
use Rattle.maglev.specs.RingSize.{ring_sizes}

-- an address, two MACs, a state and four zeros
pub four_parts : (a m n s : List ℕ) → length a ≡ 4 → length m ≡ 6 → length n ≡ 6 → length s ≡ 4 →
    get_or a 0 0 ∷ get_or a 1 0 ∷ get_or a 2 0 ∷ get_or a 3 0
    ∷ get_or m 0 0 ∷ get_or m 1 0 ∷ get_or m 2 0 ∷ get_or m 3 0 ∷ get_or m 4 0 ∷ get_or m 5 0
    ∷ get_or n 0 0 ∷ get_or n 1 0 ∷ get_or n 2 0 ∷ get_or n 3 0 ∷ get_or n 4 0 ∷ get_or n 5 0
    ∷ get_or s 0 0 ∷ get_or s 1 0 ∷ get_or s 2 0 ∷ get_or s 3 0 ∷ 0 ∷ 0 ∷ 0 ∷ 0 ∷ []
    ≡ a ++ m ++ n ++ s ++ 0 ∷ 0 ∷ 0 ∷ 0 ∷ []
four_parts (a0 ∷ a1 ∷ a2 ∷ a3 ∷ []) (m0 ∷ m1 ∷ m2 ∷ m3 ∷ m4 ∷ m5 ∷ []) (n0 ∷ n1 ∷ n2 ∷ n3 ∷ n4 ∷ n5 ∷ []) (s0 ∷ s1 ∷ s2 ∷ s3 ∷ []) four six six' four' = refl
four_parts _ _ _ _ four six six' four' = absurd (omega arith)

-- each of the sizes is one
pub at_ring_size : (at other : ℕ) → at < 4 → get_or ring_sizes at other ≡ get_or ring_sizes at 0
at_ring_size zero other few = refl
at_ring_size (suc zero) other few = refl
at_ring_size (suc (suc zero)) other few = refl
at_ring_size (suc (suc (suc zero))) other few = refl
at_ring_size (suc (suc (suc (suc at)))) other few = absurd (omega arith)

-- lists with the same items at all places are one
pub same_by_places : {X : Type 0} (xs ys : List X) → length xs ≡ length ys → ((n : ℕ) → n < length ys → slice_get xs n ≡ slice_get ys n) → xs ≡ ys
same_by_places [] [] as_long same = refl
same_by_places [] (y ∷ ys) as_long same = absurd (omega arith)
same_by_places (x ∷ xs) [] as_long same = absurd (omega arith)
same_by_places {X} (x ∷ xs) (y ∷ ys) as_long same =
    let here : x ≡ y = first_is (same 0 (omega arith)) in
    let rest : xs ≡ ys = same_by_places xs ys (omega arith) (λ n within. same (suc n) (omega arith)) in
    (λ i. here i ∷ rest i)
  where
    first_is : Some x ≡ Some y → x ≡ y
    first_is equal = ap (λ found. unwrap_or found x) equal
