-- A list of a fixed number of items is its items.
use Rattle.std.proofs.Common.{◌≡◌, ℕ, List, [], ◌∷◌, ◌++◌, length, get_or, refl, arith}

-- two lists of four items, one after the other, and then more lists
pub eight_items : (xs ys front middle back : List ℕ) → length xs ≡ 4 → length ys ≡ 4 → get_or xs 0 0 ∷ get_or xs 1 0 ∷ get_or xs 2 0 ∷ get_or xs 3 0 ∷ get_or ys 0 0 ∷ get_or ys 1 0 ∷ get_or ys 2 0 ∷ get_or ys 3 0 ∷ (front ++ middle ++ back) ≡ xs ++ ys ++ front ++ middle ++ back
eight_items (x0 ∷ x1 ∷ x2 ∷ x3 ∷ []) (y0 ∷ y1 ∷ y2 ∷ y3 ∷ []) front middle back four four' = refl
eight_items _ _ front middle back four four' = absurd (omega arith)

-- two lists of six items, and what follows
pub twelve_items : (xs ys rest : List ℕ) → length xs ≡ 6 → length ys ≡ 6 → get_or xs 0 0 ∷ get_or xs 1 0 ∷ get_or xs 2 0 ∷ get_or xs 3 0 ∷ get_or xs 4 0 ∷ get_or xs 5 0 ∷ get_or ys 0 0 ∷ get_or ys 1 0 ∷ get_or ys 2 0 ∷ get_or ys 3 0 ∷ get_or ys 4 0 ∷ get_or ys 5 0 ∷ rest ≡ xs ++ ys ++ rest
twelve_items (x0 ∷ x1 ∷ x2 ∷ x3 ∷ x4 ∷ x5 ∷ []) (y0 ∷ y1 ∷ y2 ∷ y3 ∷ y4 ∷ y5 ∷ []) rest six six' = refl
twelve_items _ _ rest six six' = absurd (omega arith)
