-- The eleven registers, one by one.
use Rattle.std.proofs.Common.{◌≡◌, List, [], ◌∷◌, length, drop, ◌∙◌, ap, arith}
use Rattle.std.specs.Prelude.{slice_index_or}
use Rattle.std.proofs.Math.Seq.{drop-cons}
use Rattle.std.proofs.Math.ListN.{drop_of_length-le}

-- the registers that a call keeps
pub last_five : {A : Type 0} → (xs : List A) (d : A) → length xs ≡ 11 →
    drop 6 xs ≡ slice_index_or xs 6 d ∷ slice_index_or xs 7 d ∷ slice_index_or xs 8 d ∷ slice_index_or xs 9 d ∷ slice_index_or xs 10 d ∷ []
last_five xs d e =
    drop-cons xs 6 d (omega (arith, e))
    ∙ ap (λ ys. slice_index_or xs 6 d ∷ ys) (drop-cons xs 7 d (omega (arith, e))
    ∙ ap (λ ys. slice_index_or xs 7 d ∷ ys) (drop-cons xs 8 d (omega (arith, e))
    ∙ ap (λ ys. slice_index_or xs 8 d ∷ ys) (drop-cons xs 9 d (omega (arith, e))
    ∙ ap (λ ys. slice_index_or xs 9 d ∷ ys) (drop-cons xs 10 d (omega (arith, e))
    ∙ ap (λ ys. slice_index_or xs 10 d ∷ ys) (drop_of_length-le xs {i = 11} (omega (arith, e)))))))
