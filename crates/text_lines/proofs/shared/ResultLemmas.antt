-- A result is one thing.
use Rattle.std.proofs.Common.{◌≡◌, Result, Ok, Err, sym, ◌∙◌}

pub ok_same : {A E : Type 0} (r : Result A E) (v w : A) → r ≡ Ok v → r ≡ Ok w → v ≡ w
ok_same r v w a b = let e : Ok v ≡ Ok w = sym a ∙ b in cc

pub ok_not_err : {A E : Type 0} (r : Result A E) (e : E) (w : A) → r ≡ Err e → r ≡ Ok w → ⊥
ok_not_err r e w a b = let f : Err e ≡ Ok w = sym a ∙ b in cc
