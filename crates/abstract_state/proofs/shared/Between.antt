-- An offset between two others, moved as they are, lies between what they become.
use Rattle.std.proofs.Common.{◌≡◌, ℕ, ◌+◌, ◌-◌, ◌≤◌, ℤ, pos, sym, ◌∙◌, ap, arith}
use Rattle.std.specs.Prelude.{◌+ℤ◌}
use Rattle.std.proofs.Math.IntN.{+ℤ_assoc}

past : (more low first : ℕ) (d : ℤ) → pos low +ℤ d ≡ pos first → pos (more + low) +ℤ d ≡ pos (more + first)
past more low first d is = +ℤ_assoc (pos more) (pos low) d ∙ ap (λ z. pos more +ℤ z) is

pub record IsBetween (at : ℕ) (d : ℤ) (first last : ℕ) : Type 0 where
  pub place : ℕ
  pub is : pos at +ℤ d ≡ pos place
  pub least : first ≤ place
  pub most : place ≤ last

pub between : (low high at first last : ℕ) (d : ℤ) → low ≤ at → at ≤ high → pos low +ℤ d ≡ pos first → pos high +ℤ d ≡ pos last → IsBetween at d first last
between low high at first last d p q e f =
    let here : at ≡ (at - low) + low = omega arith
    in let end : high ≡ (high - low) + low = omega arith
    in let moved : pos at +ℤ d ≡ pos ((at - low) + first) = ap (λ n. pos n +ℤ d) here ∙ past (at - low) low first d e
    in let ended : pos last ≡ pos ((high - low) + first) = sym f ∙ (ap (λ n. pos n +ℤ d) end ∙ past (high - low) low first d e)
    in let same : last ≡ (high - low) + first = cc
    in record { place = (at - low) + first; is = moved; least = omega arith; most = omega arith }
