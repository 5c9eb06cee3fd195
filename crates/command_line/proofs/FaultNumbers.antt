-- Only numbers below 96 are those of faults.
use Rattle.std.proofs.Common.{arith, ◌≡◌, ◌<◌, ◌≤◌, ◌==◌, ◌&&◌, ◌||◌, ℕ, Bool, true, false, refl, nat_le}
use Rattle.std.proofs.lemmas.Bool.{leb-true, eqb-true}
use Rattle.faults.specs.Explanations.{is_fault}

-- one of two tests is met, and each has the same consequence
either_tells : (A : Type 0) (a b : Bool) → (a ≡ true → A) → (b ≡ true → A) → (a || b) ≡ true → A
either_tells A true b first second is = first refl
either_tells A false b first second is = second is

second_of : (a b : Bool) → (a && b) ≡ true → b ≡ true
second_of true b is = is
second_of false b is = absurd cc

within : (least most number : ℕ) → most < 96 → (nat_le least number && nat_le number most) ≡ true → number < 96
within least most number small is =
    let under : number ≤ most = leb-true number most (second_of (nat_le least number) (nat_le number most) is) in
    omega (arith, under, small)

exactly : (known number : ℕ) → known < 96 → (number == known) ≡ true → number < 96
exactly known number small is =
    let same : number ≡ known = eqb-true number known is in
    omega (arith, same, small)

pub below_96 : (number : ℕ) → is_fault number ≡ true → number < 96
below_96 number is =
    either_tells (number < 96) _ _
    (either_tells (number < 96) _ _
    (either_tells (number < 96) _ _
    (either_tells (number < 96) _ _
    (either_tells (number < 96) _ _
    (within 1 23 number (omega arith))
    (within 30 56 number (omega arith)))
    (exactly 60 number (omega arith)))
    (within 70 74 number (omega arith)))
    (within 80 83 number (omega arith)))
    (within 90 95 number (omega arith)) is
