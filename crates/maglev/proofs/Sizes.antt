-- The four sizes are prime: trial division up to the root of each.
use Rattle.std.proofs.Common.{◌≡◌, ℕ, zero, suc, ◌+◌, ◌*◌, ◌/◌, ◌%◌, ◌<◌, ◌≤◌, Bool, true, ◌&&◌, ltb, length, get_or, ⊎_elim, refl, sym, ap, ◌∙◌, subst, arith}
use Rattle.std.proofs.lemmas.Nat.{div-add-mod', mul-le}
use Rattle.std.proofs.Math.Nat.{mul-mod_right}
use Rattle.std.proofs.lemmas.Bool.{cases_lt, cases_eq, and_parts, ltb-true}
use Rattle.maglev.specs.RingSize.{IsRingSize, ring_sizes}
use Rattle.maglev.proofs.Residues.{HasNoDivisor}

-- no number from 2 up to n + 1 divides p
abbrev passes : ℕ → ℕ → Bool
passes p zero = true
passes p (suc n) = ltb 0 (p % (n + 2)) && passes p n

passes_at : (p n d : ℕ) → passes p n ≡ true → 1 < d → d < n + 2 → 0 < p % d
passes_at p zero d all above below = absurd (omega arith)
passes_at p (suc n) d all above below =
    let parts = and_parts (ltb 0 (p % (n + 2))) (passes p n) all in
    ⊎_elim
    (λ here. let last : 0 < p % (n + 2) = ltb-true 0 (p % (n + 2)) parts.0 in subst (λ z. 0 < p % z) (sym here) last)
    (λ elsewhere. passes_at p n d parts.1 above (omega arith))
    (cases_eq d (n + 2))

-- the cofactor of a number below p is above 1
above_one : (p d e : ℕ) → p ≡ e * d → 1 < d → d < p → 1 < e
above_one p d zero product above below = absurd (omega arith)
above_one p d (suc zero) product above below = absurd (omega arith)
above_one p d (suc (suc e)) product above below = omega arith

-- a divisor above the root comes with one below it
prime_by_trial : (p n : ℕ) → passes p n ≡ true → p < (n + 2) * (n + 2) → HasNoDivisor p
prime_by_trial p n all root d above below divides =
    ⊎_elim
    (λ small. let left : 0 < p % d = passes_at p n d all above small in absurd (omega arith))
    (λ large.
    let whole : p / d * d + p % d ≡ p = div-add-mod' p d in
    let product : p ≡ p / d * d = omega arith in
    ⊎_elim
    (λ small.
    let cofactor_above : 1 < p / d = above_one p d (p / d) product above below in
    let left : 0 < p % (p / d) = passes_at p n (p / d) all cofactor_above small in
    let none : p % (p / d) ≡ 0 = ap (λ z. z % (p / d)) product ∙ mul-mod_right (p / d) d in
    absurd (omega arith))
    (λ large_too. let too_large : (n + 2) * (n + 2) ≤ p / d * d = mul-le (n + 2) (n + 2) (p / d) d large_too large in absurd (omega arith))
    (cases_lt (p / d) (n + 2)))
    (cases_lt d (n + 2))

prime_7 : HasNoDivisor 7
prime_7 = prime_by_trial 7 1 refl (omega arith)

prime_251 : HasNoDivisor 251
prime_251 = prime_by_trial 251 14 refl (omega arith)

prime_4093 : HasNoDivisor 4093
prime_4093 = prime_by_trial 4093 62 refl (omega arith)

prime_65537 : HasNoDivisor 65537
prime_65537 = prime_by_trial 65537 255 refl (omega arith)

at_place : (size k : ℕ) → k < length ring_sizes → get_or ring_sizes k size ≡ size → HasNoDivisor size
at_place size zero below is = subst HasNoDivisor is prime_7
at_place size (suc zero) below is = subst HasNoDivisor is prime_251
at_place size (suc (suc zero)) below is = subst HasNoDivisor is prime_4093
at_place size (suc (suc (suc zero))) below is = subst HasNoDivisor is prime_65537
at_place size (suc (suc (suc (suc k)))) below is = absurd (omega arith)

pub prime_size : (size : ℕ) → IsRingSize size → HasNoDivisor size
prime_size size served = at_place size served.0 served.1 served.2

bounds_at : (size k : ℕ) → k < length ring_sizes → get_or ring_sizes k size ≡ size → (6 < size) × (size < 65538)
bounds_at size zero below is = (omega arith, omega arith)
bounds_at size (suc zero) below is = (omega arith, omega arith)
bounds_at size (suc (suc zero)) below is = (omega arith, omega arith)
bounds_at size (suc (suc (suc zero))) below is = (omega arith, omega arith)
bounds_at size (suc (suc (suc (suc k)))) below is = absurd (omega arith)

-- a size is between 7 and 65537
pub size_bounds : (size : ℕ) → IsRingSize size → (6 < size) × (size < 65538)
size_bounds size served = bounds_at size served.0 served.1 served.2
