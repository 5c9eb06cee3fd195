-- Residues modulo a number p that no smaller number but 1 divides: each skip has an inverse, so its multiples are all
-- the residues, each once.
use Rattle.std.proofs.Common.{◌≡◌, ◌≢◌, ℕ, zero, suc, ◌+◌, ◌-◌, ◌*◌, ◌/◌, ◌%◌, ◌<◌, ◌≤◌, ⊎_elim, sym, ap, ◌∙◌, arith}
use Rattle.std.proofs.Math.Nat.{add-mul-mod_self_right, mod-eq_of_lt, mod-lt, add-mod-mod, mul-add-mod_self_right, add-mod_right}
use Rattle.std.proofs.lemmas.Nat.{mul-mod_first, mul-mod_second, div-add-mod'}
use Rattle.std.proofs.lemmas.Bool.{cases_eq}

-- no number above 1 and below p divides it
abbrev pub HasNoDivisor : ℕ → Type 0
HasNoDivisor p = (d : ℕ) → 1 < d → d < p → p % d ≢ 0

-- t times s leaves the residue 1
pub record IsInverse (p s t : ℕ) : Type 0 where
  pub is_one : (t * s) % p ≡ 1

-- x times p - 1 leaves 1 where x leaves p - 1
minus_squared : (p n x t u : ℕ) → 1 < p → p ≡ n + 1 → x + 1 + u * p ≡ t * p → (x * n) % p ≡ 1
minus_squared p n x t u big next e =
    let split : x * p ≡ x * (n + 1) = ap (λ z. x * z) next in
    let sums : x * n + t * p ≡ (x + u) * p + 1 = omega (arith, split) in
    sym (add-mul-mod_self_right (x * n) t p) ∙ ap (λ z. z % p) sums ∙ mul-add-mod_self_right (x + u) p 1 ∙ mod-eq_of_lt big

-- an inverse of s from one of the remainder r of p by s
step : (p n s q r t : ℕ) → 1 < p → p ≡ n + 1 → q * s + r ≡ p → IsInverse p r t → IsInverse p s (t * q * n)
step p n s q r t big next e i =
    let whole : t * r / p * p + t * r % p ≡ t * r = div-add-mod' (t * r) p in
    let times : t * (q * s + r) ≡ t * p = ap (λ z. t * z) e in
    let one : t * r % p ≡ 1 = i.is_one in
    let sums : t * q * s + 1 + t * r / p * p ≡ t * p = omega (arith, whole, times, one) in
    let turned : t * q * n * s ≡ t * q * s * n = omega arith in
    record { is_one = ap (λ z. z % p) turned ∙ minus_squared p n (t * q * s) t (t * r / p) big next sums }

-- each number above 0 and below p has an inverse, found as in Euclid's algorithm
inverse_within : (p fuel s : ℕ) → 1 < p → HasNoDivisor p → 0 < s → s < p → s ≤ fuel → (t : ℕ) × IsInverse p s t
inverse_within p zero s big prime some below enough = absurd (omega arith)
inverse_within p (suc fuel) s big prime some below enough =
    ⊎_elim
    (λ is_one.
    let residue : (1 * s) % p ≡ 1 = ap (λ z. (1 * z) % p) is_one ∙ mod-eq_of_lt big in
    (1, record { is_one = residue }))
    (λ not_one.
    let above : 1 < s = omega arith in
    let left : p % s ≢ 0 = prime s above below in
    let smaller : p % s < s = mod-lt p some in
    let found = inverse_within p fuel (p % s) big prime (omega arith) (omega arith) (omega arith) in
    (found.0 * (p / s) * (p - 1), step p (p - 1) s (p / s) (p % s) found.0 big (omega arith) (div-add-mod' p s) found.1))
    (cases_eq s 1)

pub inverse : (p s : ℕ) → 1 < p → HasNoDivisor p → 0 < s → s < p → (t : ℕ) × IsInverse p s t
inverse p s big prime some below = inverse_within p s s big prime some below (omega arith)

-- x * s * t and x leave one residue, where t is the inverse of s
cancel : (p s t x : ℕ) → IsInverse p s t → (x * s % p * t) % p ≡ x % p
cancel p s t x i =
    let turned : x * s * t ≡ x * (t * s) = omega arith in
    mul-mod_first (x * s) t p ∙ ap (λ z. z % p) turned ∙ sym (mul-mod_second x (t * s) p) ∙ ap (λ z. (x * z) % p) i.is_one
    ∙ ap (λ z. z % p) (omega arith)

-- an offset below p goes away by adding p less it
without_offset : (p o x : ℕ) → o < p → (p - o + (o + x) % p) % p ≡ x % p
without_offset p o x below =
    let turned : p - o + (o + x) ≡ x + p = omega arith in
    add-mod-mod (p - o) (o + x) p ∙ ap (λ z. z % p) turned ∙ add-mod_right x p

-- two multiples of a skip that leave one residue, from one offset on, are the same
pub same_multiple : (p o s t i j : ℕ) → IsInverse p s t → o < p → i < p → j < p → (o + i * s) % p ≡ (o + j * s) % p → i ≡ j
same_multiple p o s t i j inverted below i_below j_below same =
    let multiples : i * s % p ≡ j * s % p =
    sym (without_offset p o (i * s) below) ∙ ap (λ z. (p - o + z) % p) same ∙ without_offset p o (j * s) below in
    sym (mod-eq_of_lt i_below) ∙ sym (cancel p s t i inverted) ∙ ap (λ z. (z * t) % p) multiples ∙ cancel p s t j inverted
    ∙ mod-eq_of_lt j_below

-- each residue is that of a multiple of the skip, from the offset on
pub multiple_at : (p o s t x : ℕ) → IsInverse p s t → o < p → x < p → (c : ℕ) × (c < p) × ((o + c * s) % p ≡ x)
multiple_at p o s t x inverted below x_below =
    let far : ℕ = x + (p - o) in
    let turned : far * t * s ≡ far * (t * s) = omega arith in
    let multiple : (far * t % p * s) % p ≡ far % p =
    mul-mod_first (far * t) s p ∙ ap (λ z. z % p) turned ∙ sym (mul-mod_second far (t * s) p)
    ∙ ap (λ z. (far * z) % p) inverted.is_one ∙ ap (λ z. z % p) (omega arith) in
    let back : o + far ≡ x + p = omega arith in
    let reached : (o + far * t % p * s) % p ≡ x =
    sym (add-mod-mod o (far * t % p * s) p) ∙ ap (λ z. (o + z) % p) multiple ∙ add-mod-mod o far p
    ∙ ap (λ z. z % p) back ∙ add-mod_right x p ∙ mod-eq_of_lt x_below in
    (far * t % p, mod-lt (far * t) (omega arith), reached)
