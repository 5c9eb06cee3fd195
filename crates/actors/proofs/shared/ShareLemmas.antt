-- Shares grow with the records.
use Rattle.std.proofs.Common.{◌≡◌, ℕ, zero, suc, ◌+◌, ◌<◌, ◌≤◌, Bool, true, false, List, [], ◌∷◌, length, length-append, refl, sym, subst, arith}
use Rattle.std.specs.Prelude.{nat_le}
use Rattle.std.proofs.lemmas.Bool.Decides.{nat_tests}
use Rattle.actors.specs.Shares.{is_handed, share}

pub share_handed : (frames : List (List ℕ)) (workers worker number : ℕ) → is_handed frames workers worker number ≡ true
    → length (share frames workers worker (suc number)) ≡ length (share frames workers worker number) + 1
share_handed frames workers worker number held = rw held (length-append (share frames workers worker number) (number ∷ []))

pub share_not : (frames : List (List ℕ)) (workers worker number : ℕ) → is_handed frames workers worker number ≡ false
    → length (share frames workers worker (suc number)) ≡ length (share frames workers worker number)
share_not frames workers worker number held = rw held refl

one_grows : (frames : List (List ℕ)) (workers worker count : ℕ) (test : Bool) → is_handed frames workers worker count ≡ test
    → length (share frames workers worker count) ≤ length (share frames workers worker (suc count))
one_grows frames workers worker count true held = let e = share_handed frames workers worker count held in omega (arith, e)
one_grows frames workers worker count false held = let e = share_not frames workers worker count held in omega (arith, e)

either : (frames : List (List ℕ)) (workers worker few count : ℕ)
    → (few ≤ count → length (share frames workers worker few) ≤ length (share frames workers worker count))
    → few ≤ suc count → (test : Bool) → nat_le few count ≡ test → length (share frames workers worker few) ≤ length (share frames workers worker (suc count))
either frames workers worker few count before le true is =
    let below : few ≤ count = grind (arith, nat_tests) in
    let first = before below in
    let more = one_grows frames workers worker count _ refl in
    omega (arith, first, more)
either frames workers worker few count before le false is =
    let past : count < few = grind (arith, nat_tests) in
    let e : few ≡ suc count = omega (arith, past, le) in
    subst (λ n. length (share frames workers worker n) ≤ length (share frames workers worker (suc count))) (sym e) (omega arith)

pub share_grows : (frames : List (List ℕ)) (workers worker few count : ℕ) → few ≤ count
    → length (share frames workers worker few) ≤ length (share frames workers worker count)
share_grows frames workers worker few zero le =
    let e : few ≡ zero = omega (arith, le) in
    subst (λ n. length (share frames workers worker n) ≤ length (share frames workers worker zero)) (sym e) (omega arith)
share_grows frames workers worker few (suc count) le =
    either frames workers worker few count (λ below. share_grows frames workers worker few count below) le (nat_le few count) refl

-- a worker that is handed a record has room for it among all of its records
pub handed_within : (frames : List (List ℕ)) (workers worker number count : ℕ) → is_handed frames workers worker number ≡ true → number < count
    → length (share frames workers worker number) < length (share frames workers worker count)
handed_within frames workers worker number count held below =
    let next = share_handed frames workers worker number held in
    let rest = share_grows frames workers worker (suc number) count (omega (arith, below)) in
    omega (arith, next, rest)
