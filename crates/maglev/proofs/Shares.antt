-- Counts of places in a table, and of turns.
use Rattle.std.proofs.Common.{◌≡◌, ◌≢◌, ℕ, suc, ◌+◌, ◌-◌, ◌*◌, ◌/◌, ◌%◌, ◌<◌, ◌≤◌, ◌⊎◌, cond, eqb, List, [], ◌∷◌, length, get_or, set, inl, inr, ⊎_elim, sym, ap, ◌∙◌, arith}
use Rattle.std.specs.Prelude.{Contains, count_by}
use Rattle.std.proofs.Math.Nat.{mod-lt, div-eq_of_lt-le}
use Rattle.std.proofs.lemmas.Nat.{div-add-mod'}
use Rattle.std.proofs.lemmas.Bool.{cases_eq, cases_lt, eq-eqb, ne_eqb, cond-true, cond-false}
use Rattle.std.proofs.lemmas.List.Sums.{sum_by-set, sum_by-cons, get_or-le-sum_by}
use Rattle.maglev.specs.Turns.{turns_of}

-- 1 for the mark, 0 for others: what a count adds up
abbrev pub counts : ℕ → ℕ → ℕ
counts mark x = cond (eqb x mark) 1 0

pub counts-same : (mark x : ℕ) → x ≡ mark → counts mark x ≡ 1
counts-same mark x same = cond-true (eqb x mark) 1 0 (eq-eqb x mark same)

pub counts-other : (mark x : ℕ) → x ≢ mark → counts mark x ≡ 0
counts-other mark x other = cond-false (eqb x mark) 1 0 (ne_eqb x mark other)

-- a write moves one from the old mark's count to the new one's
pub count_by-set : (mark : ℕ) (xs : List ℕ) (i y old : ℕ) → i < length xs → get_or xs i 0 ≡ old
    → count_by (λ x. eqb x mark) (set xs i y) + counts mark old ≡ count_by (λ x. eqb x mark) xs + counts mark y
count_by-set mark xs i y old below read =
    ap (λ z. count_by (λ x. eqb x mark) (set xs i y) + counts mark z) (sym read) ∙ sum_by-set (counts mark) xs i y 0 below

-- what is counted is in the list
pub Contains-from_count : (mark : ℕ) (xs : List ℕ) → 0 < count_by (λ x. eqb x mark) xs → Contains xs mark
Contains-from_count mark [] some = absurd (omega arith)
Contains-from_count mark (x ∷ xs) some =
    ⊎_elim
    (λ here. (0, omega arith, here))
    (λ elsewhere.
    let sums : count_by (λ y. eqb y mark) (x ∷ xs) ≡ counts mark x + count_by (λ y. eqb y mark) xs = sum_by-cons (counts mark) x xs in
    let none : counts mark x ≡ 0 = counts-other mark x elsewhere in
    let later = Contains-from_count mark xs (omega arith) in
    (suc later.0, omega arith, later.2))
    (cases_eq x mark)

-- what is not counted is not in the list
pub not_from_count : (mark : ℕ) (xs : List ℕ) (i : ℕ) → count_by (λ x. eqb x mark) xs ≡ 0 → i < length xs → get_or xs i 0 ≢ mark
not_from_count mark xs i none below here =
    let one : counts mark (get_or xs i 0) ≡ 1 = counts-same mark (get_or xs i 0) here in
    let most : counts mark (get_or xs i 0) ≤ count_by (λ x. eqb x mark) xs = get_or-le-sum_by (counts mark) xs i 0 below in
    absurd (omega arith)

-- the turns of a place, by quotient and remainder: one more for the places before the remainder
quotient_low : (count place turns : ℕ) → place < count → turns % count ≤ place → turns_of count place turns ≡ turns / count
quotient_low count place turns inside low =
    let whole : turns / count * count + turns % count ≡ turns = div-add-mod' turns count in
    div-eq_of_lt-le count (omega (arith, whole)) (omega (arith, whole))

quotient_high : (count place turns : ℕ) → place < count → place < turns % count → turns_of count place turns ≡ turns / count + 1
quotient_high count place turns inside high =
    let whole : turns / count * count + turns % count ≡ turns = div-add-mod' turns count in
    let below : turns % count < count = mod-lt turns (omega arith) in
    div-eq_of_lt-le count (omega (arith, whole, below)) (omega (arith, whole, below))

pub turns_of-zero : (count place : ℕ) → place < count → turns_of count place 0 ≡ 0
turns_of-zero count place inside = div-eq_of_lt-le count (omega arith) (omega arith)

-- one more turn goes to the place whose turn it is
pub turns_of-more : (count place turn : ℕ) → place < count → turns_of count place (turn + 1) ≡ turns_of count place turn + counts place (turn % count)
turns_of-more count place turn inside =
    let whole : turn / count * count + turn % count ≡ turn = div-add-mod' turn count in
    let below : turn % count < count = mod-lt turn (omega arith) in
    ⊎_elim
    (λ here.
    let one : counts place (turn % count) ≡ 1 = counts-same place (turn % count) here in
    let before : turns_of count place turn ≡ turn / count = quotient_low count place turn inside (omega arith) in
    let after : turns_of count place (turn + 1) ≡ turn / count + 1 =
    div-eq_of_lt-le count (omega (arith, whole, below)) (omega (arith, whole, below)) in
    omega (arith, one, before, after))
    (λ elsewhere.
    let none : counts place (turn % count) ≡ 0 = counts-other place (turn % count) elsewhere in
    ⊎_elim
    (λ high.
    let before : turns_of count place turn ≡ turn / count + 1 = quotient_high count place turn inside high in
    let after : turns_of count place (turn + 1) ≡ turn / count + 1 =
    div-eq_of_lt-le count (omega (arith, whole, below)) (omega (arith, whole, below)) in
    omega (arith, none, before, after))
    (λ low.
    let before : turns_of count place turn ≡ turn / count = quotient_low count place turn inside low in
    let after : turns_of count place (turn + 1) ≡ turn / count =
    div-eq_of_lt-le count (omega (arith, whole, below)) (omega (arith, whole, below)) in
    omega (arith, none, before, after))
    (cases_lt place (turn % count)))
    (cases_eq (turn % count) place)

-- each place has the floor or the ceiling of the turns by the places
pub turns_of-fair : (count place turns : ℕ) → place < count → (turns_of count place turns ≡ turns / count) ⊎ (turns_of count place turns ≡ (turns + count - 1) / count)
turns_of-fair count place turns inside =
    let whole : turns / count * count + turns % count ≡ turns = div-add-mod' turns count in
    let below : turns % count < count = mod-lt turns (omega arith) in
    ⊎_elim
    (λ high.
    let ceiling : (turns + count - 1) / count ≡ turns / count + 1 =
    div-eq_of_lt-le count (omega (arith, whole, below)) (omega (arith, whole, below)) in
    inr (quotient_high count place turns inside high ∙ sym ceiling))
    (λ low. inl (quotient_low count place turns inside low))
    (cases_lt place (turns % count))
