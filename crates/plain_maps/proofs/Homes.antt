-- How the numbers in order and their counts change where one is put in or taken out.
use Rattle.std.proofs.Common.{◌≡◌, ◌≢◌, ℕ, zero, suc, ◌+◌, ◌-◌, ◌==◌, ◌<◌, ◌≤◌, ◌⊎◌, Bool, true, false, List, [], ◌∷◌, length, get_or, set, refl, sym, ap, ◌∙◌, inl, inr, arith, eq-eqb}
use Rattle.std.specs.List.{insert, remove}
use Rattle.std.proofs.lemmas.Bool.{cases_Bool, cases_lt, false≢true}
use Rattle.std.proofs.lemmas.List.{get_or_past, get_or-set_other}
use Rattle.std.proofs.lemmas.List.Edits.{length-insert, length-remove, get_or-insert_below, get_or-insert_at, get_or-insert_above, get_or-remove_below, get_or-remove_above}
use Rattle.plain_maps.specs.Keyed.{numbers_there}
use Rattle.plain_maps.specs.Buckets.{There, InOrder, one_homed, homed}

-- ---- membership

module _ (order : List ℕ) (at n : ℕ) (within : at ≤ length order) where
  pub in_insert_new : InOrder (insert order at n) n
  in_insert_new = (at, omega (arith, length-insert order at n within, within), get_or-insert_at order at n 0 within)

  pub in_insert_old : (m : ℕ) → InOrder order m → InOrder (insert order at n) m
  in_insert_old m there =
      let long : length (insert order at n) ≡ length order + 1 = length-insert order at n within in
      let lt : there.0 < length order = there.1 in
      elim (cases_lt there.0 at) [
        | inl lower ↦ (there.0, omega arith, get_or-insert_below order at n 0 there.0 lower within ∙ there.2)
        | inr at_least ↦ (there.0 + 1, omega arith, get_or-insert_above order at n 0 there.0 at_least within ∙ there.2)
      ]

  pub insert_from : (i : ℕ) → i < length (insert order at n) → (get_or (insert order at n) i 0 ≡ n) ⊎ ((j : ℕ) × (j < length order) × (get_or (insert order at n) i 0 ≡ get_or order j 0))
  insert_from i lt =
      let long : length (insert order at n) ≡ length order + 1 = length-insert order at n within in
      elim (cases_lt i at) [
        | inl lower ↦ inr (i, omega arith, get_or-insert_below order at n 0 i lower within)
        | inr at_least ↦ elim (cases_lt at i) [
          | inl higher ↦ (let e : i ≡ i - 1 + 1 = omega arith in inr (i - 1, omega arith, ap (λ (k : ℕ). get_or (insert order at n) k 0) e ∙ get_or-insert_above order at n 0 (i - 1) (omega arith) within))
          | inr same ↦ (let e : i ≡ at = omega arith in inl (ap (λ (k : ℕ). get_or (insert order at n) k 0) e ∙ get_or-insert_at order at n 0 within))
        ]
      ]

module _ (order : List ℕ) (at : ℕ) (within : at < length order) where
  pub remove_from : (i : ℕ) → i < length (remove order at) → (j : ℕ) × (j < length order) × (j ≢ at) × (get_or (remove order at) i 0 ≡ get_or order j 0)
  remove_from i lt =
      let long : length (remove order at) + 1 ≡ length order = length-remove order at within in
      elim (cases_lt i at) [
        | inl lower ↦ (i, omega arith, omega arith, get_or-remove_below order at 0 i lower within)
        | inr at_least ↦ (i + 1, omega arith, omega arith, get_or-remove_above order at 0 i at_least within)
      ]

  pub in_remove : (m : ℕ) → InOrder order m → m ≢ get_or order at 0 → InOrder (remove order at) m
  in_remove m there apart =
      let long : length (remove order at) + 1 ≡ length order = length-remove order at within in
      let lt : there.0 < length order = there.1 in
      let elsewhere : there.0 ≢ at = λ same. apart (sym there.2 ∙ ap (λ (i : ℕ). get_or order i 0) same) in
      elim (cases_lt there.0 at) [
        | inl lower ↦ (there.0, omega arith, get_or-remove_below order at 0 there.0 lower within ∙ there.2)
        | inr at_least ↦ (let e : there.0 ≡ there.0 - 1 + 1 = omega arith in
            (there.0 - 1, omega arith, get_or-remove_above order at 0 (there.0 - 1) (omega arith) within ∙ (ap (λ (i : ℕ). get_or order i 0) (sym e) ∙ there.2)))
      ]

-- ---- counts by bucket

pub homed_insert : (b : ℕ) (home : ℕ → ℕ) (order : List ℕ) (at n : ℕ) → at ≤ length order → homed b home (insert order at n) ≡ homed b home order + one_homed b (home n)
homed_insert b home order zero n within = omega arith
homed_insert b home [] (suc at) n within = absurd (omega arith)
homed_insert b home (m ∷ order) (suc at) n within = let rest = homed_insert b home order at n (omega arith) in omega (arith, rest)

pub homed_remove : (b : ℕ) (home : ℕ → ℕ) (order : List ℕ) (at : ℕ) → at < length order → homed b home (remove order at) + one_homed b (home (get_or order at 0)) ≡ homed b home order
homed_remove b home [] at within = absurd (omega arith)
homed_remove b home (m ∷ order) zero within = omega arith
homed_remove b home (m ∷ order) (suc at) within = let rest = homed_remove b home order at (omega arith) in omega (arith, rest)

pub homed_agree : (b : ℕ) (home other : ℕ → ℕ) (order : List ℕ) → ((i : ℕ) → i < length order → home (get_or order i 0) ≡ other (get_or order i 0)) → homed b home order ≡ homed b other order
homed_agree b home other [] same = refl
homed_agree b home other (m ∷ order) same = rw (same 0 (omega arith), homed_agree b home other order (λ i lt. same (suc i) (omega arith))) refl

pub homed_some : (b : ℕ) (home : ℕ → ℕ) (order : List ℕ) (i : ℕ) → i < length order → home (get_or order i 0) ≡ b → 0 < homed b home order
homed_some b home [] i lt same = absurd (omega arith)
homed_some b home (m ∷ order) zero lt same = rw (eq-eqb (home m) b same) (omega arith)
homed_some b home (m ∷ order) (suc i) lt same = let rest = homed_some b home order i (omega arith) same in omega (arith, rest)

pub homed_few : (b : ℕ) (home : ℕ → ℕ) (order : List ℕ) → homed b home order ≤ length order
homed_few b home [] = omega arith
homed_few b home (m ∷ order) = let rest = homed_few b home order in elim (cases_Bool (home m == b)) [ inl is ↦ rw is (omega (arith, rest)) | inr is ↦ rw is (omega (arith, rest)) ]

-- ---- flags

pub there_below : (flags : List Bool) (n : ℕ) → There flags n → n < length flags
there_below flags n there = elim (cases_lt n (length flags)) [ inl lower ↦ lower | inr past ↦ absurd (false≢true (sym (get_or_past flags n false past) ∙ there)) ]

pub in_numbers : (from : ℕ) (flags : List Bool) (k : ℕ) → There flags k → InOrder (numbers_there from flags) (from + k)
in_numbers from [] k there = absurd (false≢true there)
in_numbers from (true ∷ flags) zero there = (0, omega arith, omega arith)
in_numbers from (false ∷ flags) zero there = absurd (false≢true there)
in_numbers from (true ∷ flags) (suc k) there =
    let rest = in_numbers (suc from) flags k there in
    let lt : rest.0 < length (numbers_there (suc from) flags) = rest.1 in
    let value : get_or (numbers_there (suc from) flags) rest.0 0 ≡ suc from + k = rest.2 in
    (suc rest.0, omega arith, omega arith)
in_numbers from (false ∷ flags) (suc k) there =
    let rest = in_numbers (suc from) flags k there in
    let value : get_or (numbers_there (suc from) flags) rest.0 0 ≡ suc from + k = rest.2 in
    (rest.0, rest.1, omega arith)

pub numbers_in : (from : ℕ) (flags : List Bool) (i : ℕ) → i < length (numbers_there from flags) → (k : ℕ) × There flags k × (get_or (numbers_there from flags) i 0 ≡ from + k)
numbers_in from [] i lt = absurd (omega arith)
numbers_in from (true ∷ flags) zero lt = (0, refl, omega arith)
numbers_in from (true ∷ flags) (suc i) lt =
    let rest = numbers_in (suc from) flags i (omega arith) in
    let value : get_or (numbers_there (suc from) flags) i 0 ≡ suc from + rest.0 = rest.2 in
    (suc rest.0, rest.1, omega arith)
numbers_in from (false ∷ flags) i lt =
    let rest = numbers_in (suc from) flags i lt in
    let value : get_or (numbers_there (suc from) flags) i 0 ≡ suc from + rest.0 = rest.2 in
    (suc rest.0, rest.1, omega arith)

pub count_more : (from : ℕ) (flags : List Bool) (n : ℕ) → n < length flags → get_or flags n false ≡ false → length (numbers_there from (set flags n true)) ≡ length (numbers_there from flags) + 1
count_more from [] n lt unset = absurd (omega arith)
count_more from (true ∷ flags) zero lt unset = absurd (false≢true (sym unset))
count_more from (false ∷ flags) zero lt unset = omega arith
count_more from (true ∷ flags) (suc n) lt unset = let rest = count_more (suc from) flags n (omega arith) unset in omega (arith, rest)
count_more from (false ∷ flags) (suc n) lt unset = count_more (suc from) flags n (omega arith) unset

pub count_less : (from : ℕ) (flags : List Bool) (n : ℕ) → There flags n → length (numbers_there from (set flags n false)) + 1 ≡ length (numbers_there from flags)
count_less from [] n there = absurd (false≢true there)
count_less from (true ∷ flags) zero there = omega arith
count_less from (false ∷ flags) zero there = absurd (false≢true there)
count_less from (true ∷ flags) (suc n) there = let rest = count_less (suc from) flags n there in omega (arith, rest)
count_less from (false ∷ flags) (suc n) there = count_less (suc from) flags n there

-- numbers that are there, each once, are no more than there are
pub few_in_order : (order : List ℕ) (flags : List Bool) → ((i : ℕ) → i < length order → There flags (get_or order i 0)) → ((i j : ℕ) → i < j → j < length order → get_or order i 0 ≢ get_or order j 0) → length order ≤ length (numbers_there 0 flags)
few_in_order [] flags listed once = omega arith
few_in_order (n ∷ order) flags listed once =
    let less = count_less 0 flags n (listed 0 (omega arith)) in
    let rest = few_in_order order (set flags n false)
    (λ i lt. (let apart : get_or order i 0 ≢ n = (λ same. once 0 (suc i) (omega arith) (omega arith) (sym same)) in get_or-set_other flags n (get_or order i 0) false false apart ∙ listed (suc i) (omega arith)))
    (λ i j lower lt. once (suc i) (suc j) (omega arith) (omega arith)) in
    omega (arith, less, rest)

pub numbers_few_from : (from : ℕ) (flags : List Bool) → length (numbers_there from flags) ≤ length flags
numbers_few_from from [] = omega arith
numbers_few_from from (true ∷ flags) = let rest = numbers_few_from (suc from) flags in omega (arith, rest)
numbers_few_from from (false ∷ flags) = let rest = numbers_few_from (suc from) flags in omega (arith, rest)

pub numbers_few : (flags : List Bool) → length (numbers_there 0 flags) ≤ length flags
numbers_few flags = numbers_few_from 0 flags
