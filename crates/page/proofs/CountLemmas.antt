-- Counts of cells.
use Rattle.std.proofs.Common.{◌≡◌, ◌∙◌, ◌==◌, ◌∷◌, ◌≢◌, ℕ, zero, suc, ◌+◌, ◌<◌, ◌≤◌, Bool, true, false, List, []}
use Rattle.std.proofs.Common.{⊎_elim, arith, ap, refl, sym, subst, get_or, set, length, take, add-one, length-append, length-set, get_or-set_other}
use Rattle.std.specs.Prelude.{count_by, nat_le}
use Rattle.std.proofs.Math.ListN.{get_or-eq_default}
use Rattle.std.proofs.lemmas.Bool.{cases_lt}
use Rattle.std.proofs.lemmas.Bool.Decides.{nat_tests}
use Rattle.std.proofs.lemmas.Grind.{get_or-set_at, same_number_lists}
use Rattle.std.proofs.lemmas.List.{get_or_append_left, get_or_push, length-take, take_all}
use Rattle.std.proofs.lemmas.List.Sums.{count_by-le-length, count_by_more_no, count_by_more_yes}
use Rattle.page.specs.Tallies.{counts_by_cell}

-- the first N rows are counted
abbrev pub AreCounted : List ℕ → List ℕ → ℕ → ℕ → Type 0
AreCounted cells counts size index =
    (length counts ≡ size) × ((cell : ℕ) → cell < size → get_or counts cell 0 ≡ count_by (λ other. other == cell) (take index cells))

module _ (cells counts : List ℕ) (size index here : ℕ) where
  -- one row more
  pub next_counted : index < length cells → here ≡ get_or cells index 0 → AreCounted cells counts size index
      → AreCounted cells (set counts here (get_or counts here 0 + 1)) size (index + 1)
  next_counted inside is_here before =
      (length-set counts here (get_or counts here 0 + 1) ∙ before.0, λ cell small. by_test cell small (here == cell) refl) where
        by_test : (cell : ℕ) → cell < size → (test : Bool) → (here == cell) ≡ test
            → get_or (set counts here (get_or counts here 0 + 1)) cell 0 ≡ count_by (λ other. other == cell) (take (index + 1) cells)
        by_test cell small true is =
            let same : here ≡ cell = grind (arith, nat_tests) in
            let more : count_by (λ other. other == cell) (take (index + 1) cells) ≡ count_by (λ other. other == cell) (take index cells) + 1 =
            count_by_more_yes (λ other. other == cell) cells index 0 inside (subst (λ (it : ℕ). (it == cell) ≡ true) is_here is) in
            let put : get_or (set counts here (get_or counts here 0 + 1)) cell 0 ≡ get_or counts here 0 + 1 =
            get_or-set_at counts here cell (get_or counts here 0 + 1) 0 (sym same) (omega (arith, same, small, before.0)) in
            let was : get_or counts here 0 ≡ count_by (λ other. other == cell) (take index cells) =
            ap (λ (it : ℕ). get_or counts it 0) same ∙ before.1 cell small in
            omega (arith, more, put, was)
        by_test cell small false is =
            let other : cell ≢ here = (λ same. grind (arith, nat_tests)) in
            let more : count_by (λ other. other == cell) (take (index + 1) cells) ≡ count_by (λ other. other == cell) (take index cells) =
            count_by_more_no (λ other. other == cell) cells index 0 inside (subst (λ (it : ℕ). (it == cell) ≡ false) is_here is) in
            get_or-set_other counts here cell (get_or counts here 0 + 1) 0 other ∙ (before.1 cell small ∙ sym more)

  -- a count is no more than the rows
  pub count_is_small : AreCounted cells counts size index → get_or counts here 0 ≤ index
  count_is_small before = by_test (nat_le size here) refl where
    by_test : (test : Bool) → nat_le size here ≡ test → get_or counts here 0 ≤ index
    by_test true is =
        let past : size ≤ here = grind (arith, nat_tests) in
        let none : get_or counts here 0 ≡ 0 = get_or-eq_default counts 0 (omega (arith, past, before.0)) in
        omega (arith, none)
    by_test false is =
        let small : here < size = grind (arith, nat_tests) in
        let few : count_by (λ other. other == here) (take index cells) ≤ length (take index cells) =
        count_by-le-length (λ other. other == here) (take index cells) in
        omega (arith, few, before.1 here small, length-take index cells)

length-counts_of : (cells : List ℕ) (size : ℕ) → length (counts_by_cell cells size) ≡ size
unfolding counts_by_cell
length-counts_of cells zero = refl
length-counts_of cells (suc size) =
    length-append (counts_by_cell cells size) (count_by (λ other. other == size) cells ∷ [])
    ∙ (ap (λ (n : ℕ). n + 1) (length-counts_of cells size) ∙ add-one size)

get_or-counts_of : (cells : List ℕ) (size cell : ℕ) → cell < size → get_or (counts_by_cell cells size) cell 0 ≡ count_by (λ other. other == cell) cells
unfolding counts_by_cell
get_or-counts_of cells zero cell small = absurd (omega (arith, small))
get_or-counts_of cells (suc size) cell small =
    let long = length-counts_of cells size in
    ⊎_elim
    (λ less. get_or_append_left (counts_by_cell cells size) (count_by (λ other. other == size) cells ∷ []) 0 cell (omega (arith, long, less))
    ∙ get_or-counts_of cells size cell less)
    (λ more. let same : cell ≡ size = omega (arith, small, more) in
    get_or_push (counts_by_cell cells size) (count_by (λ other. other == size) cells) 0 cell (long ∙ sym same)
    ∙ ap (λ (it : ℕ). count_by (λ other. other == it) cells) (sym same))
    (cases_lt cell size)

-- when all rows are counted, the counts are those of the cells
pub all_counted : (cells counts : List ℕ) (size index : ℕ) → length cells ≤ index → AreCounted cells counts size index
    → counts ≡ counts_by_cell cells size
all_counted cells counts size index end before =
    same_number_lists counts (counts_by_cell cells size) (before.0 ∙ sym (length-counts_of cells size))
    (λ cell small. before.1 cell (omega (arith, small, before.0))
    ∙ (ap (λ (it : List ℕ). count_by (λ other. other == cell) it) (take_all index cells end)
    ∙ sym (get_or-counts_of cells size cell (omega (arith, small, before.0)))))
