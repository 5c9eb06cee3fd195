-- A table that has the bytes of the kept cells, as cells are made, written and freed.
use Rattle.std.proofs.Common.{◌≡◌, ◌≢◌, ◌⊎◌, ℕ, ◌<◌, ◌≤◌, Bool, true, false, nat_lt, List, [], ◌∷◌, ◌++◌, length, Option, Some, None, get_or, set, arith, refl, sym, ◌∙◌, ap, subst, inl, inr}
use Rattle.std.specs.Prelude.{◌==◌, IsTrue}
use Rattle.std.proofs.lemmas.List.{get_or-set_same, get_or-set_other, get_or_past, get_or_push, get_or_append_left, length-set}
use Rattle.std.proofs.lemmas.Bool.Decides.{nat_tests}
use Rattle.map_cells.specs.declared.retired.Retired.{Retired}
use Rattle.map_cells.specs.CellTable.{without_cells}
use Rattle.shard_core.specs.ShardFields.{Mirrors}

-- an id that the table has bytes of was given
pub within_table : (table : List (Option (List ℕ))) (id : ℕ) (bytes : List ℕ) → get_or table id None ≡ Some bytes → id < length table
within_table table id bytes is = by_test (nat_lt id (length table)) refl
  where
    by_test : (test : Bool) → nat_lt id (length table) ≡ test → id < length table
    by_test true within = grind (arith, nat_tests)
    by_test false past = let beyond : length table ≤ id = grind (arith, nat_tests) in let none : get_or table id None ≡ None = get_or_past table id None beyond in absurd cc

pub mirrors_fewer : (kept fewer : ℕ → Bool) (table : List (Option (List ℕ))) (cells : List (List ℕ)) → ((id : ℕ) → IsTrue (fewer id) → IsTrue (kept id))
    → Mirrors kept table cells → Mirrors fewer table cells
mirrors_fewer kept fewer table cells weaker mirrors id is = mirrors id (weaker id is)

-- one cell is written
pub mirrors_set : (kept after : ℕ → Bool) (table : List (Option (List ℕ))) (cells : List (List ℕ)) (cell : ℕ) (bytes : List ℕ) → length table ≡ length cells
    → cell < length table → ((id : ℕ) → IsTrue (after id) → IsTrue (kept id))
    → Mirrors kept table cells → Mirrors after (set table cell (Some bytes)) (set cells cell bytes)
mirrors_set kept after table cells cell bytes same within weaker mirrors id is = by_place (id == cell) refl
  where
    by_place : (test : Bool) → (id == cell) ≡ test → get_or (set table cell (Some bytes)) id None ≡ Some (get_or (set cells cell bytes) id [])
    by_place true here =
        let at : cell ≡ id = grind (arith, nat_tests) in
        subst (λ n. get_or (set table cell (Some bytes)) n None ≡ Some (get_or (set cells cell bytes) n [])) at
        (get_or-set_same table cell (Some bytes) None within ∙ ap Some (sym (get_or-set_same cells cell bytes [] (omega (arith, same, within)))))
    by_place false other =
        let apart : id ≢ cell = (λ at. grind (arith, nat_tests)) in
        get_or-set_other table cell id (Some bytes) None apart ∙ mirrors id (weaker id is) ∙ ap Some (sym (get_or-set_other cells cell id bytes [] apart))

-- one cell more
pub mirrors_push : (kept after : ℕ → Bool) (table : List (Option (List ℕ))) (cells : List (List ℕ)) (bytes : List ℕ) → length table ≡ length cells
    → ((id : ℕ) → IsTrue (after id) → IsTrue (kept id) ⊎ (id ≡ length cells))
    → Mirrors kept table cells → Mirrors after (table ++ Some bytes ∷ []) (cells ++ bytes ∷ [])
mirrors_push kept after table cells bytes same weaker mirrors id is = by_case (weaker id is)
  where
    by_case : IsTrue (kept id) ⊎ (id ≡ length cells) → get_or (table ++ Some bytes ∷ []) id None ≡ Some (get_or (cells ++ bytes ∷ []) id [])
    by_case (inl old) =
        let here = mirrors id old in
        let within : id < length table = within_table table id (get_or cells id []) here in
        get_or_append_left table (Some bytes ∷ []) None id within ∙ here ∙ ap Some (sym (get_or_append_left cells (bytes ∷ []) [] id (omega (arith, within, same))))
    by_case (inr new) =
        get_or_push table (Some bytes) None id (same ∙ sym new) ∙ ap Some (sym (get_or_push cells bytes [] id (sym new)))

-- some cells are freed
abbrev pub IsNone : ℕ → List Retired → Type 0
IsNone id [] = Unit {0}
IsNone id (one ∷ others) = (id ≢ one.id) × IsNone id others

without_others : (gone : List Retired) (table : List (Option (List ℕ))) (id : ℕ) → IsNone id gone → get_or (without_cells gone table) id None ≡ get_or table id None
without_others [] table id none = refl
without_others (one ∷ others) table id none =
    without_others others (set table one.id None) id none.1 ∙ get_or-set_other table one.id id None None none.0

pub length-without : (gone : List Retired) (table : List (Option (List ℕ))) → length (without_cells gone table) ≡ length table
length-without [] table = refl
length-without (one ∷ others) table = length-without others (set table one.id None) ∙ length-set table one.id None

pub mirrors_without : (kept after : ℕ → Bool) (gone : List Retired) (table : List (Option (List ℕ))) (cells : List (List ℕ))
    → ((id : ℕ) → IsTrue (after id) → IsTrue (kept id) × IsNone id gone) → Mirrors kept table cells → Mirrors after (without_cells gone table) cells
mirrors_without kept after gone table cells weaker mirrors id is = without_others gone table id (weaker id is).1 ∙ mirrors id (weaker id is).0
