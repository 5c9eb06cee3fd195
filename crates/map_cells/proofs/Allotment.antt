-- What becomes of the places where a cell is made and where one is freed, and of the cells that are in them.
use Rattle.std.proofs.Common.{◌≡◌, ◌≢◌, ℕ, zero, suc, ◌+◌, ◌*◌, ◌==◌, ◌<◌, ◌≤◌, ◌⊎◌, List, [], ◌∷◌, ◌++◌, length, get_or, set, Some, None, is_some, IsTrue, inl, inr, sym, refl, arith, rules, ap, ◌∙◌, eq-eqb}
use Rattle.std.proofs.lemmas.Bool.{cases_Bool, cases_lt, false≢true}
use Rattle.std.proofs.lemmas.Bool.Decides.{eqb_tells}
use Rattle.std.proofs.lemmas.List.{get_or_append_left, get_or_push, get_or_past, get_or-set_same, get_or-set_other, length-append, length-take-le, length-drop, map-append, map-set}
use Rattle.std.proofs.lemmas.List.{same_lists, places}
use Rattle.std.proofs.lemmas.Bool.{cases_eq as which}
use Rattle.wire.specs.FrameView.{overwritten_at}
use Rattle.std.proofs.Math.Nat.{mul-le-mul_right}
use Rattle.map_cells.specs.declared.retired.Retired.{Retired}
use Rattle.map_cells.specs.Blocks.{block_of}
use Rattle.map_cells.specs.CellTable.{retired_at, unused_retired, IsLowestStamp}
use Rattle.map_cells.specs.Places.{no_place, place_at, cell_in_block, cells_in, kept_count, IsAllotted, IsWaiting, IsTableOfCells}

-- ---- the cells by their places

cell_in_place : (size : ℕ) (bytes : List ℕ) (place : ℕ) → place ≢ no_place → cell_in_block size bytes place ≡ Some (block_of size bytes place)
cell_in_place size bytes place some = elim (eqb_tells place no_place) [ inl is ↦ absurd (some is.1) | inr is ↦ rw is.0 refl ]

cell_in_none : (size : ℕ) (bytes : List ℕ) (place : ℕ) → place ≡ no_place → cell_in_block size bytes place ≡ None
cell_in_none size bytes place none = rw (eq-eqb place no_place none) refl

cell_there : (size : ℕ) (bytes place_of : List ℕ) (id : ℕ) → place_at place_of id ≢ no_place → get_or (cells_in size bytes place_of) id None ≡ Some (block_of size bytes (place_at place_of id))
cell_there size bytes [] id some = absurd (some refl)
cell_there size bytes (place ∷ rest) zero some = cell_in_place size bytes place some
cell_there size bytes (place ∷ rest) (suc id) some = cell_there size bytes rest id some

cell_gone : (size : ℕ) (bytes place_of : List ℕ) (id : ℕ) → place_at place_of id ≡ no_place → get_or (cells_in size bytes place_of) id None ≡ None
cell_gone size bytes [] id none = refl
cell_gone size bytes (place ∷ rest) zero none = cell_in_none size bytes place none
cell_gone size bytes (place ∷ rest) (suc id) none = cell_gone size bytes rest id none

pub kept_place : (size : ℕ) (bytes place_of : List ℕ) (id : ℕ) → IsTrue (is_some (get_or (cells_in size bytes place_of) id None)) → place_at place_of id ≢ no_place
kept_place size bytes place_of id kept none = let gone = cell_gone size bytes place_of id none in (let nothing = rw gone at kept in false≢true nothing)

pub given_id : (place_of : List ℕ) (id : ℕ) → place_at place_of id ≢ no_place → id < length place_of
given_id place_of id some = elim (cases_lt id (length place_of)) [ inl lower ↦ lower | inr past ↦ absurd (some (get_or_past place_of id no_place past)) ]

pub end_of_place : (m n size : ℕ) → m < n → m * size + size ≤ n * size
end_of_place m n size lt = let h : (m + 1) * size ≤ n * size = mul-le-mul_right size (omega arith) in omega (arith, h)

-- what is known of a kept cell
pub record Stands (size : ℕ) (bytes place_of : List ℕ) (id : ℕ) : Type 0 where
  pub given : id < length place_of
  pub some : place_at place_of id ≢ no_place
  pub within : place_at place_of id * size + size ≤ length bytes
  pub is_cell : get_or (cells_in size bytes place_of) id None ≡ Some (block_of size bytes (place_at place_of id))

pub stands : (size places ids : ℕ) (bytes place_of free : List ℕ) (retired : List Retired) (a b c : ℕ) → IsTableOfCells size places ids bytes place_of free retired a b c → (id : ℕ) → IsTrue (is_some (get_or (cells_in size bytes place_of) id None)) → Stands size bytes place_of id
stands size places ids bytes place_of free retired a b c table id kept =
    let some = kept_place size bytes place_of id kept in
    let ends = end_of_place (place_at place_of id) places size (table.allotted.in_range id some) in
    record {
      given = given_id place_of id some;
      some = some;
      within = omega (arith, ends, table.bytes_room);
      is_cell = cell_there size bytes place_of id some;
    }

-- ---- bytes written at one place

module _ (size : ℕ) (bytes written : List ℕ) (n : ℕ) (elsewhere : (m : ℕ) → m ≢ n → block_of size written m ≡ block_of size bytes m) where
  same_cell : (place : ℕ) → place ≢ n → cell_in_block size written place ≡ cell_in_block size bytes place
  same_cell place apart = elim (cases_Bool (place == no_place)) [ inl is ↦ rw is refl | inr is ↦ rw is (ap Some (elsewhere place apart)) ]

  pub cells_same : (place_of : List ℕ) → ((id : ℕ) → id < length place_of → place_at place_of id ≢ n) → cells_in size written place_of ≡ cells_in size bytes place_of
  cells_same [] apart = refl
  cells_same (place ∷ rest) apart = rw (same_cell place (apart 0 (omega arith)), cells_same rest (λ id lt. apart (suc id) (omega arith))) refl

  pub cells_changed : (place_of : List ℕ) (id : ℕ) → id < length place_of → place_at place_of id ≡ n → n ≢ no_place → ((j : ℕ) → j < length place_of → j ≢ id → place_at place_of j ≢ n) → cells_in size written place_of ≡ set (cells_in size bytes place_of) id (Some (block_of size written n))
  cells_changed [] id lt here some apart = absurd (omega arith)
  cells_changed (place ∷ rest) zero lt here some apart = rw (cell_in_place size written place (rw here some), here, cells_same rest (λ j less. apart (suc j) (omega arith) (omega arith))) refl
  cells_changed (place ∷ rest) (suc id) lt here some apart = rw (same_cell place (apart 0 (omega arith) (omega arith)), cells_changed rest id (omega arith) here some (λ j less other. apart (suc j) (omega arith) (omega arith))) refl

pub length_of_block : (size : ℕ) (bytes : List ℕ) (n : ℕ) → n * size + size ≤ length bytes → length (block_of size bytes n) ≡ size
length_of_block size bytes n within = grind (arith, length-take-le, length-drop)

-- ---- a cell is made

place_at_push : (place_of : List ℕ) (p id : ℕ) → ((id < length place_of) × (place_at (place_of ++ p ∷ []) id ≡ place_at place_of id)) ⊎ (((id ≡ length place_of) × (place_at (place_of ++ p ∷ []) id ≡ p)) ⊎ (place_at (place_of ++ p ∷ []) id ≡ no_place))
place_at_push place_of p id = elim (cases_lt id (length place_of)) [
  | inl lower ↦ inl (lower, get_or_append_left place_of (p ∷ []) no_place id lower)
  | inr past ↦ elim (cases_lt (length place_of) id) [
    | inl higher ↦ inr (inr (get_or_past (place_of ++ p ∷ []) id no_place (omega (arith, length-append place_of (p ∷ []), higher))))
    | inr same ↦ (let is : length place_of ≡ id = omega arith in inr (inl (sym is, get_or_push place_of p no_place id is)))
  ]
]

kept_count_push : (place_of : List ℕ) (p : ℕ) → p ≢ no_place → kept_count (place_of ++ p ∷ []) ≡ kept_count place_of + 1
kept_count_push [] p some = elim (eqb_tells p no_place) [ inl is ↦ absurd (some is.1) | inr is ↦ rw is.0 refl ]
kept_count_push (place ∷ rest) p some = let more = kept_count_push rest p some in omega (arith, more)

module _ (places : ℕ) (few : places < no_place) (place_of free : List ℕ) (p : ℕ) (before : IsAllotted places place_of (free ++ p ∷ [])) where
  more_free : length (free ++ p ∷ []) ≡ length free + 1
  more_free = length-append free (p ∷ [])

  free_at : (k : ℕ) → k < length free → get_or (free ++ p ∷ []) k 0 ≡ get_or free k 0
  free_at k lt = get_or_append_left free (p ∷ []) 0 k lt

  last_free : get_or (free ++ p ∷ []) (length free) 0 ≡ p
  last_free = get_or_push free p 0 (length free) refl

  pub taken_in_range : p < places
  taken_in_range = let h = before.free_in_range (length free) (omega (arith, more_free)) in (rw last_free at h)

  pub taken_some : p ≢ no_place
  taken_some same = let h = taken_in_range in omega (arith, h, same, few)

  pub taken_unused : (id : ℕ) → place_at place_of id ≢ p
  taken_unused id same = before.free_unused (length free) id (omega (arith, more_free)) (same ∙ sym last_free)

  free_below : (k : ℕ) → k < length free → get_or free k 0 < places
  free_below k lt = let h = before.free_in_range k (omega (arith, more_free)) in (rw (free_at k lt) at h)

  apart_after : (i j : ℕ) → place_at (place_of ++ p ∷ []) i ≢ no_place → place_at (place_of ++ p ∷ []) i ≡ place_at (place_of ++ p ∷ []) j → i ≡ j
  apart_after i j some same = elim (place_at_push place_of p i) [
    | inl old ↦ elim (place_at_push place_of p j) [
      | inl other ↦ before.apart i j (λ none. some (old.1 ∙ none)) (sym old.1 ∙ (same ∙ other.1))
      | inr rest ↦ elim rest [
        | inl end ↦ absurd (taken_unused i (sym old.1 ∙ (same ∙ end.1)))
        | inr past ↦ absurd (some (same ∙ past))
      ]
    ]
    | inr rest ↦ elim rest [
      | inl end ↦ elim (place_at_push place_of p j) [
        | inl other ↦ absurd (taken_unused j (sym other.1 ∙ (sym same ∙ end.1)))
        | inr rest ↦ elim rest [
          | inl also ↦ end.0 ∙ sym also.0
          | inr past ↦ absurd (some (same ∙ past))
        ]
      ]
      | inr past ↦ absurd (some past)
    ]
  ]

  unused_after : (k id : ℕ) → k < length free → place_at (place_of ++ p ∷ []) id ≢ get_or free k 0
  unused_after k id lt same = elim (place_at_push place_of p id) [
    | inl old ↦ before.free_unused k id (omega (arith, more_free)) (sym old.1 ∙ (same ∙ sym (free_at k lt)))
    | inr rest ↦ elim rest [
      | inl end ↦ before.free_apart k (length free) lt (omega (arith, more_free)) (free_at k lt ∙ (sym same ∙ (end.1 ∙ sym last_free)))
      | inr past ↦ (let small = free_below k lt in omega (arith, small, same, past, few))
    ]
  ]

  pub taken : IsAllotted places (place_of ++ p ∷ []) free
  taken = record {
    in_range = λ id some. elim (place_at_push place_of p id) [
      | inl old ↦ rw old.1 (before.in_range id (λ none. some (old.1 ∙ none)))
      | inr rest ↦ elim rest [ inl end ↦ rw end.1 taken_in_range | inr past ↦ absurd (some past) ]
    ];
    apart = apart_after;
    free_in_range = free_below;
    free_apart = λ k m lt less same. before.free_apart k m lt (omega (arith, more_free)) (free_at k (omega arith) ∙ (same ∙ sym (free_at m less)));
    free_unused = unused_after;
    balance = let count = kept_count_push place_of p taken_some in omega (arith, count, more_free, before.balance);
  }

  -- the cells there are where they were, and the new one is behind them
  pub cells_taken : (size : ℕ) (bytes written value : List ℕ) → ((m : ℕ) → m ≢ p → block_of size written m ≡ block_of size bytes m) → block_of size written p ≡ value → cells_in size written (place_of ++ p ∷ []) ≡ cells_in size bytes place_of ++ Some value ∷ []
  cells_taken size bytes written value elsewhere here = map-append (cell_in_block size written) place_of (p ∷ []) ∙ rw (cells_same size bytes written p elsewhere place_of (λ id lt. taken_unused id), cell_in_place size written p taken_some, here) refl

pub waiting_taken : (place_of : List ℕ) (p : ℕ) (retired : List Retired) → IsWaiting place_of retired → IsWaiting (place_of ++ p ∷ []) retired
waiting_taken place_of p retired waiting = record {
  kept = λ k lt none.
      let some = waiting.kept k lt in
      some (sym (get_or_append_left place_of (p ∷ []) no_place (retired_at retired k).id (given_id place_of (retired_at retired k).id some)) ∙ none);
  once = waiting.once;
  rising = waiting.rising;
}

-- ---- a cell is retired

retired_at_push : (retired : List Retired) (one : Retired) (k : ℕ) → k < length (retired ++ one ∷ []) → ((k < length retired) × (retired_at (retired ++ one ∷ []) k ≡ retired_at retired k)) ⊎ ((k ≡ length retired) × (retired_at (retired ++ one ∷ []) k ≡ one))
retired_at_push retired one k lt = elim (cases_lt k (length retired)) [
  | inl lower ↦ inl (lower, get_or_append_left retired (one ∷ []) unused_retired k lower)
  | inr past ↦ (let same : length retired ≡ k = omega (arith, length-append retired (one ∷ []), lt, past) in inr (sym same, get_or_push retired one unused_retired k same))
]

module _ (place_of : List ℕ) (retired : List Retired) (id stamp : ℕ) (waiting : IsWaiting place_of retired) (some : place_at place_of id ≢ no_place) (fresh : (k : ℕ) → k < length retired → (retired_at retired k).id ≢ id) (latest : (k : ℕ) → k < length retired → (retired_at retired k).stamp ≤ stamp) where
  pub waiting_retired : IsWaiting place_of (retired ++ (record { id = id; stamp = stamp }) ∷ [])
  waiting_retired = record {
    kept = λ k lt. elim (retired_at_push retired (record { id = id; stamp = stamp }) k lt) [ inl old ↦ rw old.1 (waiting.kept k old.0) | inr last ↦ rw last.1 some ];
    once = λ k m less lt. elim (retired_at_push retired (record { id = id; stamp = stamp }) m lt) [
      | inl old ↦ (let first = get_or_append_left retired ((record { id = id; stamp = stamp }) ∷ []) unused_retired k (omega (arith, less, old.0)) in rw (first, old.1) (waiting.once k m less old.0))
      | inr last ↦ (let first = get_or_append_left retired ((record { id = id; stamp = stamp }) ∷ []) unused_retired k (omega (arith, less, last.0)) in rw (first, last.1) (fresh k (omega (arith, less, last.0))))
    ];
    rising = λ k m less lt. elim (retired_at_push retired (record { id = id; stamp = stamp }) m lt) [
      | inl old ↦ (let first = get_or_append_left retired ((record { id = id; stamp = stamp }) ∷ []) unused_retired k (omega (arith, less, old.0)) in rw (first, old.1) (waiting.rising k m less old.0))
      | inr last ↦ (let first = get_or_append_left retired ((record { id = id; stamp = stamp }) ∷ []) unused_retired k (omega (arith, less, last.0)) in rw (first, last.1) (latest k (omega (arith, less, last.0))))
    ];
  }

-- ---- a cell is freed

kept_count_less : (place_of : List ℕ) (id : ℕ) → place_at place_of id ≢ no_place → kept_count (set place_of id no_place) + 1 ≡ kept_count place_of
kept_count_less [] id some = absurd (some refl)
kept_count_less (place ∷ rest) zero some = elim (eqb_tells place no_place) [ inl is ↦ absurd (some is.1) | inr is ↦ rw is.0 (omega arith) ]
kept_count_less (place ∷ rest) (suc id) some = let less = kept_count_less rest id some in omega (arith, less)

module _ (places : ℕ) (few : places < no_place) (place_of free : List ℕ) (id : ℕ) (before : IsAllotted places place_of free) (some : place_at place_of id ≢ no_place) where
  gone : place_at (set place_of id no_place) id ≡ no_place
  gone = get_or-set_same place_of id no_place no_place (given_id place_of id some)

  stays : (j : ℕ) → j ≢ id → place_at (set place_of id no_place) j ≡ place_at place_of j
  stays j apart = get_or-set_other place_of id j no_place no_place apart

  pub room_for_freed : length free < places
  room_for_freed = let less = kept_count_less place_of id some in omega (arith, less, before.balance)

  free_more : length (free ++ place_at place_of id ∷ []) ≡ length free + 1
  free_more = length-append free (place_at place_of id ∷ [])

  free_kept : (k : ℕ) → k < length free → get_or (free ++ place_at place_of id ∷ []) k 0 ≡ get_or free k 0
  free_kept k lt = get_or_append_left free (place_at place_of id ∷ []) 0 k lt

  free_last : (k : ℕ) → k ≡ length free → get_or (free ++ place_at place_of id ∷ []) k 0 ≡ place_at place_of id
  free_last k same = get_or_push free (place_at place_of id) 0 k (sym same)

  pub freed : IsAllotted places (set place_of id no_place) (free ++ place_at place_of id ∷ [])
  freed = record {
    in_range = λ j there. elim (which j id) [
      | inl same ↦ absurd (there (rw same gone))
      | inr apart ↦ rw (stays j apart) (before.in_range j (λ none. there (stays j apart ∙ none)))
    ];
    apart = λ i j there same. elim (which i id) [
      | inl here ↦ absurd (there (rw here gone))
      | inr apart ↦ elim (which j id) [
        | inl other ↦ absurd (there (same ∙ rw other gone))
        | inr also ↦ before.apart i j (λ none. there (stays i apart ∙ none)) (sym (stays i apart) ∙ (same ∙ stays j also))
      ]
    ];
    free_in_range = λ k lt. elim (cases_lt k (length free)) [
      | inl lower ↦ rw (free_kept k lower) (before.free_in_range k lower)
      | inr last ↦ (let at_end : k ≡ length free = omega (arith, free_more, lt, last) in rw (free_last k at_end) (before.in_range id some))
    ];
    free_apart = λ k m less lt same. elim (cases_lt m (length free)) [
      | inl lower ↦ before.free_apart k m less lower (sym (free_kept k (omega arith)) ∙ (same ∙ free_kept m lower))
      | inr last ↦ (let at_end : m ≡ length free = omega (arith, free_more, lt, last) in
          before.free_unused k id (omega arith) (sym (free_last m at_end) ∙ (sym same ∙ free_kept k (omega arith))))
    ];
    free_unused = λ k j lt same. elim (cases_lt k (length free)) [
      | inl lower ↦ elim (which j id) [
        | inl here ↦ (let small = before.free_in_range k lower in
            let none : get_or free k 0 ≡ no_place = sym (free_kept k lower) ∙ (sym same ∙ rw here gone) in
            omega (arith, small, none, few))
        | inr apart ↦ before.free_unused k j lower (sym (stays j apart) ∙ (same ∙ free_kept k lower))
      ]
      | inr last ↦ (let at_end : k ≡ length free = omega (arith, free_more, lt, last) in elim (which j id) [
        | inl here ↦ some (sym (free_last k at_end) ∙ (sym same ∙ rw here gone))
        | inr apart ↦ apart (sym (before.apart id j some (sym (free_last k at_end) ∙ (sym same ∙ stays j apart))))
      ])
    ];
    balance = let less = kept_count_less place_of id some in omega (arith, less, free_more, before.balance);
  }

pub waiting_freed : (place_of : List ℕ) (first : Retired) (others : List Retired) → IsWaiting place_of (first ∷ others) → IsWaiting (set place_of first.id no_place) others
waiting_freed place_of first others waiting = record {
  kept = λ k lt none. waiting.kept (suc k) (omega arith) (sym (get_or-set_other place_of first.id (retired_at others k).id no_place no_place (λ same. waiting.once 0 (suc k) (omega arith) (omega arith) (sym same))) ∙ none);
  once = λ k m less lt. waiting.once (suc k) (suc m) (omega arith) (omega arith);
  rising = λ k m less lt. waiting.rising (suc k) (suc m) (omega arith) (omega arith);
}

pub cells_freed : (size : ℕ) (bytes place_of : List ℕ) (id : ℕ) → cells_in size bytes (set place_of id no_place) ≡ set (cells_in size bytes place_of) id None
cells_freed size bytes place_of id = map-set (cell_in_block size bytes) place_of id no_place

-- ---- a kept cell is written

pub cells_written : (size : ℕ) (bytes written place_of : List ℕ) (id : ℕ) (places : ℕ) (free : List ℕ) → IsAllotted places place_of free → Stands size bytes place_of id → ((m : ℕ) → m ≢ place_at place_of id → block_of size written m ≡ block_of size bytes m) → cells_in size written place_of ≡ set (cells_in size bytes place_of) id (Some (block_of size written (place_at place_of id)))
cells_written size bytes written place_of id places free allotted st elsewhere =
    cells_changed size bytes written (place_at place_of id) elsewhere place_of id st.given refl st.some (λ j lt other same. other (sym (allotted.apart id j st.some (sym same))))

pub overwritten_whole : (piece old : List ℕ) → length piece ≡ length old → overwritten_at 0 piece old ≡ piece
overwritten_whole piece old same = same_lists _ _ (search (rules, places)) (λ k d h. grind (arith, places))

-- ---- the oldest retirement

pub lowest_first : (place_of : List ℕ) (retired : List Retired) (one : Retired) → IsWaiting place_of retired → one ≡ get_or retired 0 one → IsLowestStamp retired one.stamp
lowest_first place_of [] one waiting first = λ k lt. absurd (omega arith)
lowest_first place_of (x ∷ others) one waiting first = rw first (below_all place_of x others waiting)
  where
    below_all : (place_of : List ℕ) (x : Retired) (others : List Retired) → IsWaiting place_of (x ∷ others) → IsLowestStamp (x ∷ others) x.stamp
    below_all place_of x others waiting zero lt = omega arith
    below_all place_of x others waiting (suc k) lt = waiting.rising 0 (suc k) (omega arith) lt
