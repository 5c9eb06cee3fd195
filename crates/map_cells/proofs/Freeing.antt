-- Freeing the oldest cell below the floor leaves what is to be freed after it; past the floor nothing is.
use Rattle.std.proofs.Common.{◌≡◌, ℕ, suc, ◌+◌, ◌<◌, ◌≤◌, true, false, not, List, [], ◌∷◌, length, filter, Option, Some, refl, ap, arith, lt-ltb, le-ltb, inl, inr}
use Rattle.std.proofs.lemmas.Bool.{cases_Bool}
use Rattle.map_cells.specs.declared.retired.Retired.{Retired}
use Rattle.map_cells.specs.CellTable.{CellTable, is_below, freed_below, without_oldest, oldest_stamp, IsLowestStamp, retired_at}

module _ (floor size places ids free : ℕ) (cells : List (Option (List ℕ))) where
  abbrev table_of : List Retired → CellTable
  table_of retired = record { value_size = size; places = places; ids = ids; free = free; cells = cells; retired = retired }

  step_count : (retired : List Retired) (stamp : ℕ) → Some stamp ≡ oldest_stamp retired → stamp < floor → length (filter (is_below floor) retired) ≡ length (filter (is_below floor) (without_oldest (table_of retired)).retired) + 1
  step_count [] stamp first below = absurd (cc first)
  step_count (one ∷ others) stamp first below =
      let same : stamp ≡ one.stamp = cc first in
      let is : is_below floor one ≡ true = lt-ltb one.stamp floor (omega (arith, same, below)) in
      rw is (omega arith)

  step_table : (retired : List Retired) (stamp : ℕ) → Some stamp ≡ oldest_stamp retired → stamp < floor → freed_below floor (without_oldest (table_of retired)) ≡ freed_below floor (table_of retired)
  step_table [] stamp first below = absurd (cc first)
  step_table (one ∷ others) stamp first below =
      let same : stamp ≡ one.stamp = cc first in
      let is : is_below floor one ≡ true = lt-ltb one.stamp floor (omega (arith, same, below)) in
      let count : free + 1 + length (filter (is_below floor) others) ≡ free + suc (length (filter (is_below floor) others)) = omega arith in
      rw (is, count) refl

past_none : (floor : ℕ) (retired : List Retired) → ((k : ℕ) → k < length retired → floor ≤ (retired_at retired k).stamp) → filter (is_below floor) retired ≡ []
past_none floor [] past = refl
past_none floor (one ∷ others) past =
    let is : is_below floor one ≡ false = le-ltb one.stamp floor (past 0 (omega arith)) in
    rw is (past_none floor others (λ k lt. past (suc k) (omega arith)))

past_all : (floor : ℕ) (retired : List Retired) → ((k : ℕ) → k < length retired → floor ≤ (retired_at retired k).stamp) → filter (λ one. not (is_below floor one)) retired ≡ retired
past_all floor [] past = refl
past_all floor (one ∷ others) past =
    let is : is_below floor one ≡ false = le-ltb one.stamp floor (past 0 (omega arith)) in
    rw is (ap (λ rest. one ∷ rest) (past_all floor others (λ k lt. past (suc k) (omega arith))))

pub freed_step : (floor : ℕ) (table : CellTable) (stamp : ℕ) → Some stamp ≡ oldest_stamp table.retired → stamp < floor → (length (filter (is_below floor) table.retired) ≡ length (filter (is_below floor) (without_oldest table).retired) + 1) × (freed_below floor (without_oldest table) ≡ freed_below floor table)
freed_step floor table stamp first below = (
  step_count floor table.value_size table.places table.ids table.free table.cells table.retired stamp first below,
  step_table floor table.value_size table.places table.ids table.free table.cells table.retired stamp first below,
)

pub freed_stop : (floor : ℕ) (table : CellTable) (stamp : ℕ) → IsLowestStamp table.retired stamp → floor ≤ stamp → (length (filter (is_below floor) table.retired) ≡ 0) × (freed_below floor table ≡ table)
freed_stop floor table stamp lowest past =
    let all : (k : ℕ) → k < length table.retired → floor ≤ (retired_at table.retired k).stamp = λ k lt. (let least = lowest k lt in omega (arith, least, past)) in
    let none = past_none floor table.retired all in
    let kept = past_all floor table.retired all in
    let count : table.free + 0 ≡ table.free = omega arith in
    (rw none refl, rw (none, kept, count) refl)

pub filter_shorter : (floor : ℕ) (retired : List Retired) → length (filter (is_below floor) retired) ≤ length retired
filter_shorter floor [] = omega arith
filter_shorter floor (one ∷ others) = let rest = filter_shorter floor others in elim (cases_Bool (is_below floor one)) [
  | inl is ↦ rw is (omega (arith, rest))
  | inr is ↦ rw is (omega (arith, rest))
]
