-- Counts of rows: by slot of time and class, and by class alone.
use Rattle.std.specs.Prelude.{ℕ, zero, suc, ◌+◌, ◌-◌, ◌*◌, ◌/◌, ◌==◌, ◌++◌, ◌∷◌, min, max, List, [], count_by, fold, if◌then◌else◌, length, map}
use Rattle.std.specs.Prelude.{nat_lt, slice_index}

-- ---- slots of time

-- the least and the greatest moment; of none 0
abbrev pub earliest : List ℕ → ℕ
earliest moments = fold min (slice_index moments 0) moments

abbrev pub latest : List ℕ → ℕ
latest moments = fold max 0 moments

-- how many microseconds a slot is long: sixty slots reach from the first moment to the last
abbrev pub slot_length : ℕ → ℕ → ℕ
slot_length first last = (last - first) / 60 + 1

-- the slot of a moment, where the slots begin at the first moment and are so long
abbrev pub time_slot : ℕ → ℕ → ℕ → ℕ
time_slot first long moment = min ((moment - first) / long) 59

abbrev pub time_slots : ℕ → ℕ → List ℕ → List ℕ
time_slots first long moments = map (λ moment. time_slot first long moment) moments

-- ---- counts

-- the cell of a slot and a class among so many classes; no cell for no class
abbrev pub cell_of_class : ℕ → ℕ → ℕ → ℕ
cell_of_class count slot class = if nat_lt class count then min slot 59 * count + class else 60 * count

-- the cells of the first N rows, by their slots and their classes
abbrev pub cells_until : ℕ → List ℕ → List ℕ → ℕ → List ℕ
cells_until count slots classes zero = []
cells_until count slots classes (suc place) =
    cells_until count slots classes place ++ (cell_of_class count (slice_index slots place) (slice_index classes place) ∷ [])

-- how many rows are in each of the first N cells
unfoldable pub counts_by_cell : List ℕ → ℕ → List ℕ
counts_by_cell cells zero = []
counts_by_cell cells (suc cell) = counts_by_cell cells cell ++ (count_by (λ other. other == cell) cells ∷ [])

-- how many rows of each class are in each slot, slot by slot
abbrev pub slot_counts : ℕ → List ℕ → List ℕ → List ℕ
slot_counts count slots classes = counts_by_cell (cells_until count slots classes (length slots)) (60 * count)
