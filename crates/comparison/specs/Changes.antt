-- What is compared of the rows of two reports: which records they are of, and which of these were treated differently.
use Rattle.std.specs.Prelude.{◌≡◌, ℕ, zero, suc, ◌<◌, ◌≤◌, ◌++◌, ◌∷◌, ◌&&◌, ◌||◌, ◌==◌, ◌⊎◌, not, Bool, true, false, List, [], codes, if◌then◌else◌}
use Rattle.std.specs.Prelude.{length}
use Rattle.std.specs.Str.{bytes_eq}
use Rattle.comparison.specs.Columns.{number_column, moment_column, verdict_column, case_column, backend_column, address_column}
use Rattle.comparison.specs.Columns.{source_column, protocol_column}
use Rattle.comparison.specs.Rows.{field, fields_between, row_at}

-- the rows are of one record: they have its number, its moment and its flow
abbrev pub is_same_record : List ℕ → List ℕ → Bool
is_same_record first second =
    bytes_eq (field number_column first) (field number_column second)
    && (bytes_eq (field moment_column first) (field moment_column second)
    && bytes_eq (fields_between source_column protocol_column first) (fields_between source_column protocol_column second))

-- the first N rows are of the same records
abbrev pub AreSameRecords : List (List ℕ) → List (List ℕ) → ℕ → Type 0
AreSameRecords first second count = (place : ℕ) → place < count → is_same_record (row_at first place) (row_at second place) ≡ true

-- the first N rows are of the same records, and behind these one report ends, or two rows are not of one record
pub record IsSharedCount (first second : List (List ℕ)) (count : ℕ) : Type 0 where
  pub within_first : count ≤ length first
  pub within_second : count ≤ length second
  pub same : AreSameRecords first second count
  pub next : (count ≡ length first) ⊎ ((count ≡ length second) ⊎ (is_same_record (row_at first count) (row_at second count) ≡ false))

-- two records are of one case, or the case of one of them is not known: a report of another program than the shipped one has none
abbrev pub is_same_case : List ℕ → List ℕ → Bool
is_same_case first second = length first == 0 || (length second == 0 || bytes_eq first second)

-- the records are treated differently: with another verdict, by another case, or sent to another backend or address; the number of steps
-- and how the backend was chosen may differ
abbrev pub is_changed : List ℕ → List ℕ → Bool
is_changed first second =
    not (bytes_eq (field verdict_column first) (field verdict_column second) && is_same_case (field case_column first) (field case_column second)
    && (bytes_eq (field backend_column first) (field backend_column second) && bytes_eq (field address_column first) (field address_column second)))

abbrev pub is_changed_at : List (List ℕ) → List (List ℕ) → ℕ → Bool
is_changed_at first second place = is_changed (row_at first place) (row_at second place)

-- those of the first N records that are treated differently, by their places, counted from 0
abbrev pub changed_until : List (List ℕ) → List (List ℕ) → ℕ → List ℕ
changed_until first second zero = []
changed_until first second (suc place) =
    changed_until first second place ++ (if is_changed_at first second place then place ∷ [] else [])

-- ---- in words

-- a field behind a blank, if it is not empty
abbrev pub spaced : List ℕ → List ℕ
spaced [] = []
spaced (byte ∷ more) = codes " " ++ (byte ∷ more)

-- how a record is treated: its verdict, case, backend and address
abbrev pub treatment : List ℕ → List ℕ
treatment row = field verdict_column row ++ (spaced (field case_column row) ++ (spaced (field backend_column row) ++ spaced (field address_column row)))

-- from which treatment to which
abbrev pub change_text : List ℕ → List ℕ → List ℕ
change_text first second = codes "from " ++ (treatment first ++ (codes " to " ++ treatment second))

abbrev pub change_at : List (List ℕ) → List (List ℕ) → ℕ → List ℕ
change_at first second place = change_text (row_at first place) (row_at second place)
