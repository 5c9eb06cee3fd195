-- The rows of a report whose rows are those of records 1, 2, 3 and so on.
use Rattle.std.specs.Prelude.{◌≡◌, ℕ, ◌+◌, ◌<◌, ◌≤◌, ◌⊎◌, Bool, true, false, List, decimal, length}
use Rattle.std.specs.Str.{bytes_eq}
use Rattle.comparison.specs.Columns.{number_column}
use Rattle.comparison.specs.Rows.{BeginsAsJson, IsNoReport, IsReport, field, row_at}
use Rattle.comparison.specs.declared.fault.NoRows.{NoRows}
use Rattle.comparison.specs.declared.fault.NoRows.TheVariants as unread
use Rattle.flows.specs.declared.fault.NoFlows.{NoFlows}
use Rattle.flows.specs.declared.fault.NoFlows.TheVariants.{JsonLines, LeftOut, Memory, NoReport, WrongField}

-- the row at this place, counted from 0, is that of the record with this place: records are counted from 1
abbrev pub is_in_place : List (List ℕ) → ℕ → Bool
is_in_place rows place = bytes_eq (field number_column (row_at rows place)) (decimal (place + 1))

-- the first N rows are those of the first N records
abbrev pub AreInPlace : List (List ℕ) → ℕ → Type 0
AreInPlace rows count = (place : ℕ) → place < count → is_in_place rows place ≡ true

-- the first N rows are those of the first N records, and the next one, if there is one, is not that of the next record
pub record IsCountInPlace (rows : List (List ℕ)) (count : ℕ) : Type 0 where
  pub within : count ≤ length rows
  pub in_place : AreInPlace rows count
  pub next : (count ≡ length rows) ⊎ (is_in_place rows count ≡ false)

-- the bytes are a report with these rows, which are those of records 1, 2, 3 and so on without a gap; whether rows are missing behind the
-- last one does not show
pub record IsGapless (bytes : List ℕ) (rows : List (List ℕ)) : Type 0 where
  pub report : IsReport bytes rows
  pub in_place : AreInPlace rows (length rows)

-- why the flows of a file are not told whose rows are not read
abbrev pub refusal_of : NoRows → NoFlows
refusal_of unread.JsonLines = JsonLines
refusal_of (unread.NoReport line) = NoReport line
refusal_of (unread.WrongField line column) = WrongField line column
refusal_of unread.Memory = Memory

-- Why the flows of a report are not told: the bytes begin as JSON lines do; they are no report of CSV, as a line shows; they are one, but the row on this line is not that of the next record; or memory was refused.
pub data AreFlowsRefused (bytes : List ℕ) (refusal : NoFlows) : Type 0 where
  is_json : BeginsAsJson bytes → refusal ≡ JsonLines → AreFlowsRefused bytes refusal
  is_no_report : (none : NoRows) → ¬ BeginsAsJson bytes → IsNoReport bytes none → refusal ≡ refusal_of none → AreFlowsRefused bytes refusal
  is_left_out : (rows : List (List ℕ)) (count : ℕ) → IsReport bytes rows → IsCountInPlace rows count → count < length rows
      → refusal ≡ LeftOut (2 + count) → AreFlowsRefused bytes refusal
  no_memory : refusal ≡ Memory → AreFlowsRefused bytes refusal
