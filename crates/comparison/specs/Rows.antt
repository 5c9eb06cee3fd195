-- The rows of a report of CSV (RFC 4180): a head, and a line for each record, with its fields between commas.
use Rattle.std.specs.Prelude.{◌≡◌, ◌≢◌, ℕ, zero, suc, ◌+◌, ◌-◌, ◌<◌, ◌≤◌, ◌==◌, ◌++◌, ◌⊎◌, ◌∷◌, ◌&&◌, Bool, true, false, List, [], codes, count_by}
use Rattle.std.specs.Prelude.{if◌then◌else◌, length, option_map, slice_index_or, take, unwrap_or}
use Rattle.std.specs.List.{after_first, before_first, slice_split}
use Rattle.std.specs.Path.{rfind_below}
use Rattle.text_lines.specs.NoText.{IsNoText}
use Rattle.comparison.specs.Columns.{column_count, is_field}
use Rattle.comparison.specs.declared.fault.NoRows.{NoRows}
use Rattle.comparison.specs.declared.fault.NoRows.TheVariants.{JsonLines, Memory, NoReport, WrongField}

-- ---- lines

-- what comes before the first line of a record
abbrev pub head_line : List ℕ
head_line =
    codes "number,moment,worker,verdict,steps,case,backend,address,source,source_port,destination,destination_port,protocol,choice\n"

-- the parts of a text between marks
abbrev pub parts_between : ℕ → List ℕ → List (List ℕ)
parts_between mark text = slice_split (λ b. b == mark) text

-- the parts of a text between its line feeds
abbrev pub lines_of : List ℕ → List (List ℕ)
lines_of text = parts_between 10 text

-- the lines that a line feed ends, and what comes behind the last line feed
abbrev pub ended_lines : List (List ℕ) → List (List ℕ)
ended_lines lines = take (length lines - 1) lines

abbrev pub last_line : List (List ℕ) → List ℕ
last_line lines = slice_index_or lines (length lines - 1) []

-- ---- fields

-- a line has as many fields as there are columns, with commas between them
abbrev pub has_fields : List ℕ → Bool
has_fields line = count_by (λ b. b == 44) line == column_count - 1

-- what is before the first comma, or all; and what comes after it
abbrev pub first_field : List ℕ → List ℕ
first_field line = before_first (λ b. b == 44) line

abbrev pub later_fields : List ℕ → List ℕ
later_fields line = after_first (λ b. b == 44) line

-- the fields from this one on, counted from 0
abbrev pub fields_from : ℕ → List ℕ → List ℕ
fields_from zero line = line
fields_from (suc place) line = later_fields (fields_from place line)

-- what is before the last comma, or nothing
abbrev pub earlier_fields : List ℕ → List ℕ
earlier_fields line = unwrap_or (option_map (λ end. take end line) (rfind_below 44 line (length line))) []

-- a row without its last N fields
abbrev pub without_last : ℕ → List ℕ → List ℕ
without_last zero line = line
without_last (suc count) line = earlier_fields (without_last count line)

-- the fields of a row from the first one of these columns to the second one, which is among them
abbrev pub fields_between : ℕ → ℕ → List ℕ → List ℕ
fields_between first last row = fields_from first (without_last (column_count - 1 - last) row)

abbrev pub field : ℕ → List ℕ → List ℕ
field place line = first_field (fields_from place line)

-- one field more, where so many from the first one on are what their columns say
abbrev pub with_field : ℕ → ℕ → List ℕ → ℕ
with_field count place text = if count == place && is_field place text then place + 1 else count

-- how many of the first N fields, from the first one on, are what their columns say
unfoldable pub right_fields : List ℕ → ℕ → ℕ
right_fields line zero = 0
right_fields line (suc place) = with_field (right_fields line place) place (field place line)

-- a line has the fields of a record
abbrev pub is_row : List ℕ → Bool
is_row line = has_fields line && right_fields line column_count == column_count

-- ---- reports

-- the line at this place, counted from 0
abbrev pub row_at : List (List ℕ) → ℕ → List ℕ
row_at rows place = slice_index_or rows place []

-- the first N lines are rows
abbrev pub AreRows : List (List ℕ) → ℕ → Type 0
AreRows lines count = (place : ℕ) → place < count → is_row (row_at lines place) ≡ true

-- the bytes are a report with these rows: the head, and each row with a line feed at its end
pub record IsReport (bytes : List ℕ) (rows : List (List ℕ)) : Type 0 where
  pub rest : List ℕ
  pub begins : bytes ≡ head_line ++ rest
  pub rows_are : rows ≡ ended_lines (lines_of rest)
  pub ended : length (last_line (lines_of rest)) ≡ 0
  pub are_rows : AreRows rows (length rows)

-- this many first lines are rows, and the next one is none
pub record IsRowCount (lines : List (List ℕ)) (count : ℕ) : Type 0 where
  pub within : count ≤ length lines
  pub are_rows : AreRows lines count
  pub next : (count ≡ length lines) ⊎ (is_row (row_at lines count) ≡ false)

-- why a line, counted from 1, is no row: it has another number of fields, or this one is not what its column says, the first such
abbrev pub why_no_row : List ℕ → ℕ → NoRows
why_no_row row line = if has_fields row then WrongField line (right_fields row column_count) else NoReport line

-- The bytes are no report, and why, with the first line that shows it, counted from 1: they are no text from there on; they do not begin with
-- the head; or the line is no row, or lacks its line feed.
pub data IsNoReport (bytes : List ℕ) (none : NoRows) : Type 0 where
  no_text : (line : ℕ) → IsNoText bytes line → none ≡ NoReport line → IsNoReport bytes none
  no_head : ((rest : List ℕ) → bytes ≢ head_line ++ rest) → none ≡ NoReport 1 → IsNoReport bytes none
  no_row : (rest : List ℕ) (count : ℕ) → bytes ≡ head_line ++ rest → IsRowCount (ended_lines (lines_of rest)) count
      → (count ≡ length (ended_lines (lines_of rest)) → length (last_line (lines_of rest)) ≢ 0)
      → none ≡ why_no_row (row_at (ended_lines (lines_of rest)) count) (2 + count) → IsNoReport bytes none

-- the bytes begin as JSON lines do
abbrev pub BeginsAsJson : List ℕ → Type 0
BeginsAsJson bytes = (rest : List ℕ) × (bytes ≡ 123 ∷ rest)

-- why the rows of a file were not read: it has JSON lines; it is no report; or memory was refused
pub data IsUnread (bytes : List ℕ) (none : NoRows) : Type 0 where
  is_json : BeginsAsJson bytes → none ≡ JsonLines → IsUnread bytes none
  is_no_report : ¬ BeginsAsJson bytes → IsNoReport bytes none → IsUnread bytes none
  no_memory : none ≡ Memory → IsUnread bytes none
