-- Two reports compared.
use Rattle.std.specs.Prelude.{◌≡◌, ℕ, ◌+◌, ◌<◌, ◌⊎◌, not, ◌==◌, Bool, List, String, length}
use Rattle.comparison.specs.declared.fault.Unlike.{Unlike}
use Rattle.comparison.specs.declared.fault.Unlike.TheVariants as unlikes
use Rattle.comparison.specs.declared.fault.NoRows.{NoRows}
use Rattle.comparison.specs.declared.fault.NoRows.TheVariants.{JsonLines, Memory, NoReport, WrongField}
use Rattle.comparison.specs.declared.fault.Which.{Which}
use Rattle.comparison.specs.declared.fault.Which.TheVariants.{First, Second}
use Rattle.std.specs.declared.alloc.Global.{Global}
use Rattle.comparison.specs.Rows.{IsReport, IsUnread}
use Rattle.comparison.specs.Changes.{AreSameRecords, IsSharedCount, changed_until}
use Rattle.comparison.specs.Kinds.{AreKindsOf}
use Rattle.comparison.specs.ComparisonText.{comparison_text}

-- the places of the records that are treated differently
abbrev pub changed_in : List (List ℕ) → List (List ℕ) → List ℕ
changed_in first second = changed_until first second (length first)

-- the text is that of these rows; and whether a record is treated differently
pub record AreRowsCompared (first second : List (List ℕ)) (text : List ℕ) (differs : Bool) : Type 0 where
  pub kinds : List (String Global × ℕ)
  pub kinds_are : AreKindsOf first second (changed_in first second) kinds
  pub text_is : text ≡ comparison_text first second (changed_in first second) kinds
  pub differs_is : differs ≡ not (length (changed_in first second) == 0)

-- the rows are of the same records, and the text is theirs; and whether a record is treated differently
pub record AreAlike (first second : List (List ℕ)) (text : List ℕ) (differs : Bool) : Type 0 where
  pub as_many : length first ≡ length second
  pub same : AreSameRecords first second (length first)
  pub compared : AreRowsCompared first second text differs

-- the rows are not of the same records, which first shows at this one, counted from 1; or memory was refused
pub data AreOthers (first second : List (List ℕ)) (unlike : Unlike) : Type 0 where
  of_others : (count : ℕ) → IsSharedCount first second count → (count < length first) ⊎ (count < length second)
      → unlike ≡ unlikes.OtherRecords (count + 1) → AreOthers first second unlike
  not_compared : unlike ≡ unlikes.Memory → AreOthers first second unlike

-- the files are reports of the same records, and the text is theirs; and whether a record is treated differently
pub record AreCompared (first second text : List ℕ) (differs : Bool) : Type 0 where
  pub first_rows : List (List ℕ)
  pub second_rows : List (List ℕ)
  pub first_report : IsReport first first_rows
  pub second_report : IsReport second second_rows
  pub alike : AreAlike first_rows second_rows text differs

-- why two files are not compared, where this one of them is not read
abbrev pub unlike_of : Which → NoRows → Unlike
unlike_of which JsonLines = unlikes.JsonLines which
unlike_of which (NoReport line) = unlikes.NoReport which line
unlike_of which (WrongField line column) = unlikes.WrongField which line column
unlike_of which Memory = unlikes.Memory

-- why two files are not compared, whose this one has these bytes: it was not read
abbrev pub IsFileUnread : Which → List ℕ → Unlike → Type 0
IsFileUnread which bytes unlike = (none : NoRows) × IsUnread bytes none × (unlike ≡ unlike_of which none)

-- why two files are not compared: the first was not read; the first is a report, and the second was not read; or their rows are not of the
-- same records, or memory was refused
pub data IsUnlike (first second : List ℕ) (unlike : Unlike) : Type 0 where
  first_unread : IsFileUnread First first unlike → IsUnlike first second unlike
  second_unread : (first_rows : List (List ℕ)) → IsReport first first_rows → IsFileUnread Second second unlike → IsUnlike first second unlike
  not_alike : (first_rows second_rows : List (List ℕ)) → IsReport first first_rows → IsReport second second_rows
      → AreOthers first_rows second_rows unlike → IsUnlike first second unlike
