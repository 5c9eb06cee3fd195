-- What is printed where two files are not compared.
use Rattle.std.specs.Prelude.{ℕ, ◌++◌, List, codes, decimal}
use Rattle.comparison.specs.Columns.{column_name}
use Rattle.comparison.specs.declared.fault.NoRows.{NoRows}
use Rattle.comparison.specs.declared.fault.NoRows.TheVariants as unread
use Rattle.comparison.specs.declared.fault.Unlike.{Unlike}
use Rattle.comparison.specs.declared.fault.Unlike.TheVariants.{JsonLines, Memory, NoReport, OtherRecords, WrongField}
use Rattle.comparison.specs.declared.fault.Which.{Which}
use Rattle.comparison.specs.declared.fault.Which.TheVariants.{First, Second}

-- the name of one of the two files
abbrev pub name_of : Which → List ℕ → List ℕ → List ℕ
name_of First first second = first
name_of Second first second = second

abbrev pub json_text : List ℕ → List ℕ
json_text name = codes "error: " ++ (name ++ codes " has JSON lines, and a report of CSV is needed\n")

abbrev pub no_report_text : List ℕ → ℕ → List ℕ
no_report_text name line = codes "error: " ++ (name ++ (codes " is no report of CSV: line " ++ (decimal line ++ codes "\n")))

abbrev pub named_field_text : List ℕ → ℕ → List ℕ → List ℕ
named_field_text name line column =
    codes "error: " ++ (name ++ (codes " is no report of CSV: line " ++ (decimal line ++ (codes ", column " ++ (column ++ codes "\n")))))

abbrev pub wrong_field_text : List ℕ → ℕ → ℕ → List ℕ
wrong_field_text name line column = named_field_text name line (column_name column)

abbrev pub no_rows_text : NoRows → List ℕ → List ℕ
no_rows_text unread.JsonLines name = json_text name
no_rows_text (unread.NoReport line) name = no_report_text name line
no_rows_text (unread.WrongField line column) name = wrong_field_text name line column
no_rows_text unread.Memory name = codes "fault 8 Memory\n"

abbrev pub others_text : List ℕ → List ℕ → ℕ → List ℕ
others_text first second record_number =
    codes "error: " ++ (first ++ (codes " and " ++ (second ++ (codes " are not of the same records: record "
    ++ (decimal record_number ++ codes " differs\n")))))

abbrev pub unlike_text : Unlike → List ℕ → List ℕ → List ℕ
unlike_text (JsonLines which) first second = json_text (name_of which first second)
unlike_text (NoReport which line) first second = no_report_text (name_of which first second) line
unlike_text (WrongField which line column) first second = wrong_field_text (name_of which first second) line column
unlike_text (OtherRecords record_number) first second = others_text first second record_number
unlike_text Memory first second = codes "fault 8 Memory\n"
