-- What the maps hold at the end of a run or a replay, as its file has it.
use Rattle.std.specs.Prelude.{◌≡◌, ℕ, List, [], Option, Some, None, String, string_bytes}
use Rattle.journals.specs.JournalsView.{JournalsView}
use Rattle.traffic.specs.declared.record_line.ReportForm.{ReportForm}
use Rattle.traffic.specs.declared.record_line.ReportForm.TheVariants as reports
use Rattle.map_meanings.specs.declared.form.ContentsForm.{ContentsForm}
use Rattle.map_meanings.specs.declared.form.ContentsForm.TheVariants.{Words, Json}
use Rattle.map_contents.specs.ContentsText.{IsContentsText}
use Rattle.xlb_commands.specs.Files.{FileBytes}
use Rattle.xlb_commands.specs.RecordReports.{form_of}

-- the bytes of the lines, where they were made
abbrev pub lines_bytes : {Z : Type 0} → Option (String Z) → List ℕ
lines_bytes None = []
lines_bytes (Some lines) = string_bytes lines

-- JSON where a report is, and words where that is CSV
abbrev pub form_beside : ReportForm → ContentsForm
form_beside reports.Csv = Words
form_beside reports.Json = Json

-- the form by the file's name
abbrev pub maps_form : List ℕ → ContentsForm
maps_form name = form_beside (form_of name)

-- where a file is named for them, these are the lines of all that is in the maps after the calls of the journals
abbrev pub AreMapsLines : Option (List ℕ) → JournalsView → List ℕ → Type 0
AreMapsLines name journals lines = (file : List ℕ) → name ≡ Some file → IsContentsText (maps_form file) journals lines

-- the file has them, where one is named
abbrev pub AreMapsWritten : FileBytes → Option (List ℕ) → JournalsView → Type 0
AreMapsWritten files (Some name) journals = (lines : List ℕ) × files name lines × IsContentsText (maps_form name) journals lines
AreMapsWritten files None journals = Unit {0}
