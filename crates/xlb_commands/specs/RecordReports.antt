-- The report of a replay: a line for each record, in the capture's order, of what the replay says of it.
use Rattle.std.specs.Prelude.{◌≡◌, ℕ, zero, suc, ◌+◌, ◌*◌, ◌++◌, ◌∷◌, ◌||◌, Bool, true, false, List, [], Option, Some, None, codes, fold}
use Rattle.std.specs.Prelude.{is_none, length, map}
use Rattle.std.specs.Char.{to_ascii_lowercase}
use Rattle.std.specs.Prelude.{if◌then◌else◌, slice_get, slice_index_or}
use Rattle.wire.specs.declared.records.Sent.{Sent}
use Rattle.command_line.specs.declared.commands.ReplayFiles.{ReplayFiles}
use Rattle.semantics.specs.declared.verdict.Verdict.{Verdict}
use Rattle.semantics.specs.declared.verdict.Verdict.TheVariants as verdicts
use Rattle.control.specs.declared.command.Action.{Action}
use Rattle.control.specs.declared.command.Action.TheVariants.{Up}
use Rattle.control.specs.declared.command.Command.{Command}
use Rattle.actors.specs.declared.outcome.Outcome.{Outcome}
use Rattle.actors.specs.declared.outcome.ToldEnd.{ToldEnd}
use Rattle.actors.specs.declared.outcome.ToldEnd.TheVariants.{Short, Stopped, Exited}
use Rattle.traffic.specs.Counting.{address_at, one_if, target_of}
use Rattle.traffic.specs.Holders.{holder_among, holder_in, only_number}
use Rattle.traffic.specs.Kinds.{frame_kind_of}
use Rattle.traffic.specs.RecordLines.{case_word, choice_word, line_of_pieces, report_head}
use Rattle.traffic.specs.declared.backends.Backends.{Backends}
use Rattle.traffic.specs.declared.record_line.LineVerdict.{LineVerdict}
use Rattle.traffic.specs.declared.record_line.LineVerdict.TheVariants as words
use Rattle.traffic.specs.declared.record_line.ReportForm.{ReportForm}
use Rattle.traffic.specs.declared.record_line.ReportForm.TheVariants.{Csv, Json}
use Rattle.xlb_commands.specs.BackendsUp.{number_at, up_before}
use Rattle.xlb_commands.specs.Files.{FileBytes}
use Rattle.text_lines.specs.Lines.{finishes}

-- ---- the form

-- JSON if the name ends so, otherwise CSV
abbrev pub form_by : List ℕ → ReportForm
form_by name = if finishes name (codes ".json") || finishes name (codes ".jsonl") then Json else Csv

-- the form by the file's name, whose letters may be of either case
abbrev pub form_of : List ℕ → ReportForm
form_of name = form_by (map to_ascii_lowercase name)

-- ---- what became of a record

-- the worker that ran it
abbrev pub worker_in : ToldEnd → Option ℕ
worker_in Short = None
worker_in (Stopped worker) = Some worker
worker_in (Exited worker verdict steps) = Some worker

abbrev pub word_of_verdict : Verdict → LineVerdict
word_of_verdict verdicts.Aborted = words.Aborted
word_of_verdict verdicts.Drop = words.Drop
word_of_verdict verdicts.Pass = words.Pass
word_of_verdict verdicts.Tx = words.Tx

abbrev pub verdict_in : ToldEnd → LineVerdict
verdict_in Short = words.Short
verdict_in (Stopped worker) = words.Stopped
verdict_in (Exited worker verdict steps) = word_of_verdict verdict

-- in how many steps its run ended
abbrev pub steps_of_end : ToldEnd → Option ℕ
steps_of_end Short = None
steps_of_end (Stopped worker) = None
steps_of_end (Exited worker verdict steps) = Some steps

-- whether its frame was sent
abbrev pub is_tx : LineVerdict → Bool
is_tx words.Tx = true
is_tx other = false

abbrev pub is_sent : ToldEnd → Bool
is_sent end = is_tx (verdict_in end)

-- the replay runs the shipped program: no image is named. Of another program nobody knows by which rule it decides
abbrev pub runs_shipped : ReplayFiles → Bool
runs_shipped files = is_none files.image

-- by which case of the steering rule, if the program is the shipped one
abbrev pub case_in : Bool → List ℕ → ToldEnd → List ℕ
case_in true frame end = case_word (frame_kind_of frame) (verdict_in end)
case_in false frame end = []

-- how its backend was chosen, as the steps of its run say, if the program is the shipped one
abbrev pub choice_in : Bool → ToldEnd → List ℕ
choice_in true end = choice_word (verdict_in end) (steps_of_end end)
choice_in false end = []

-- ---- where it was sent

-- the address to which the tunnel of a sent frame leads
abbrev pub target_in : Option Sent → Option ℕ
target_in None = None
target_in (Some sent) = target_of sent.bytes.items

-- the same for a record that was sent as this frame
abbrev pub sent_address : ToldEnd → Option Sent → Option ℕ
sent_address end sent = if is_sent end then target_in sent else None

-- backends as (number, address), the newest first, with what a command names
abbrev pub named_by : List (ℕ × ℕ) → Action → List (ℕ × ℕ)
named_by older (Up backend address) = (backend, address_at 0 address.0) ∷ older
named_by older other = older

abbrev pub named_in : List (ℕ × ℕ) → Command → List (ℕ × ℕ)
named_in older command = named_by older command.action

-- the backends that a script names, the last one first
abbrev pub backends_in : List Command → List (ℕ × ℕ)
backends_in script = fold named_in [] script

-- a table has of each address which of these backends has it
abbrev pub HasNamed : Backends → List (ℕ × ℕ) → Type 0
HasNamed table backends = (address : ℕ) → holder_in table address ≡ holder_among address backends

-- the only number with which a script names an address
abbrev pub only_number_of : List Command → ℕ → Option ℕ
only_number_of script address = only_number (holder_among address (backends_in script))

abbrev pub first_of : Option ℕ → Option ℕ → Option ℕ
first_of (Some number) other = Some number
first_of None other = other

-- the backend with this address, for the record of this number: the only number with which the script names it; where there are several,
-- the one that is up there when the record's turn comes
abbrev pub backend_at : List Command → ℕ → Option ℕ → Option ℕ
backend_at script number None = None
backend_at script number (Some address) = first_of (only_number_of script address) (number_at (up_before number [] script) address)

-- ---- the lines

-- the line of a record, counted from 0: its number, counted from 1, its moment in microseconds, its worker, its verdict, its steps, the
-- case, the backend and the address, the flow of its frame, and how its backend was chosen
abbrev pub line_text : ReportForm → Bool → List Command → ℕ → Sent → ToldEnd → Option Sent → List ℕ
line_text form is_shipped script number captured end sent =
    line_of_pieces form (number + 1) (captured.seconds * 1000000 + captured.micros) (worker_in end) (verdict_in end) (steps_of_end end)
    (case_in is_shipped captured.bytes.items end) (backend_at script number (sent_address end sent)) (sent_address end sent)
    (choice_in is_shipped end) captured.bytes.items

-- what became of the record of this number
abbrev pub end_of : List ToldEnd → ℕ → ToldEnd
end_of ends number = slice_index_or ends number Short

-- how many of the first N records were sent: the place of the next one among the sent frames
abbrev pub sent_before : List ToldEnd → ℕ → ℕ
sent_before ends zero = 0
sent_before ends (suc number) = sent_before ends number + one_if (is_sent (end_of ends number))

-- the line of the record of this number behind the first ones, if there is one
abbrev pub line_of_record : ReportForm → Bool → List Command → ℕ → List ToldEnd → List Sent → ℕ → Option Sent → List ℕ
line_of_record form is_shipped script first ends sent number None = []
line_of_record form is_shipped script first ends sent number (Some captured) =
    line_text form is_shipped script (first + number) captured (end_of ends number) (slice_get sent (sent_before ends number))

-- the lines of N records behind the first ones
abbrev pub lines_until : ReportForm → Bool → List Command → ℕ → List Sent → List ToldEnd → List Sent → ℕ → List ℕ
lines_until form is_shipped script first records ends sent zero = []
lines_until form is_shipped script first records ends sent (suc number) =
    lines_until form is_shipped script first records ends sent number
    ++ line_of_record form is_shipped script first ends sent number (slice_get records number)

-- the head, and the lines of all records
abbrev pub report_text : ReportForm → Bool → List Command → List Sent → List ToldEnd → List Sent → List ℕ
report_text form is_shipped script records ends sent =
    report_head form ++ lines_until form is_shipped script 0 records ends sent (length records)

-- where a file is named for it, it has the report
abbrev pub IsReportFile : FileBytes → Option (List ℕ) → Bool → List Command → List Sent → Outcome → Type 0
IsReportFile files None is_shipped script records outcome = Unit {0}
IsReportFile files (Some name) is_shipped script records outcome =
    files name (report_text (form_of name) is_shipped script records outcome.ends.items outcome.sent.items)
