-- What it means that a replay is done: the files that it read and wrote, and its report.
use Rattle.std.specs.Prelude.{◌≡◌, ◌≢◌, ◌↔◌, ◌⊎◌, ◌<◌, ◌+◌, ◌++◌, ◌∷◌, ℕ, Bool, true, false, List, [], Option, Some, None}
use Rattle.std.specs.Prelude.{IsTrue, codes, decimal, length, string_bytes}
use Rattle.std.specs.List.{AllByRecursion, flat_map}
use Rattle.ebpf_decode.specs.ImageContents.{Contents}
use Rattle.ebpf_decode.specs.declared.map.MapDef.{MapDef}
use Rattle.semantics.specs.declared.options.Options.{Options}
use Rattle.semantics.specs.declared.options.Recording.{Recording}
use Rattle.semantics.specs.declared.options.Recording.TheVariants.{Rows, NoRows}
use Rattle.semantics.specs.ShardPlan.{are_served_options, recorded}
use Rattle.semantics.specs.Program.{Program}
use Rattle.verifier.specs.Dataflow.{Accepts}
use Rattle.verifier.specs.Readers.{IsReader}
use Rattle.verifier.specs.Verified.{Verified}
use Rattle.byteorder.specs.Endian.{little_bytes}
use Rattle.wire.specs.CaptureFormat.{IsCaptureFile, capture_bytes, header_bytes}
use Rattle.wire.specs.declared.records.Sent.{Sent}
use Rattle.maglev.specs.RingSize.{IsRingSize}
use Rattle.conntrack.specs.SteeringMaps.{IsNoteCount}
use Rattle.steer.specs.ShippedProgram.{sized_image}
use Rattle.control.specs.declared.command.Command.{Command}
use Rattle.control.specs.declared.fault.ControlFault.{ControlFault}
use Rattle.control.specs.FaultNumber.{control_fault_number}
use Rattle.control.specs.ScriptText.{IsScriptText}
use Rattle.map_updates.specs.Misfits.{AreFitting}
use Rattle.map_updates.specs.declared.update.MapUpdate.{MapUpdate}
use Rattle.journals.specs.JournalsView.{JournalsView}
use Rattle.journals.specs.JournalText.{journals_text}
use Rattle.journals.specs.JournalReading.{IsJournalsFile}
use Rattle.journals.specs.LegalJournals.{AreLegal}
use Rattle.semantics.specs.Replay.{Captured}
use Rattle.actors.specs.declared.account.Counts.{Counts}
use Rattle.actors.specs.Accounts.{frames_in}
use Rattle.actors.specs.declared.outcome.Applied.{Applied}
use Rattle.actors.specs.declared.outcome.Outcome.{Outcome}
use Rattle.actors.specs.Accounted.{IsAccounted}
use Rattle.machine.specs.Running.{program_of}
use Rattle.guarantees.specs.HeadlineOf.{HeadlineOf}
use Rattle.guarantees.specs.ReaderReplays.{all_sent_at_opening}
use Rattle.guarantees.specs.ReplayOf.{asked_of}
use Rattle.guarantees.specs.SystemRuns.{setting_of}
use Rattle.guarantees.specs.TurnByTurn.{IsTurnByTurn}
use Rattle.replay.specs.ExactReplays.{starts_in}
use Rattle.replay.specs.TurnOrder.{IsInTurnOrder}
use Rattle.replay.specs.Turns.{all_turns}
use Rattle.steered_replays.specs.SteeredRuns.{IsSteeredReplay}
use Rattle.steered_replays.specs.StickyReplays.{FlowsStay}
use Rattle.steered_replays.specs.TablesAtEnd.{AreServices, AreTablesAtEnd, MetNoFullJournal, carried_out, maps_at_end}
use Rattle.steered_replays.specs.Totals.{AreTotals}
use Rattle.capture_readings.specs.Readings.{AreCaptureBytes}
use Rattle.capture_readings.specs.declared.readings.Reading.{Reading}
use Rattle.fleet.specs.declared.part.Part.{Part}
use Rattle.command_line.specs.declared.commands.ReplayFiles.{ReplayFiles}
use Rattle.command_line.specs.declared.commands.ReplaySettings.{ReplaySettings}
use Rattle.command_line.specs.declared.commands.Reading.{Reading as AskedReading}
use Rattle.command_line.specs.Reading.{text_of}
use Rattle.xlb_commands.specs.declared.report.Report.{Report}
use Rattle.xlb_commands.specs.Files.{FileBytes, IsImageFile}
use Rattle.xlb_commands.specs.EndMaps.{AreMapsLines, AreMapsWritten, lines_bytes}
use Rattle.xlb_commands.specs.Parts.{records_in, script_in}
use Rattle.xlb_commands.specs.RecordReports.{IsReportFile, runs_shipped}

-- ---- what is read

-- the flow table and the lookup table have sizes that are served
abbrev pub AreServedSizes : ℕ → ℕ → Type 0
AreServedSizes flows ring = IsNoteCount flows × IsRingSize ring

-- the image of the file, or where none is named the shipped one for a flow table of so many notes and a lookup table of N slots
abbrev pub IsProgramOf : FileBytes → Option (List ℕ) → ℕ → ℕ → Contents → Type 0
IsProgramOf files (Some name) flows ring image = IsImageFile files name image
IsProgramOf files None flows ring image = image ≡ sized_image flows ring

-- the file's text is that of the script
pub record IsScriptFile (files : FileBytes) (name : List ℕ) (script : List Command) : Type 0 where
  pub bytes : List ℕ
  pub read : files name bytes
  pub spelled : IsScriptText bytes script

-- the script of the file, or where none is named that of no commands
abbrev pub IsScriptOf : FileBytes → Option (List ℕ) → List Command → Type 0
IsScriptOf files (Some name) script = IsScriptFile files name script
IsScriptOf files None script = IsScriptText [] script

-- the bytes are under this reading a capture of these records
pub record IsCaptureIn (reading : Reading) (bytes : List ℕ) (records : List Sent) : Type 0 where
  pub left : List ℕ
  pub left_are : AreCaptureBytes reading bytes left
  pub spelled : IsCaptureFile left records

-- the file is under this reading a capture of these records
pub record IsCaptureOf (files : FileBytes) (reading : Reading) (name : List ℕ) (records : List Sent) : Type 0 where
  pub bytes : List ℕ
  pub read : files name bytes
  pub spelled : IsCaptureIn reading bytes records

-- ---- what is written

-- the file has these bytes, where one is named
abbrev pub HasBytes : FileBytes → Option (List ℕ) → List ℕ → Type 0
HasBytes files (Some name) bytes = files name bytes
HasBytes files None bytes = Unit {0}

-- the text of the journals is their file, for these maps, and each is legal: an audit accepts them
pub record AreAccepted (maps : List MapDef) (journals : JournalsView) : Type 0 where
  pub spelled : IsJournalsFile maps (journals_text journals) journals
  pub legal : AreLegal journals

-- the file has the text of the journals, where one is named
abbrev pub AreWritten : FileBytes → Option (List ℕ) → JournalsView → Type 0
AreWritten files name journals = HasBytes files name (journals_text journals)

-- ---- the report

-- the lines of frames that have no verdict
abbrev pub frames_lines : ℕ → ℕ → ℕ → List ℕ
frames_lines frames short stopped =
    codes "frames " ++ (decimal frames ++ (codes "\nshort " ++ (decimal short ++ (codes "\nstopped " ++ (decimal stopped ++ codes "\n")))))

-- the lines of those that have one
abbrev pub verdicts_lines : ℕ → ℕ → ℕ → ℕ → List ℕ
verdicts_lines aborted drop pass tx =
    codes "aborted " ++
    (decimal aborted ++ (codes "\ndrop " ++ (decimal drop ++ (codes "\npass " ++
    (decimal pass ++ (codes "\ntx " ++ (decimal tx ++ codes "\n")))))))

abbrev pub counts_text : Counts → List ℕ
counts_text c = frames_lines (frames_in c) c.short c.stopped ++ verdicts_lines c.aborted c.drop c.pass c.tx

-- the line of a command, counted from 1, that was refused for a fault of this number
abbrev pub refusal_line : ℕ → ℕ → List ℕ
refusal_line command fault = codes "command " ++ (decimal command ++ (codes " refused " ++ (decimal fault ++ codes "\n")))

-- the line of a command, counted from 0, if it was refused
abbrev pub refusal_text_of : ℕ → Option ControlFault → List ℕ
refusal_text_of command None = []
refusal_text_of command (Some fault) = refusal_line (command + 1) (control_fault_number fault)

-- the lines of those that were refused
abbrev pub refusals_text : List Applied → List ℕ
refusals_text refused = flat_map (λ (one : Applied). refusal_text_of one.command one.fault) refused

-- ---- a replay

-- whether rows of journals are kept: where they are not wanted, and no file is named for them, they are not
abbrev pub recording_of : Bool → Option (List ℕ) → Recording
recording_of true None = NoRows
recording_of true (Some name) = Rows
recording_of false name = Rows

abbrev pub recording_in : ReplaySettings → Recording
recording_in asked = recording_of asked.no_journals (text_of asked.files.journals)

-- how the bytes of its capture are read
abbrev pub capture_reading : AskedReading → Reading
capture_reading asked = record { skip_long = asked.skip_long; pad_cut = asked.pad_cut; allow_cut = asked.allow_cut }

-- the image that was verified
abbrev pub image_of : Verified → Contents
image_of verified = record { version = verified.version; maps = verified.maps; code = verified.code }

-- the image's program over maps of N shards each
abbrev pub program_of_replay : Contents → Options → Program
program_of_replay image options = record { code = image.code; maps = image.maps; shards = options.shards }

-- each run followed the steering rule; flows stayed with their backends; where no run was stopped, the counts in the maps are those of the
-- report; and where no command met a full journal, the tables and the services at the end are those that the commands left
pub record IsByRule (ring : ℕ) (program : Program) (script : List Command) (options : Options) (records : List Sent) (outcome : Outcome)
    (accounted : IsAccounted program script options records outcome) : Type 0 where
  pub runs : IsSteeredReplay ring program script options records outcome accounted
  pub stay : FlowsStay program script options records outcome accounted
  pub totals : outcome.counts.stopped ≡ 0 → AreTotals outcome
  pub tables : MetNoFullJournal outcome.refused.items →
      AreTablesAtEnd ring (carried_out outcome.refused.items 0 script) (maps_at_end outcome.journals)
  pub services : MetNoFullJournal outcome.refused.items →
      AreServices (carried_out outcome.refused.items 0 script) (maps_at_end outcome.journals)

-- this holds of the shipped program, which runs where no image is named; of another image nothing is said
abbrev pub FollowsRule : Option (List ℕ) → ℕ → (program : Program) (script : List Command) (options : Options) (records : List Sent)
    (outcome : Outcome) → IsAccounted program script options records outcome → Type 0
FollowsRule (Some name) ring program script options records outcome accounted = Unit {0}
FollowsRule None ring program script options records outcome accounted = IsByRule ring program script options records outcome accounted

-- the record of a frame in a capture file: its moment, its length twice, its bytes
abbrev pub frame_record : Captured → List ℕ
frame_record frame =
    (little_bytes 4 frame.seconds ++ little_bytes 4 frame.micros
    ++ little_bytes 4 (length frame.bytes) ++ little_bytes 4 (length frame.bytes))
    ++ frame.bytes

abbrev pub frame_records : List Captured → List ℕ
frame_records [] = []
frame_records (frame ∷ frames) = frame_record frame ++ frame_records frames

-- the capture file of what runs send over maps in which nothing has happened. It is a function of the program, its shards and the capture.
abbrev pub reader_file : Program → List Sent → List ℕ
reader_file program records = header_bytes ++ frame_records (all_sent_at_opening program records (length records))

-- Of a program that only reads, where the script has no commands and no run was stopped, the bytes of the sent frames' file follow from
-- the program, the number of shards and the capture: so they are the same for every number of workers.
abbrev pub SendsAlike : Verified → List Command → Options → List Sent → Outcome → Type 0
SendsAlike verified script options records outcome = IsReader verified.code verified.states → script ≡ [] → outcome.counts.stopped ≡ 0 →
    capture_bytes outcome.sent.items ≡ reader_file (program_of verified options.shards) records

-- the replay made these updates before the commands of the script, and accounts for every record, every command and every entry of the
-- journals; an exact one was made in turn, with the updates before the first frame, and its one order of all deeds is that of the turns
pub record IsMade (exact : Bool) (program : Program) (updates : List MapUpdate) (script : List Command) (options : Options)
    (records : List Sent) (outcome : Outcome) : Type 0 where
  pub updates_are : outcome.updates.items ≡ updates
  pub accounted : IsAccounted program script options records outcome
  pub in_turn : exact ≡ true → IsInTurnOrder program script options records outcome accounted

-- the headline, by the runs, commands and rounds that are accounted for; the list of events of an exact replay comes turn by turn
pub record KeepsHeadline (exact : Bool) (verified : Verified) (script : List Command) (options : Options) (records : List Sent)
    (outcome : Outcome) (accounted : IsAccounted (program_of verified options.shards) script options records outcome) : Type 0 where
  pub kept : HeadlineOf verified script options records outcome accounted
  pub in_turns :
      exact ≡ true →
      IsTurnByTurn (setting_of verified options) (asked_of verified script options records outcome kept.headline.replay.done)
      (all_turns (starts_in script) (length records)) kept.headline.replay.events

-- Of what the verifier made of an image, a script and the records of a capture: shards of the image's maps are opened with these options; the
-- replay was made, with these updates; by one account it is one list of events, the headline's, which of an exact replay comes turn by turn;
-- without updates the shipped program follows the steering rule, and one that only reads sends the same for every number of workers; the sent
-- frames, the journals and the report are written to their files; and what is printed are the counts, and the commands that were refused. The
-- journals that are written are ones that `xlb audit` accepts. Where no rows of journals are kept, they are known to proofs alone.
pub record IsReplayedWith (after : FileBytes) (files : ReplayFiles) (verified : Verified) (script : List Command) (options : Options)
    (recording : Recording) (ring : ℕ) (exact : Bool) (updates : List MapUpdate) (records : List Sent) (printed : List ℕ)
    (refused : List Applied) : Type 0 where
  -- how many workers and shards there are, and how long the journals are, are numbers that are served for the image's maps
  pub options_are_served : IsTrue (are_served_options verified.maps options)
  pub outcome : Outcome
  pub made : IsMade exact (program_of verified options.shards) updates script (recorded recording options) records outcome
  pub listed : KeepsHeadline exact verified script (recorded recording options) records outcome made.accounted
  pub by_rule :
      updates ≡ [] →
      FollowsRule (text_of files.image) ring (program_of verified options.shards) script (recorded recording options) records outcome
      made.accounted
  pub readers : updates ≡ [] → SendsAlike verified script (recorded recording options) records outcome
  pub refused_are : outcome.refused.items ≡ refused
  -- the journals are written after the sent frames, the report after both, and what the maps hold after all three; two of them have one name
  -- in no command that is done (Clashes)
  pub sent :
      text_of files.journals ≢ Some files.sent.now → text_of files.report ≢ Some files.sent.now → text_of files.maps ≢ Some files.sent.now →
      after files.sent.now (capture_bytes outcome.sent.items)
  pub journals :
      text_of files.report ≢ text_of files.journals → text_of files.maps ≢ text_of files.journals →
      AreWritten after (text_of files.journals) outcome.journals
  pub accepted : (file : List ℕ) → text_of files.journals ≡ Some file → AreAccepted verified.maps outcome.journals
  pub report :
      text_of files.maps ≢ text_of files.report → IsReportFile after (text_of files.report) (runs_shipped files) script records outcome
  pub lines : printed ≡ counts_text outcome.counts ++ refusals_text refused

-- the command takes effect before a record of so many, or before all
abbrev pub IsInTime : ℕ → Command → Type 0
IsInTime records command = (command.frame ≡ 0) ⊎ (command.frame < records)

-- no run was stopped at a full journal, and each command comes before a record
pub record LeavesNothingOut (script : List Command) (records : List Sent) (outcome : Outcome) : Type 0 where
  pub none_stopped : outcome.counts.stopped ≡ 0
  pub in_time : AllByRecursion (IsInTime (length records)) script

-- the report is that of such a replay, and says whether a command was refused, where nothing was left out, and what the maps hold at the end
abbrev pub IsReportOf : FileBytes → ReplayFiles → Verified → List Command → Options → Recording → ℕ → Bool → List MapUpdate → List Sent
    → Report → Type 0
IsReportOf after files verified script options recording ring exact updates records report = (refused : List Applied)
    × (replayed : IsReplayedWith after files verified script options recording ring exact updates records (string_bytes report.text) refused)
    × ((refused ≡ []) ↔ (report.is_refused ≡ false))
    × (report.leaves_out ≡ false → LeavesNothingOut script records replayed.outcome)
    × AreMapsLines (text_of files.maps) replayed.outcome.journals (lines_bytes report.maps)

-- the capture is read from its file, and the report is that of a replay of this part of it, in which the script's commands have their
-- numbers in the part
pub record IsReplayReport (before after : FileBytes) (files : ReplayFiles) (verified : Verified) (script : List Command) (options : Options)
    (recording : Recording) (ring : ℕ) (exact : Bool) (reading : Reading) (part : Option Part) (updates : List MapUpdate) (report : Report) :
    Type 0 where
  pub captured : List Sent
  pub capture : IsCaptureOf before reading files.capture.now captured
  pub of_part : IsReportOf after files verified (script_in part captured script) options recording ring exact updates
      (records_in part captured) report

-- the program may run, and its maps take the updates; the script and the capture are read from their files, and the replay was made with all
-- three: of the part that is asked for, with the script's commands at their numbers in it; and what the maps hold at the end is written
pub record IsReplayed (before after : FileBytes) (asked : ReplaySettings) (printed : List ℕ) (refused : List Applied) : Type 0 where
  -- what the verifier made of the image
  pub verified : Verified
  pub program_is : IsProgramOf before (text_of asked.files.image) asked.flows asked.ring (image_of verified)
  -- where it is the shipped one, its lookup table and its flow table have sizes that are served
  pub sizes : text_of asked.files.image ≡ None → AreServedSizes asked.flows asked.ring
  pub accepted : Accepts verified.version verified.maps verified.code verified.states
  -- its maps take the updates
  pub fits : AreFitting verified.maps asked.updates.items
  pub script : List Command
  pub script_is : IsScriptOf before (text_of asked.files.script) script
  pub captured : List Sent
  pub capture : IsCaptureOf before (capture_reading asked.reading) asked.files.capture.now captured
  pub replayed : IsReplayedWith after asked.files verified (script_in asked.part captured script) asked.options (recording_in asked)
      asked.ring asked.exact asked.updates.items (records_in asked.part captured) printed refused
  pub maps : AreMapsWritten after (text_of asked.files.maps) replayed.outcome.journals

-- a strict replay left nothing out
abbrev pub IsStrictlyKept : {before after : FileBytes} (asked : ReplaySettings) {printed : List ℕ} {refused : List Applied}
    → IsReplayed before after asked printed refused → Type 0
IsStrictlyKept asked is =
    asked.strict ≡ true → LeavesNothingOut (script_in asked.part is.captured is.script) (records_in asked.part is.captured) is.replayed.outcome

-- and every command of the script was carried out; where the replay is a strict one, nothing was left out
pub record IsReplayedWhole (before after : FileBytes) (asked : ReplaySettings) (printed : List ℕ) : Type 0 where
  pub replayed : IsReplayed before after asked printed []
  pub all : IsStrictlyKept asked replayed

-- but some command of the script was refused, or the replay is a strict one
pub record IsReplayedInPart (before after : FileBytes) (asked : ReplaySettings) (printed : List ℕ) : Type 0 where
  pub refused : List Applied
  pub some : (refused ≢ []) ⊎ (asked.strict ≡ true)
  pub replayed : IsReplayed before after asked printed refused
