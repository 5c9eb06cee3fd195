-- What a replay that is asked for comes to.
use Rattle.std.specs.Prelude.{◌≡◌, ℕ, true, List, Some, None}
use Rattle.wire.specs.declared.records.Sent.{Sent}
use Rattle.control.specs.declared.command.Command.{Command}
use Rattle.semantics.specs.ShardPlan.{recorded}
use Rattle.semantics.specs.declared.options.Recording.TheVariants.{Rows}
use Rattle.map_updates.specs.Misfits.{AreFitting}
use Rattle.maglev.specs.RingSize.{IsRingSize}
use Rattle.steer.specs.ShippedProgram.{sized_image}
use Rattle.machine.specs.Running.{program_of}
use Rattle.actors.specs.Parts.{AreBadOptions}
use Rattle.actors.specs.declared.fault.ReplayFault.{ReplayFault}
use Rattle.actors.specs.declared.outcome.Outcome.{Outcome}
use Rattle.command_line.specs.Reading.{text_of}
use Rattle.xlb_commands.specs.declared.fault.Fault.{Fault}
use Rattle.xlb_commands.specs.declared.replays.Asked.{Asked}
use Rattle.xlb_commands.specs.declared.report.Report.{Report}
use Rattle.xlb_commands.specs.Files.{FileBytes, AreAllButFourKept, AreAllButKept}
use Rattle.xlb_commands.specs.Parts.{records_in, script_in}
use Rattle.xlb_commands.specs.Refused.{AreUnwritten, IsGivenUp, IsUnmade, IsUnreplayed}
use Rattle.xlb_commands.specs.Replays.{IsCaptureOf, IsMade, IsReplayReport, IsReportOf, KeepsHeadline, image_of}

-- the parts of what is asked for belong together: the maps take the updates, journals that are written have rows, and where no image is named
-- the program is the shipped one
pub record IsConsistent (asked : Asked) : Type 0 where
  pub fit : AreFitting asked.verified.now.maps asked.updates.now
  pub rows : (file : List ℕ) → text_of asked.files.now.journals ≡ Some file → asked.recording ≡ Rows
  pub size : text_of asked.files.now.image ≡ None → IsRingSize asked.ring
  pub shipped : text_of asked.files.now.image ≡ None → image_of asked.verified.now ≡ sized_image asked.flows asked.ring

-- it was made of these records, and this is its report
abbrev pub IsAnsweredOf : FileBytes → Asked → List Sent → Report → Type 0
IsAnsweredOf after asked records report =
    IsReportOf after asked.files.now asked.verified.now asked.script.now asked.options asked.recording asked.ring asked.exact asked.updates.now
    records report

-- it was not made of these records, or not written down, and this is why
abbrev pub IsDeniedOf : FileBytes → FileBytes → Type 0 → Asked → List Sent → Fault → Type 0
IsDeniedOf before after failed asked records fault =
    IsUnmade before after failed asked.files.now (image_of asked.verified.now) asked.script.now asked.options asked.recording asked.exact
    asked.updates.now records fault

-- it was made with this script for the whole capture, and this is its report
abbrev pub IsAnsweredBy : FileBytes → FileBytes → Asked → List Command → Report → Type 0
IsAnsweredBy before after asked script report =
    IsReplayReport before after asked.files.now asked.verified.now script asked.options asked.recording asked.ring asked.exact asked.reading
    asked.part asked.updates.now report

-- it was made, and this is its report
abbrev pub IsAnswered : FileBytes → FileBytes → Asked → Report → Type 0
IsAnswered before after asked report = IsAnsweredBy before after asked asked.script.now report

-- it was not made with this script for the whole capture, or not written down, and this is why
abbrev pub IsDeniedBy : FileBytes → FileBytes → Type 0 → Asked → List Command → Fault → Type 0
IsDeniedBy before after failed asked script fault =
    IsUnreplayed before after failed asked.files.now (image_of asked.verified.now) script asked.options asked.recording
    asked.exact asked.reading asked.part asked.updates.now fault

-- it was not made, or not written down, and this is why
abbrev pub IsDenied : FileBytes → FileBytes → Type 0 → Asked → Fault → Type 0
IsDenied before after failed asked fault = IsDeniedBy before after failed asked asked.script.now fault

-- no file changed but those that it is to write
abbrev pub LeavesOthers : FileBytes → FileBytes → Asked → Type 0
LeavesOthers before after asked =
    AreAllButKept before after asked.files.now.sent.now (text_of asked.files.now.journals) (text_of asked.files.now.report)

-- nor what the maps hold
abbrev pub LeavesAllOthers : FileBytes → FileBytes → Asked → Type 0
LeavesAllOthers before after asked =
    AreAllButFourKept before after asked.files.now.sent.now (text_of asked.files.now.journals) (text_of asked.files.now.report)
    (text_of asked.files.now.maps)

-- it was made and written down, but what the maps hold was not
pub record LacksMaps (before after : FileBytes) (failed : Type 0) (asked : Asked) (fault : Fault) : Type 0 where
  pub report : Report
  pub made : IsAnswered before after asked report
  pub unwritten : AreUnwritten (text_of asked.files.now.maps) failed fault

-- it was made of these records, with this outcome, and keeps the headline
pub record IsOutcome (asked : Asked) (records : List Sent) (outcome : Outcome) : Type 0 where
  pub made : IsMade asked.exact (program_of asked.verified.now asked.options.shards) asked.updates.now asked.script.now
      (recorded asked.recording asked.options) records outcome
  pub listed : KeepsHeadline asked.exact asked.verified.now asked.script.now (recorded asked.recording asked.options) records outcome
      made.accounted

-- it was given up, and this is why
abbrev pub IsWhyNone : Asked → ReplayFault → Type 0
IsWhyNone asked why = IsGivenUp asked.exact asked.verified.now.maps asked.updates.now asked.script.now asked.options asked.recording why

-- no shards are opened with its options, or its script has commands and the maps are not those of steering
abbrev pub HasBadOptions : Asked → Type 0
HasBadOptions asked = AreBadOptions asked.verified.now.maps asked.options asked.script.now

-- it was made in turn of the part that is asked for of the file's capture, or of all of it; this script is that for the whole capture
pub record IsMadeInTurn (before : FileBytes) (asked : Asked) (script : List Command) : Type 0 where
  pub captured : List Sent
  pub capture : IsCaptureOf before asked.reading asked.files.now.capture.now captured
  pub script_is : script_in asked.part captured script ≡ asked.script.now
  pub outcome : Outcome
  pub made : IsMade true (program_of asked.verified.now asked.options.shards) asked.updates.now asked.script.now
      (recorded asked.recording asked.options) (records_in asked.part captured) outcome
