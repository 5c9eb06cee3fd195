-- An exact replay whose capture is read, and whose sent frames and report are written, in pieces.
use Rattle.std.specs.Prelude.{◌≡◌, ◌≢◌, ◌↔◌, ◌+◌, ◌++◌, ℕ, true, false, List, [], Option, Some, length, string_bytes}
use Rattle.std.specs.List.{AllByRecursion}
use Rattle.semantics.specs.Program.{Program}
use Rattle.semantics.specs.ShardPlan.{recorded}
use Rattle.semantics.specs.declared.options.Options.{Options}
use Rattle.semantics.specs.declared.options.Recording.{Recording}
use Rattle.map_updates.specs.declared.update.MapUpdate.{MapUpdate}
use Rattle.wire.specs.CaptureFormat.{records_bytes}
use Rattle.wire.specs.declared.records.Sent.{Sent}
use Rattle.control.specs.declared.command.Command.{Command}
use Rattle.actors.specs.Captured.{IsCaptured}
use Rattle.journals.specs.JournalText.{journals_text}
use Rattle.fleet.specs.declared.part.Part.{Part}
use Rattle.verifier.specs.Verified.{Verified}
use Rattle.machine.specs.Running.{program_of}
use Rattle.replay.specs.Pieces.{IsUnderway, ReplayGoesOn}
use Rattle.replay.specs.declared.in_pieces.PieceReplay.{PieceReplay}
use Rattle.actors.specs.declared.outcome.Outcome.{Outcome}
use Rattle.actors.specs.declared.outcome.ToldEnd.{ToldEnd}
use Rattle.capture_readings.specs.declared.readings.Reading.{Reading}
use Rattle.command_line.specs.Reading.{text_of}
use Rattle.command_line.specs.declared.commands.ReplayFiles.{ReplayFiles}
use Rattle.traffic.specs.declared.backends.Backends.{Backends}
use Rattle.xlb_commands.specs.declared.replays.Asked.{Asked}
use Rattle.xlb_commands.specs.declared.report.Report.{Report}
use Rattle.xlb_commands.specs.EndMaps.{AreMapsLines, lines_bytes}
use Rattle.xlb_commands.specs.Files.{FileBytes}
use Rattle.xlb_commands.specs.RecordReports.{HasNamed, backends_in, form_of, lines_until, runs_shipped, sent_before}
use Rattle.xlb_commands.specs.Parts.{command_frames, records_in, script_in}
use Rattle.xlb_commands.specs.Taking.{AreNumbers}
use Rattle.xlb_commands.specs.Replays.{AreAccepted, FollowsRule, IsCaptureOf, IsMade, KeepsHeadline, LeavesNothingOut, SendsAlike}
use Rattle.xlb_commands.specs.Replays.{counts_text, refusals_text}

-- the replay took the turns of these records: these frames were sent, and each record ended so
abbrev pub AreRun : Program → List Command → Options → PieceReplay → PieceReplay → List Sent → List Sent → List ToldEnd → Type 0
AreRun program script options before after records sent ends =
    (updates : List MapUpdate) (past past_sent : List Sent) (past_ends : List ToldEnd)
    → IsUnderway program script options updates past past_sent past_ends before
    → IsUnderway program script options updates (past ++ records) (past_sent ++ sent) (past_ends ++ ends) after

-- the file of this name, which is being made, has these bytes more
abbrev pub AreAdded : FileBytes → FileBytes → List ℕ → List ℕ → Type 0
AreAdded before after name more = (bytes : List ℕ) → before name bytes → after name (bytes ++ more)

-- the sent frames and the report have files of two names
abbrev pub AreApartInPieces : ReplayFiles → Type 0
AreApartInPieces files = text_of files.report ≢ Some files.sent.now

-- the report has the lines of these records more, which come behind the first ones, if it is asked for
abbrev pub AreTold : FileBytes → FileBytes → ReplayFiles → List Command → ℕ → List Sent → List Sent → List ToldEnd → Type 0
AreTold before after files script first records sent ends = (name : List ℕ) → text_of files.report ≡ Some name →
    AreAdded before after name (lines_until (form_of name) (runs_shipped files) script first records ends sent (length records))

-- each record has an end, and each that was sent a frame
abbrev pub AreOfRecords : List Sent → List Sent → List ToldEnd → Type 0
AreOfRecords records sent ends = (length ends ≡ length records) × (length sent ≡ sent_before ends (length ends))

-- behind records that were run before: what was run is of these records, and the report tells of them
abbrev pub AreToldBehind : Program → List Command → Options → ReplayFiles → PieceReplay → FileBytes → FileBytes → List Sent → List Sent
    → List ToldEnd → Type 0
AreToldBehind program script options files replay before after records sent ends =
    (updates : List MapUpdate) (past past_sent : List Sent) (past_ends : List ToldEnd)
    → IsUnderway program script options updates past past_sent past_ends replay
    → AreOfRecords records sent ends
    × (AreApartInPieces files → AreTold before after files script (length past) records sent ends)

-- some records were run, and what of them is sent, and what is told of them, was added to the files that are being made
pub record HaveRun (program : Program) (script : List Command) (options : Options) (files : ReplayFiles) (before after : PieceReplay)
    (made made' : FileBytes) (records : List Sent) : Type 0 where
  pub captured : AllByRecursion IsCaptured records
  pub sent : List Sent
  pub ends : List ToldEnd
  pub run : AreRun program script options before after records sent ends
  pub added : AreApartInPieces files → AreAdded made made' files.sent.now (records_bytes sent)
  pub told : AreToldBehind program script options files before made made' records sent ends

-- the replay is at this place of some capture
pub record IsGoing (program : Program) (script : List Command) (options : Options) (updates : List MapUpdate)
    (replay : PieceReplay) : Type 0 where
  pub records : List Sent
  pub sent : List Sent
  pub ends : List ToldEnd
  pub underway : IsUnderway program script options updates records sent ends replay

-- all that a replay promises holds for the outcome of an exact replay of these records, which sent these frames; and the bytes of the
-- journals and the report are that outcome's
pub record IsMadeOf (files : ReplayFiles) (verified : Verified) (script : List Command) (options : Options) (recording : Recording) (ring : ℕ)
    (updates : List MapUpdate) (records sent : List Sent) (ends : List ToldEnd) (report : Report) (journals : List ℕ) : Type 0 where
  pub whole : Outcome
  pub sent_are : whole.sent.items ≡ sent
  pub ends_are : whole.ends.items ≡ ends
  pub made : IsMade true (program_of verified options.shards) updates script (recorded recording options) records whole
  pub listed : KeepsHeadline true verified script (recorded recording options) records whole made.accounted
  pub by_rule :
      updates ≡ [] →
      FollowsRule (text_of files.image) ring (program_of verified options.shards) script (recorded recording options) records whole made.accounted
  pub readers : updates ≡ [] → SendsAlike verified script (recorded recording options) records whole
  pub journals_are : (file : List ℕ) → text_of files.journals ≡ Some file → journals ≡ journals_text whole.journals
  pub accepted : (file : List ℕ) → text_of files.journals ≡ Some file → AreAccepted verified.maps whole.journals
  pub text : string_bytes report.text ≡ counts_text whole.counts ++ refusals_text whole.refused.items
  pub none_refused : (whole.refused.items ≡ []) ↔ (report.is_refused ≡ false)
  pub all : report.leaves_out ≡ false → LeavesNothingOut script records whole
  pub maps_are : AreMapsLines (text_of files.maps) whole.journals (lines_bytes report.maps)

-- the file is under this reading a capture, in the part of which the commands of this script have these numbers
pub record HasNumbers (files : FileBytes) (reading : Reading) (name : List ℕ) (part : Option Part) (whole : List Command) (numbers : List ℕ) : Type 0 where
  pub captured : List Sent
  pub capture : IsCaptureOf files reading name captured
  pub numbers_are : AreNumbers part (command_frames whole) captured numbers

-- besides, all records of the part were run, or where none is asked for all of the capture
pub record HasGoneThrough (files : FileBytes) (reading : Reading) (name : List ℕ) (part : Option Part) (whole : List Command) (numbers : List ℕ)
    (program : Program) (script : List Command) (options : Options) (names : ReplayFiles) (before after : PieceReplay)
    (made made' : FileBytes) : Type 0 where
  pub numbered : HasNumbers files reading name part whole numbers
  pub have_run : HaveRun program script options names before after made made' (records_in part numbered.captured)

-- the file is under this reading a capture, in the part of which the commands of the script for the whole capture are those of this script;
-- besides, the replay of the part came to its end, and the report and the bytes of the journals are its
pub record IsReplayLeft (before made made' : FileBytes) (files : ReplayFiles) (reading : Reading) (part : Option Part) (whole : List Command)
    (verified : Verified) (script : List Command) (options : Options) (recording : Recording) (ring : ℕ) (updates : List MapUpdate) (report : Report)
    (journals : List ℕ) : Type 0 where
  pub captured : List Sent
  pub sent : List Sent
  pub ends : List ToldEnd
  pub capture : IsCaptureOf before reading files.capture.now captured
  pub script_is : script_in part captured whole ≡ script
  pub added : AreApartInPieces files → AreAdded made made' files.sent.now (records_bytes sent)
  pub told : AreApartInPieces files → AreTold made made' files script 0 (records_in part captured) sent ends
  pub made_of : IsMadeOf files verified script options recording ring updates (records_in part captured) sent ends report journals

-- ---- the same of what is asked for

-- it may be made in pieces: it is exact, and the sent frames and the report have two names
abbrev pub MayBeInPieces : Asked → Type 0
MayBeInPieces asked = (asked.exact ≡ true) × AreApartInPieces asked.files.now

-- the replay can go on with its script over the maps of its program, and the table has the backends that the script names
pub record CanGoOn (asked : Asked) (table : Backends) (replay : PieceReplay) : Type 0 where
  pub named : HasNamed table (backends_in asked.script.now)
  pub goes_on : ReplayGoesOn asked.script.now replay
  pub maps : replay.turns.all.maps ≡ asked.verified.now.maps

-- these records were run
abbrev pub HaveRunOf : Asked → List Sent → PieceReplay → PieceReplay → FileBytes → FileBytes → Type 0
HaveRunOf asked records before after made made' =
    HaveRun (program_of asked.verified.now asked.options.shards) asked.script.now (recorded asked.recording asked.options) asked.files.now before after
    made made' records

-- all records that are asked for were run; the commands of the script for the whole capture have these numbers
abbrev pub HasGone : FileBytes → Asked → List Command → List ℕ → PieceReplay → PieceReplay → FileBytes → FileBytes → Type 0
HasGone files asked whole numbers before after made made' =
    HasGoneThrough files asked.reading asked.files.now.capture.now asked.part whole numbers (program_of asked.verified.now asked.options.shards)
    asked.script.now (recorded asked.recording asked.options) asked.files.now before after made made'
