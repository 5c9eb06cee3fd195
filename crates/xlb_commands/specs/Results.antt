-- What it means that a command is done: the files that it read and wrote, and what it printed.
use Rattle.std.specs.Prelude.{◌≡◌, ◌≢◌, ◌<◌, ◌↔◌, ◌++◌, ℕ, List, [], Bool, true, false, Option, IsTrue, codes, decimal, length, string_bytes}
use Rattle.std.specs.Io.KnownBytes.{append_known}
use Rattle.abstract_state.specs.declared.state.State.{State}
use Rattle.ebpf_decode.specs.ImageContents.{Contents}
use Rattle.ebpf_decode.specs.InstructionEncoding.{total_slots}
use Rattle.disasm.specs.AssemblyText.{IsAssemblyText}
use Rattle.source_form.specs.SourceImage.{IsSource}
use Rattle.semantics.specs.Safety.{IsSafeImage}
use Rattle.verifier.specs.Dataflow.{Accepts}
use Rattle.verifier.specs.Readers.{IsReader}
use Rattle.hex.specs.Hex.{encode_lower}
use Rattle.wire.specs.FrameView.{FrameView}
use Rattle.semantics.specs.declared.options.Options.{Options}
use Rattle.semantics.specs.declared.options.Recording.{Recording}
use Rattle.semantics.specs.declared.verdict.Verdict.{Verdict}
use Rattle.semantics.specs.declared.verdict.Verdict.TheVariants.{Aborted, Drop, Pass, Tx}
use Rattle.semantics.specs.MachineState.{MachineState, initial_state}
use Rattle.semantics.specs.Program.{Program}
use Rattle.semantics.specs.Events.{Exited}
use Rattle.semantics.specs.System.{Setting, IsInputFrame}
use Rattle.steer.specs.ShippedProgram.{sized_image}
use Rattle.runs.specs.SingleRuns.{HasRunAlone}
use Rattle.guarantees.specs.RunsAlone.{IsAloneInSystem}
use Rattle.journals.specs.JournalsView.{JournalsView}
use Rattle.journals.specs.JournalReading.{IsJournalsFile}
use Rattle.journals.specs.LegalJournals.{AreLegal}
use Rattle.mistakes.specs.Namesakes.{explained_text}
use Rattle.faults.specs.Refusals.{AreNotes}
use Rattle.reasons.specs.Explanations.{IsExplanation}
use Rattle.command_line.specs.Reading.{text_of}
use Rattle.map_updates.specs.Misfits.{AreFitting, IsFirstMisfit}
use Rattle.map_updates.specs.declared.misfit.Misfit.{Misfit}
use Rattle.map_updates.specs.declared.update.MapUpdate.{MapUpdate}
use Rattle.xlb_commands.specs.declared.one_run.RunAnswer.{RunAnswer}
use Rattle.xlb_commands.specs.declared.one_run.RunAnswer.TheVariants.{Printed, Mistaken}
use Rattle.xlb_commands.specs.declared.serving.CommandAnswer.{CommandAnswer}
use Rattle.xlb_commands.specs.declared.serving.CommandAnswer.TheVariants as answers
use Rattle.xlb_commands.specs.EndMaps.{AreMapsWritten}
use Rattle.xlb_commands.specs.Files.{FileBytes, AreKept, AreOthersKept, AreAllButFourKept, AreAllKeptButTwo, IsImageFile, IsJudged}
use Rattle.xlb_commands.specs.declared.replays.ReplayAnswer.{ReplayAnswer}
use Rattle.xlb_commands.specs.declared.replays.ReplayAnswer.TheVariants as replayed
use Rattle.xlb_commands.specs.Replays.{capture_reading, AreServedSizes, AreWritten, IsProgramOf, IsReplayedWhole, IsReplayedInPart}
use Rattle.xlb_commands.specs.Tables.{IsTableShown}
use Rattle.xlb_commands.specs.Timed.{IsScriptShown}
use Rattle.xlb_commands.specs.Comparing.{IsComparison, IsUnlikeTold}
use Rattle.xlb_commands.specs.LookingBack.{AreFlowsShown, AreNoFlows, IsNoPage, IsPageShown}
use Rattle.command_line.specs.declared.commands.ReplayFiles.{ReplayFiles}
use Rattle.command_line.specs.declared.commands.ReplaySettings.{ReplaySettings}
use Rattle.command_line.specs.declared.commands.RunFiles.{RunFiles}
use Rattle.command_line.specs.declared.commands.Settings.{Settings}
use Rattle.command_line.specs.declared.commands.Settings.TheVariants.{Check, Run, Disasm, Audit, Explain, Asm, Shipped, Replay, Table}
use Rattle.command_line.specs.declared.commands.Settings.TheVariants.{Script, Compare, Flows, Page}

abbrev pub yes_or_no : Bool → List ℕ
yes_or_no true = codes "yes"
yes_or_no false = codes "no"

-- the line of an accepted image, from its numbers and a word
abbrev pub accepted_text : ℕ → ℕ → List ℕ → List ℕ
accepted_text slots maps reader =
    codes "accepted slots " ++ (decimal slots ++ (codes " maps " ++ (decimal maps ++ (codes " reader " ++ (reader ++ codes "\n")))))

abbrev pub accepted_line : Contents → Bool → List ℕ
accepted_line image reader = accepted_text (total_slots image.code) (length image.maps) (yes_or_no reader)

-- the image, which is that of a file or of a source, may run: the verifier accepts it, with these entry states, and it is safe
pub record IsChecked (files : FileBytes) (name : List ℕ) (printed : List ℕ) : Type 0 where
  pub image : Contents
  pub file : IsJudged files name image
  pub states : List (Option State)
  pub accepted : Accepts image.version image.maps image.code states
  pub safe : IsSafeImage image.maps image.code
  pub reader : Bool
  pub reads : IsTrue reader ↔ IsReader image.code states
  pub line : printed ≡ accepted_line image reader

-- the same, and below it what is said of the program
pub record IsExplained (files : FileBytes) (name : List ℕ) (printed : List ℕ) : Type 0 where
  pub first : List ℕ
  pub checked : IsChecked files name first
  pub second : List ℕ
  pub explanation : IsExplanation checked.image.version checked.image.maps checked.image.code second
  pub both : printed ≡ first ++ second

abbrev pub verdict_name : Verdict → List ℕ
verdict_name Aborted = codes "aborted"
verdict_name Drop = codes "drop"
verdict_name Pass = codes "pass"
verdict_name Tx = codes "tx"

-- the lines of a run, from its words
abbrev pub run_lines : List ℕ → ℕ → List ℕ → List ℕ
run_lines verdict steps frame =
    codes "verdict " ++ (verdict ++ (codes "\ninstructions " ++ (decimal steps ++ (codes "\nframe " ++ (frame ++ codes "\n")))))

abbrev pub run_text : Verdict → ℕ → List ℕ → List ℕ
run_text verdict steps frame = run_lines (verdict_name verdict) steps (encode_lower frame)

-- how the maps of a run are opened
abbrev pub run_options : Options
run_options = record { workers = 8; shards = 1; journal = 65536 }

-- the image's program over maps of one shard each
abbrev pub program_of_run : Contents → Program
program_of_run image = record { code = image.code; maps = image.maps; shards = 1 }

-- where a run on a frame of these bytes begins
abbrev pub start_of_run : List ℕ → ℕ → ℕ → MachineState
start_of_run bytes worker now = initial_state (record { bytes = bytes; headroom = 256 }) worker now

-- the image over maps that are opened so, with a worker for each number
abbrev pub setting_of_run : Contents → Setting
setting_of_run image = record { maps = image.maps; code = image.code; options = run_options }

-- The image may run, its maps take the updates, the file of the frame is one, and there is such a worker. What is printed is what the
-- program's run came to on the frame, at this time and as this worker, over maps in which nothing had happened but these updates: its own
-- trace on replies that are in journals, which are legal and have nothing but the updates and this run's calls. Where files are named for
-- them, they have these journals, and what the maps hold after them. The updates and the run are one list of events of the system.
pub record IsRun (before after : FileBytes) (files : RunFiles) (now worker : ℕ) (updates : List MapUpdate) (printed : List ℕ) : Type 0 where
  pub program : Contents
  pub file : IsImageFile before files.image.now program
  -- the verifier accepts it, with these entry states
  pub states : List (Option State)
  pub accepted : Accepts program.version program.maps program.code states
  pub safe : IsSafeImage program.maps program.code
  -- its maps take the updates
  pub fits : AreFitting program.maps updates
  pub bytes : List ℕ
  pub read : before files.frame.now bytes
  pub size : IsInputFrame bytes
  pub worker_is : worker < 8
  pub verdict : Verdict
  pub steps : ℕ
  pub left : FrameView
  pub journals : JournalsView
  pub run : HasRunAlone (program_of_run program) (start_of_run bytes worker now) run_options worker updates verdict steps left journals
  pub of_system : IsAloneInSystem (setting_of_run program) worker now bytes updates (Exited verdict left.bytes steps) journals
  -- the maps are written after the journals; both have one name in no command that is done (Clashes)
  pub written : text_of files.maps ≢ text_of files.journals → AreWritten after (text_of files.journals) journals
  pub maps : AreMapsWritten after (text_of files.maps) journals
  pub lines : printed ≡ run_text verdict steps left.bytes

-- the image may run, and does not take the update at this place, the first such, for this reason; and no file changed
pub record IsMisfitRun (before after : FileBytes) (files : RunFiles) (updates : List MapUpdate) (place : ℕ) (misfit : Misfit) : Type 0 where
  pub program : Contents
  pub file : IsImageFile before files.image.now program
  pub safe : IsSafeImage program.maps program.code
  pub first : IsFirstMisfit program.maps updates place misfit
  pub kept : AreKept before after

-- what a run comes to that is not refused
abbrev pub IsRunAnswer : FileBytes → FileBytes → RunFiles → ℕ → ℕ → List MapUpdate → RunAnswer → Type 0
IsRunAnswer before after files now worker updates (Printed text notes) = IsRun before after files now worker updates (string_bytes text)
IsRunAnswer before after files now worker updates (Mistaken place misfit) = IsMisfitRun before after files updates place misfit

-- the same of a replay
pub record IsMisfitReplay (before after : FileBytes) (files : ReplayFiles) (flows ring : ℕ) (updates : List MapUpdate) (place : ℕ)
    (misfit : Misfit) : Type 0 where
  pub program : Contents
  pub program_is : IsProgramOf before (text_of files.image) flows ring program
  pub safe : IsSafeImage program.maps program.code
  pub first : IsFirstMisfit program.maps updates place misfit
  pub kept : AreKept before after

-- what a replay comes to that is not refused
abbrev pub IsReplayAnswer : FileBytes → FileBytes → ReplaySettings → ReplayAnswer → Type 0
IsReplayAnswer before after asked (replayed.Made report) =
    (report.is_refused ≡ false → IsReplayedWhole before after asked (string_bytes report.text))
    × (report.is_refused ≡ true → IsReplayedInPart before after asked (string_bytes report.text))
IsReplayAnswer before after asked (replayed.Mistaken place misfit) =
    IsMisfitReplay before after asked.files asked.flows asked.ring asked.updates.items place misfit

-- what is printed is the image's text
pub record IsDisassembled (files : FileBytes) (name : List ℕ) (printed : List ℕ) : Type 0 where
  pub image : Contents
  pub file : IsImageFile files name image
  pub text : IsAssemblyText printed image

-- what is printed means the image in the source form
pub record IsSourceShown (files : FileBytes) (name : List ℕ) (printed : List ℕ) : Type 0 where
  pub image : Contents
  pub file : IsImageFile files name image
  pub shown : IsSource printed image

-- the second file is one of journals of the image's maps, each journal is legal, and that is printed
pub record IsAudited (files : FileBytes) (name journals : List ℕ) (printed : List ℕ) : Type 0 where
  pub image : Contents
  pub file : IsImageFile files name image
  pub bytes : List ℕ
  pub read : files journals bytes
  pub view : JournalsView
  pub spelled : IsJournalsFile image.maps bytes view
  pub legal : AreLegal view
  pub line : printed ≡ codes "legal\n"

-- the text spells the image: exactly, or in the source form
abbrev pub SpellsImage : Bool → List ℕ → Contents → Type 0
SpellsImage false text image = IsAssemblyText text image
SpellsImage true text image = IsSource text image

-- the text of the first file spells, exactly or in the source form, the image that the second file now has
pub record IsAssembled (before after : FileBytes) (in_source_form : Bool) (source target : List ℕ) : Type 0 where
  pub text : List ℕ
  pub read : before source text
  pub image : Contents
  pub spelled : SpellsImage in_source_form text image
  pub written : IsImageFile after target image

-- the file has the image of the shipped program for a flow table of so many notes and a lookup table of N slots, sizes that are served
pub record IsShippedFile (files : FileBytes) (target : List ℕ) (flows ring : ℕ) : Type 0 where
  pub sizes : AreServedSizes flows ring
  pub written : IsImageFile files target (sized_image flows ring)

-- the command is done over these files, before and after, with this print
abbrev pub IsDone : FileBytes → FileBytes → Settings → List ℕ → Type 0
IsDone before after (Check image false) printed = IsChecked before image.now printed
IsDone before after (Check image true) printed = IsExplained before image.now printed
IsDone before after (Run files now worker updates) printed = IsRun before after files now worker updates.items printed
IsDone before after (Disasm image false) printed = IsDisassembled before image.now printed
IsDone before after (Disasm image true) printed = IsSourceShown before image.now printed
IsDone before after (Audit image journals) printed = IsAudited before image.now journals.now printed
IsDone before after (Explain about) printed = printed ≡ explained_text about
IsDone before after (Asm text out source) printed = IsAssembled before after source text.now out.now × (printed ≡ [])
IsDone before after (Shipped out ring flows) printed = IsShippedFile after out.now flows ring × (printed ≡ [])
IsDone before after (Replay asked) printed = IsReplayedWhole before after asked printed
IsDone before after (Table script ring) printed = IsTableShown before script.now ring printed false
IsDone before after (Script capture timed reading) printed = IsScriptShown before (capture_reading reading) capture.now timed.now printed
IsDone before after (Compare first second) printed = IsComparison before first.now second.now printed false
IsDone before after (Flows report script) printed = AreFlowsShown before report.now script.now printed
IsDone before after (Page report script) printed = IsPageShown before report.now script.now printed

-- the command is done except a part that was refused, as the report says: commands of a script; or reports were compared, and differ
abbrev pub IsDoneInPart : FileBytes → FileBytes → Settings → List ℕ → Type 0
IsDoneInPart before after (Replay asked) printed = IsReplayedInPart before after asked printed
IsDoneInPart before after (Table script ring) printed = IsTableShown before script.now ring printed true
IsDoneInPart before after (Compare first second) printed = IsComparison before first.now second.now printed true
IsDoneInPart before after other printed = ⊥

-- no file changes but those that the command is to write, whether it is done or refused
abbrev pub KeepsFiles : FileBytes → FileBytes → Settings → Type 0
KeepsFiles before after (Check image explain) = AreKept before after
KeepsFiles before after (Run files now worker updates) = AreAllKeptButTwo before after (text_of files.journals) (text_of files.maps)
KeepsFiles before after (Disasm image source) = AreKept before after
KeepsFiles before after (Audit image journals) = AreKept before after
KeepsFiles before after (Explain about) = AreKept before after
KeepsFiles before after (Asm text out source) = AreOthersKept before after out.now
KeepsFiles before after (Shipped out ring flows) = AreOthersKept before after out.now
KeepsFiles before after (Table script ring) = AreKept before after
KeepsFiles before after (Script capture timed reading) = AreKept before after
KeepsFiles before after (Compare first second) = AreKept before after
KeepsFiles before after (Flows report script) = AreKept before after
KeepsFiles before after (Page report script) = AreKept before after
KeepsFiles before after (Replay asked) =
    AreAllButFourKept before after asked.files.sent.now (text_of asked.files.journals) (text_of asked.files.report)
    (text_of asked.files.maps)

-- a stream: what was written to it, where that is known, and how many of its calls failed
pub record Stream : Type 0 where
  pub held : Option (List ℕ)
  pub failures : ℕ

abbrev pub stream : Option (List ℕ) → ℕ → Stream
stream held failures = record { held = held; failures = failures }

-- lines that each begin with two blanks, or nothing, were written to a stream, unless it failed
pub record AreNotesPrinted (before after : Stream) : Type 0 where
  pub notes : List ℕ
  pub are_notes : AreNotes notes
  pub printed : after.failures ≡ before.failures → after.held ≡ append_known before.held notes

-- what is written to the error stream after a command's report: of a run, of a replay, of tables, of a timed script and of flows such lines,
-- of another command nothing
abbrev pub IsNoted : Settings → Stream → Stream → Type 0
IsNoted (Replay asked) before after = AreNotesPrinted before after
IsNoted (Table script ring) before after = AreNotesPrinted before after
IsNoted (Script capture timed reading) before after = AreNotesPrinted before after
IsNoted (Flows report script) before after = AreNotesPrinted before after
IsNoted (Run files now worker updates) before after = AreNotesPrinted before after
IsNoted other before after = after ≡ before

-- the report was printed, and what follows it
pub record IsReported (before after : FileBytes) (settings : Settings) (out out' : Option (List ℕ)) (err err' : Stream) : Type 0 where
  pub text : List ℕ
  pub done : IsDoneInPart before after settings text
  pub printed : out' ≡ append_known out text
  pub noted : IsNoted settings err err'

-- a mistake of the command line that shows in the image: its maps do not take an update of a run or a replay
abbrev pub IsMistake : FileBytes → FileBytes → Settings → ℕ → Misfit → Type 0
IsMistake before after (Run files now worker updates) place misfit = IsMisfitRun before after files updates.items place misfit
IsMistake before after (Replay asked) place misfit =
    IsMisfitReplay before after asked.files asked.flows asked.ring asked.updates.items place misfit
IsMistake before after other place misfit = ⊥

-- the command's files cannot be compared, or its report is none, and the text says why; no file changed
abbrev pub IsUnlikeSaid : FileBytes → FileBytes → Settings → List ℕ → Type 0
IsUnlikeSaid before after (Compare first second) text = AreKept before after × IsUnlikeTold before first.now second.now text
IsUnlikeSaid before after (Flows report script) text = AreKept before after × AreNoFlows before report.now script.now text
IsUnlikeSaid before after (Page report script) text = AreKept before after × IsNoPage before report.now script.now text
IsUnlikeSaid before after other text = ⊥

-- what a command comes to that is not refused: it was done, whole or in part, or its words are mistaken
abbrev pub IsAnswer : FileBytes → FileBytes → Settings → CommandAnswer → Type 0
IsAnswer before after settings (answers.Reported report) =
    (report.is_refused ≡ false → IsDone before after settings (string_bytes report.text))
    × (report.is_refused ≡ true → IsDoneInPart before after settings (string_bytes report.text))
IsAnswer before after settings (answers.Mistaken place misfit) = IsMistake before after settings place misfit
IsAnswer before after settings (answers.Unlike text) = IsUnlikeSaid before after settings (string_bytes text)
