-- Which fault a command is refused with: the first of what it reads and does, in that order. `failed` says that the device of the files
-- failed, once, in the command's last use of it.
use Rattle.std.specs.Prelude.{◌≡◌, ◌≢◌, ◌↔◌, ◌≤◌, ◌<◌, ◌+◌, ◌^◌, ◌⊎◌, ℕ, ℤ, Bool, List, [], Option, Some, None, true, false}
use Rattle.std.specs.Prelude.{IsTrue, IsFalse, IsUtf8, codes, length, take, String, string_bytes}
use Rattle.std.specs.Io.KnownBytes.{append_known}
use Rattle.text_lines.specs.NoText.{IsNoText}
use Rattle.folders.specs.declared.folder.FolderFault.TheVariants as folder
use Rattle.ebpf_decode.specs.ImageContents.{Contents}
use Rattle.ebpf_decode.specs.ImageFormat.{first_decode_fault, may_ask_memory}
use Rattle.ebpf_decode.specs.declared.fault.DecodeFault.{DecodeFault}
use Rattle.ebpf_decode.specs.declared.fault.DecodeFault.TheVariants as decode
use Rattle.semantics.specs.Safety.{IsSafeImage}
use Rattle.semantics.specs.System.{IsInputFrame}
use Rattle.verifier.specs.declared.reject.Reject.{Reject}
use Rattle.verifier.specs.Dataflow.{IsFirstReject}
use Rattle.verifier.specs.Verified.{Verified}
use Rattle.wire.specs.declared.frame_buffer.FrameFault.TheVariants as frames
use Rattle.disasm.specs.declared.fault.AsmFault.{AsmFault}
use Rattle.disasm.specs.declared.fault.AsmFault.TheVariants as texts
use Rattle.disasm.specs.TextReading.{ExplainsText}
use Rattle.source_form.specs.declared.fault.SourceFault.{SourceFault}
use Rattle.source_form.specs.SourceImage.{ExplainsSource}
use Rattle.journals.specs.JournalsView.{JournalsView}
use Rattle.journals.specs.declared.fault.FileFault.{FileFault}
use Rattle.journals.specs.declared.fault.FileFault.TheVariants as journal_faults
use Rattle.journals.specs.JournalReading.{IsJournalsFile, RefusesJournals}
use Rattle.audit.specs.declared.fault.AuditFault.{AuditFault}
use Rattle.audit.specs.Audited.{ExplainsJournals}
use Rattle.journals.specs.LegalJournals.{AreLegal}
use Rattle.source_form.specs.SourceBeginning.{begins_as_source}
use Rattle.faults.specs.Refusals.{IsRefusalText}
use Rattle.ebpf_decode.specs.declared.map.MapDef.{MapDef}
use Rattle.wire.specs.FrameView.{FrameView}
use Rattle.wire.specs.declared.records.Sent.{Sent}
use Rattle.wire.specs.declared.capture_fault.CaptureFault.{CaptureFault}
use Rattle.wire.specs.CaptureFormat.{RefusesCapture, capture_bytes}
use Rattle.semantics.specs.declared.options.Options.{Options}
use Rattle.semantics.specs.declared.verdict.Verdict.{Verdict}
use Rattle.semantics.specs.declared.options.Recording.{Recording}
use Rattle.semantics.specs.ShardPlan.{are_served_options, recorded}
use Rattle.map_rules.specs.declared.open_fault.OpenFault.TheVariants as opens
use Rattle.machine.specs.declared.exit.Stop.{Stop}
use Rattle.map_updates.specs.Misfits.{AreFitting}
use Rattle.map_updates.specs.declared.misfit.Misfit.{Misfit}
use Rattle.map_updates.specs.declared.update.MapUpdate.{MapUpdate}
use Rattle.runs.specs.SingleRuns.{HasRunAlone, HasStoppedAlone}
use Rattle.runs.specs.Updates.{IsRefusedUpdate, IsFullForUpdate}
use Rattle.guarantees.specs.RunsAlone.{IsAloneInSystem, ending_at}
use Rattle.maglev.specs.RingSize.{IsRingSize}
use Rattle.conntrack.specs.declared.fault.SteerFault.{SteerFault}
use Rattle.conntrack.specs.declared.fault.SteerFault.TheVariants as steering
use Rattle.steer.specs.ShippedProgram.{sized_image}
use Rattle.control.specs.declared.command.Command.{Command}
use Rattle.control.specs.declared.fault.ControlFault.{ControlFault}
use Rattle.control.specs.declared.fault.ControlFault.TheVariants as scripts
use Rattle.control.specs.ScriptReading.{ExplainsScript}
use Rattle.actors.specs.declared.fault.ReplayFault.{ReplayFault}
use Rattle.actors.specs.declared.fault.ReplayFault.TheVariants as replays
use Rattle.actors.specs.UpdateFaults.{OfUpdate}
use Rattle.replay.specs.TurnFaults.{IsWhyInTurn}
use Rattle.actors.specs.declared.outcome.Outcome.{Outcome}
use Rattle.actors.specs.Parts.{AreBadOptions}
use Rattle.command_line.specs.declared.commands.RunFiles.{RunFiles}
use Rattle.command_line.specs.declared.commands.ReplayFiles.{ReplayFiles}
use Rattle.command_line.specs.declared.commands.ReplaySettings.{ReplaySettings}
use Rattle.command_line.specs.Reading.{text_of}
use Rattle.command_line.specs.declared.commands.Settings.{Settings}
use Rattle.command_line.specs.declared.commands.Settings.TheVariants.{Check, Run, Disasm, Audit, Explain, Asm, Shipped, Replay, Table}
use Rattle.command_line.specs.declared.commands.Settings.TheVariants.{Script, Compare, Flows, Page}
use Rattle.timed_scripts.specs.MeantScript.{ExplainsTimedScript as MeansNone}
use Rattle.capture_readings.specs.Readings.{AreCaptureBytes, alters}
use Rattle.capture_readings.specs.declared.readings.Reading.{Reading}
use Rattle.fleet.specs.declared.part.Part.{Part}
use Rattle.xlb_commands.specs.declared.fault.Fault.{Fault}
use Rattle.xlb_commands.specs.declared.report.Report.{Report}
use Rattle.xlb_commands.specs.declared.fault.Fault.TheVariants as faults
use Rattle.xlb_commands.specs.Files.{FileBytes, AreKept, AreOthersKept, IsImageFile, IsJudged}
use Rattle.xlb_commands.specs.Parts.{records_in, script_in}
use Rattle.xlb_commands.specs.Clashes.{IsOver, clash_text, IsWrittenAnew, present_text}
use Rattle.xlb_commands.specs.FaultLines.{fault_line, mistake_text}
use Rattle.xlb_commands.specs.Replays.{AreWritten, IsProgramOf, IsScriptFile, IsScriptOf, IsCaptureOf, program_of_replay}
use Rattle.xlb_commands.specs.Replays.{AreServedSizes}
use Rattle.xlb_commands.specs.Replays.{capture_reading, image_of, recording_in, IsMade, IsReplayReport}
use Rattle.xlb_commands.specs.Results.{IsDone, IsDoneInPart, IsReported, IsMistake, Stream, run_options, program_of_run, start_of_run}
use Rattle.xlb_commands.specs.Results.{IsUnlikeSaid, SpellsImage, setting_of_run}

-- ---- files

-- one failure more than before
abbrev pub HasFailed : ℕ → ℕ → Type 0
HasFailed before after = after ≡ before + 1

-- a file was not read, or not written: its device failed, or memory was refused
pub data IsUnserved (failed : Type 0) (fault : Fault) : Type 0 where
  device_failed : failed → fault ≡ faults.Folder folder.Device → IsUnserved failed fault
  lacks_memory : fault ≡ faults.Folder folder.Memory → IsUnserved failed fault

-- ---- images

-- the first fault of bytes that encode no image; or memory was refused, where it may have been asked for
pub record IsDecodeRefusal (bytes : List ℕ) (why : DecodeFault) : Type 0 where
  pub first : why ≢ decode.Memory → first_decode_fault bytes ≡ Some why
  pub asked : why ≡ decode.Memory → IsTrue (may_ask_memory bytes)

-- the bytes are no image, and the fault is that of the first that is wrong
pub record IsNoImage (bytes : List ℕ) (fault : Fault) : Type 0 where
  pub why : DecodeFault
  pub refusal : IsDecodeRefusal bytes why
  pub is : fault ≡ faults.Decode why

-- the file was not read, or its bytes are no image
pub data IsImageRefusal (files : FileBytes) (failed : Type 0) (name : List ℕ) (fault : Fault) : Type 0 where
  no_image_bytes : IsUnserved failed fault → IsImageRefusal files failed name fault
  no_image : (bytes : List ℕ) (why : DecodeFault) → files name bytes → IsDecodeRefusal bytes why → fault ≡ faults.Decode why
      → IsImageRefusal files failed name fault

-- no image was read, or it breaks a rule: its first reject
pub data IsProgramRefusal (files : FileBytes) (failed : Type 0) (name : List ℕ) (fault : Fault) : Type 0 where
  no_program : IsImageRefusal files failed name fault → IsProgramRefusal files failed name fault
  rejected : (image : Contents) (why : Reject) → IsImageFile files name image → IsFirstReject image.version image.maps image.code why
      → fault ≡ faults.Program why → IsProgramRefusal files failed name fault

-- what prints an image, or explains it: no image, or it is one, and memory was refused for the text
pub data IsTextRefusal (files : FileBytes) (failed : Type 0) (name : List ℕ) (fault : Fault) : Type 0 where
  none_to_tell : IsImageRefusal files failed name fault → IsTextRefusal files failed name fault
  no_text : (image : Contents) → IsImageFile files name image → fault ≡ faults.Memory → IsTextRefusal files failed name fault

-- ---- frames

-- the file was not read, or its bytes are too many or too few; memory is refused only for a right frame
pub data IsFrameRefusal (files : FileBytes) (failed : Type 0) (name : List ℕ) (fault : Fault) : Type 0 where
  no_frame_bytes : IsUnserved failed fault → IsFrameRefusal files failed name fault
  too_long : (bytes : List ℕ) → files name bytes → 2048 < length bytes → fault ≡ faults.Frame frames.FrameTooLong
      → IsFrameRefusal files failed name fault
  too_short : (bytes : List ℕ) → files name bytes → length bytes < 14 → fault ≡ faults.Frame frames.ShortFrame
      → IsFrameRefusal files failed name fault
  no_frame_memory : (bytes : List ℕ) → files name bytes → 14 ≤ length bytes → length bytes ≤ 2048 → fault ≡ faults.Frame frames.Memory
      → IsFrameRefusal files failed name fault

-- ---- texts

-- why bytes spell no image: the line of what is no text, or where all is text its fault
pub data IsSpellingRefusal (bytes : List ℕ) (why : AsmFault) : Type 0 where
  no_utf8 : (line : ℕ) → IsNoText bytes line → why ≡ texts.BadLine line → IsSpellingRefusal bytes why
  misspelled : IsUtf8 bytes → ExplainsText bytes why → IsSpellingRefusal bytes why

-- why bytes mean no image in the source form: the line of what is no text, or where all is text its fault
pub data IsNoSource (bytes : List ℕ) (fault : Fault) : Type 0 where
  no_utf8_source : (line : ℕ) → IsNoText bytes line → fault ≡ faults.Text (texts.BadLine line) → IsNoSource bytes fault
  no_meaning : (why : SourceFault) → IsUtf8 bytes → ExplainsSource bytes why → fault ≡ faults.Source why → IsNoSource bytes fault

-- a file was not written: memory was refused for its bytes or for what is printed, or it could not be written
pub data IsUnwritten (failed : Type 0) (fault : Fault) : Type 0 where
  not_written : IsUnserved failed fault → IsUnwritten failed fault
  no_room : fault ≡ faults.Memory → IsUnwritten failed fault

-- why the bytes spell no image: exactly, or in the source form
abbrev pub SpellsNone : Bool → List ℕ → Fault → Type 0
SpellsNone false bytes fault = (why : AsmFault) × IsSpellingRefusal bytes why × (fault ≡ faults.Text why)
SpellsNone true bytes fault = IsNoSource bytes fault

-- xlb asm: the text was not read, or spells no image, and no file changed; or it spells one, whose file was not written
pub data IsAsmRefusal (files after : FileBytes) (failed : Type 0) (in_source_form : Bool) (name : List ℕ) (fault : Fault) : Type 0 where
  no_text_bytes : AreKept files after → IsUnserved failed fault → IsAsmRefusal files after failed in_source_form name fault
  no_spelling : (bytes : List ℕ) → AreKept files after → files name bytes → SpellsNone in_source_form bytes fault
      → IsAsmRefusal files after failed in_source_form name fault
  no_image_file : (bytes : List ℕ) (image : Contents) → files name bytes → SpellsImage in_source_form bytes image → IsUnwritten failed fault
      → IsAsmRefusal files after failed in_source_form name fault

-- ---- programs that are judged

-- how many of the first bytes of a file are kept, where an image is read: two slots of 8 bytes more than the longest image has, which is
-- its head of 8 bytes, 16 maps of 16 bytes and 4096 slots: `8 + 16 * 16 + 8 * 4096 + 2 * 8`
abbrev pub kept_of_image : ℕ
kept_of_image = 33048

-- the longest image and one slot, 8 bytes less: `8 + 16 * 16 + 8 * 4096 + 8`
abbrev pub beyond_images : ℕ
beyond_images = 33040

-- the first bytes of the file, as many as are read of an image, begin as a source does, or do not
pub record BeginsAs (files : FileBytes) (name : List ℕ) (is_source : Bool) : Type 0 where
  pub bytes : List ℕ
  pub read : files name bytes
  pub begins : begins_as_source (take kept_of_image bytes) ≡ is_source

-- what is to be judged was not read; or the file does not begin as a source, and is no image; or it does, and means none
pub data IsNotJudged (files : FileBytes) (failed : Type 0) (name : List ℕ) (fault : Fault) : Type 0 where
  no_judged_bytes : IsUnserved failed fault → IsNotJudged files failed name fault
  no_judged_image : (bytes : List ℕ) → files name bytes → begins_as_source (take kept_of_image bytes) ≡ false → IsNoImage bytes fault
      → IsNotJudged files failed name fault
  no_judged_source : (bytes : List ℕ) → BeginsAs files name true → files name bytes → IsNoSource bytes fault
      → IsNotJudged files failed name fault

-- xlb check: nothing to judge; or an image that breaks a rule: its first reject; or one that may run, and memory was refused for the line
pub data IsCheckRefusal (files : FileBytes) (failed : Type 0) (name : List ℕ) (fault : Fault) : Type 0 where
  not_judged : IsNotJudged files failed name fault → IsCheckRefusal files failed name fault
  not_accepted : (image : Contents) (why : Reject) → IsJudged files name image → IsFirstReject image.version image.maps image.code why
      → fault ≡ faults.Program why → IsCheckRefusal files failed name fault
  no_line : (image : Contents) → IsJudged files name image → IsSafeImage image.maps image.code → fault ≡ faults.Memory
      → IsCheckRefusal files failed name fault

-- xlb check --explain: nothing to judge; or an image for which memory was refused for the text, or which breaks a rule: its first reject
pub data IsExplainRefusal (files : FileBytes) (failed : Type 0) (name : List ℕ) (fault : Fault) : Type 0 where
  none_to_explain : IsNotJudged files failed name fault → IsExplainRefusal files failed name fault
  no_explanation : (image : Contents) → IsJudged files name image → fault ≡ faults.Memory → IsExplainRefusal files failed name fault
  explained : (image : Contents) (why : Reject) → IsJudged files name image → IsFirstReject image.version image.maps image.code why
      → fault ≡ faults.Program why → IsExplainRefusal files failed name fault

-- ---- journals

-- the second file has these journals of the maps of the first file's image, and no others
pub record AreJournalsOfImage (files : FileBytes) (name journals : List ℕ) (view : JournalsView) : Type 0 where
  pub image : Contents
  pub file : IsImageFile files name image
  pub bytes : List ℕ
  pub read : files journals bytes
  pub spelled : IsJournalsFile image.maps bytes view
  pub only : (other : JournalsView) → IsJournalsFile image.maps bytes other → view ≡ other

-- xlb audit: no image; journals that were not read, that the file does not spell, or that are not legal; or memory was refused for the line
pub data IsAuditRefusal (files : FileBytes) (failed : Type 0) (name journals : List ℕ) (fault : Fault) : Type 0 where
  no_audited_image : IsImageRefusal files failed name fault → IsAuditRefusal files failed name journals fault
  no_journal_bytes : (image : Contents) → IsImageFile files name image → IsUnserved failed fault
      → IsAuditRefusal files failed name journals fault
  no_journals : (image : Contents) (bytes : List ℕ) (why : FileFault) → IsImageFile files name image → files journals bytes
      → RefusesJournals image.maps bytes why → fault ≡ faults.Journals why → IsAuditRefusal files failed name journals fault
  not_legal : (view : JournalsView) (why : AuditFault) → AreJournalsOfImage files name journals view → ExplainsJournals view why
      → fault ≡ faults.Audit why → IsAuditRefusal files failed name journals fault
  no_verdict : (view : JournalsView) → AreJournalsOfImage files name journals view → AreLegal view → fault ≡ faults.Memory
      → IsAuditRefusal files failed name journals fault

-- Memory was refused for what a run or a replay is to write or to print. Where a file is named for the journals, it may have been refused
-- for their bytes, which has the fault of journals.
pub data LacksRoom (journals : Option (List ℕ)) (fault : Fault) : Type 0 where
  no_report_room : fault ≡ faults.Memory → LacksRoom journals fault
  no_journal_room : (name : List ℕ) → journals ≡ Some name → fault ≡ faults.Journals journal_faults.Memory → LacksRoom journals fault

-- a file is named for the journals, or for another thing that is written where one is named, and was not written
pub record AreUnwritten (journals : Option (List ℕ)) (failed : Type 0) (fault : Fault) : Type 0 where
  pub name : List ℕ
  pub named : journals ≡ Some name
  pub unserved : IsUnserved failed fault

-- ---- runs

-- the file is an image, which may run and whose maps take the updates
pub record IsFittingProgram (files : FileBytes) (name : List ℕ) (updates : List MapUpdate) : Type 0 where
  pub image : Contents
  pub file : IsImageFile files name image
  pub safe : IsSafeImage image.maps image.code
  pub fits : AreFitting image.maps updates

-- the files of a run have this program, which may run and whose maps take the updates, and a frame of these bytes
pub record AreRunInputs (files : FileBytes) (run : RunFiles) (updates : List MapUpdate) (program : Contents) (bytes : List ℕ) : Type 0 where
  pub file : IsImageFile files run.image.now program
  pub safe : IsSafeImage program.maps program.code
  pub fits : AreFitting program.maps updates
  pub read : files run.frame.now bytes
  pub size : IsInputFrame bytes

-- why no run was made: no shards are opened for these maps; or they are, and memory was refused for them, an update was refused, or its
-- journal was full
pub data IsRunFault (maps : List MapDef) (updates : List MapUpdate) (fault : Fault) : Type 0 where
  not_served : IsFalse (are_served_options maps run_options) → fault ≡ faults.Options opens.BadOptions → IsRunFault maps updates fault
  no_map_memory : IsTrue (are_served_options maps run_options) → fault ≡ faults.Options opens.Memory → IsRunFault maps updates fault
  update_refused : (place : ℕ) (answer : ℤ) → IsTrue (are_served_options maps run_options)
      → IsRefusedUpdate maps run_options updates place answer → fault ≡ faults.Script (scripts.Refused answer)
      → IsRunFault maps updates fault
  update_full : (place : ℕ) → IsTrue (are_served_options maps run_options) → IsFullForUpdate maps run_options updates place
      → fault ≡ faults.Script scripts.JournalFull → IsRunFault maps updates fault

-- the run was made, and stopped where a journal was full; the updates and what it did until then are one list of events of the system
pub record IsStoppedRun (program : Contents) (bytes : List ℕ) (now worker : ℕ) (updates : List MapUpdate) (stop : Stop) : Type 0 where
  pub frame : FrameView
  pub journals : JournalsView
  pub stopped : HasStoppedAlone (program_of_run program) (start_of_run bytes worker now) run_options worker updates frame stop journals
  pub of_system : IsAloneInSystem (setting_of_run program) worker now bytes updates (ending_at stop) journals

-- the run was made, and came to its end
pub record IsEndedRun (program : Contents) (bytes : List ℕ) (now worker : ℕ) (updates : List MapUpdate) : Type 0 where
  pub verdict : Verdict
  pub steps : ℕ
  pub frame : FrameView
  pub journals : JournalsView
  pub ended : HasRunAlone (program_of_run program) (start_of_run bytes worker now) run_options worker updates verdict steps frame journals

-- xlb run: no program that may run; no frame; a worker that there is not; no run; one that was stopped; one that came to its end, and
-- memory was refused for its journals, its lines or those of the maps; until then no file changed; or its journals were not written; or they
-- were, and what the maps hold was not
pub data IsRunRefusal (files after : FileBytes) (failed : Type 0) (run : RunFiles) (now worker : ℕ) (updates : List MapUpdate)
    (fault : Fault) : Type 0 where
  no_run_program : AreKept files after → IsProgramRefusal files failed run.image.now fault
      → IsRunRefusal files after failed run now worker updates fault
  no_run_frame : AreKept files after → IsFittingProgram files run.image.now updates → IsFrameRefusal files failed run.frame.now fault
      → IsRunRefusal files after failed run now worker updates fault
  no_worker : (program : Contents) (bytes : List ℕ) → AreKept files after → AreRunInputs files run updates program bytes → 8 ≤ worker
      → fault ≡ faults.Options opens.BadOptions → IsRunRefusal files after failed run now worker updates fault
  not_run : (program : Contents) (bytes : List ℕ) → AreKept files after → AreRunInputs files run updates program bytes → worker < 8
      → IsRunFault program.maps updates fault → IsRunRefusal files after failed run now worker updates fault
  stopped : (program : Contents) (bytes : List ℕ) (stop : Stop) → AreKept files after → AreRunInputs files run updates program bytes
      → worker < 8 → IsStoppedRun program bytes now worker updates stop → fault ≡ faults.Run stop
      → IsRunRefusal files after failed run now worker updates fault
  no_output_room : (program : Contents) (bytes : List ℕ) → AreKept files after → AreRunInputs files run updates program bytes → worker < 8
      → IsEndedRun program bytes now worker updates → LacksRoom (text_of run.journals) fault
      → IsRunRefusal files after failed run now worker updates fault
  not_filed : (program : Contents) (bytes : List ℕ) → AreRunInputs files run updates program bytes → worker < 8
      → IsEndedRun program bytes now worker updates → AreUnwritten (text_of run.journals) failed fault
      → IsRunRefusal files after failed run now worker updates fault
  no_maps_filed : (program : Contents) (bytes : List ℕ) → AreRunInputs files run updates program bytes → worker < 8
      → (ended : IsEndedRun program bytes now worker updates)
      → (text_of run.maps ≢ text_of run.journals → AreWritten after (text_of run.journals) ended.journals)
      → AreUnwritten (text_of run.maps) failed fault
      → IsRunRefusal files after failed run now worker updates fault

-- ---- replays

-- the shipped program was not made: the fault of a size that is not served comes exactly for one; else memory was refused
pub record IsNotMade (flows ring : ℕ) (fault : Fault) : Type 0 where
  pub why : SteerFault
  pub size : (why ≡ steering.BadSize) ↔ (¬ AreServedSizes flows ring)
  pub fault_is : fault ≡ faults.Steering why

-- the shipped program was not made, or breaks a rule: its first reject
pub data IsShippedRefusal (flows ring : ℕ) (fault : Fault) : Type 0 where
  not_made : IsNotMade flows ring fault → IsShippedRefusal flows ring fault
  shipped_rejected : (image : Contents) (why : Reject) → image ≡ sized_image flows ring
      → IsFirstReject image.version image.maps image.code why → fault ≡ faults.Program why → IsShippedRefusal flows ring fault

-- xlb shipped: the program was not made, and no file changed; or it was made, and its file was not written
pub data IsShippedFileRefusal (files after : FileBytes) (failed : Type 0) (flows ring : ℕ) (fault : Fault) : Type 0 where
  none_made : AreKept files after → IsNotMade flows ring fault → IsShippedFileRefusal files after failed flows ring fault
  no_shipped_file : AreServedSizes flows ring → IsUnwritten failed fault → IsShippedFileRefusal files after failed flows ring fault

-- no program that may run: of the file, or where none is named the shipped one
abbrev pub IsReplayProgramRefusal : FileBytes → Type 0 → Option (List ℕ) → ℕ → ℕ → Fault → Type 0
IsReplayProgramRefusal files failed (Some name) flows ring fault = IsProgramRefusal files failed name fault
IsReplayProgramRefusal files failed None flows ring fault = IsShippedRefusal flows ring fault

-- the program that is replayed
pub record IsReplayProgram (files : FileBytes) (name : Option (List ℕ)) (flows ring : ℕ) (program : Contents) : Type 0 where
  pub is : IsProgramOf files name flows ring program
  pub safe : IsSafeImage program.maps program.code

-- the file was not read, or its bytes are no script
pub data IsScriptFileRefusal (files : FileBytes) (failed : Type 0) (name : List ℕ) (fault : Fault) : Type 0 where
  no_script_bytes : IsUnserved failed fault → IsScriptFileRefusal files failed name fault
  no_script : (bytes : List ℕ) (why : ControlFault) → files name bytes → ExplainsScript bytes why → fault ≡ faults.Script why
      → IsScriptFileRefusal files failed name fault

-- xlb table: no lookup table has the size; or one has, and the script was not read; or it was, and memory was refused for the lines
pub data IsTableRefusal (files : FileBytes) (failed : Type 0) (name : List ℕ) (ring : ℕ) (fault : Fault) : Type 0 where
  no_table : (¬ IsRingSize ring) → fault ≡ faults.Script scripts.BadSize → IsTableRefusal files failed name ring fault
  no_table_script : IsRingSize ring → IsScriptFileRefusal files failed name fault → IsTableRefusal files failed name ring fault
  no_table_lines : (script : List Command) → IsRingSize ring → IsScriptFile files name script → fault ≡ faults.Memory
      → IsTableRefusal files failed name ring fault

-- xlb compare: a file was not read; or memory was refused
pub data IsComparisonRefusal (failed : Type 0) (fault : Fault) : Type 0 where
  no_report_bytes : IsUnserved failed fault → IsComparisonRefusal failed fault
  no_comparison : fault ≡ faults.Memory → IsComparisonRefusal failed fault

-- xlb flows, xlb page: the report was not read; or it was, and the script was not; or both were, and memory was refused
pub data IsReportRefusal (files : FileBytes) (failed : Type 0) (report script : List ℕ) (fault : Fault) : Type 0 where
  no_report : IsUnserved failed fault → IsReportRefusal files failed report script fault
  no_report_script : (bytes : List ℕ) → files report bytes → IsScriptFileRefusal files failed script fault
      → IsReportRefusal files failed report script fault
  no_report_text : (bytes : List ℕ) (commands : List Command) → files report bytes → IsScriptFile files script commands → fault ≡ faults.Memory
      → IsReportRefusal files failed report script fault

-- no script: of the file, or where none is named memory was refused for that of no commands
abbrev pub IsScriptRefusal : FileBytes → Type 0 → Option (List ℕ) → Fault → Type 0
IsScriptRefusal files failed (Some name) fault = IsScriptFileRefusal files failed name fault
IsScriptRefusal files failed None fault = fault ≡ faults.Script scripts.Memory

-- more bytes than a capture is read from, or bytes that are no capture
pub data IsNoCapture (bytes : List ℕ) (fault : Fault) : Type 0 where
  too_large : 2 ^ 40 < length bytes → fault ≡ faults.Memory → IsNoCapture bytes fault
  no_records : (why : CaptureFault) → RefusesCapture bytes why → fault ≡ faults.Capture why → IsNoCapture bytes fault

-- what of the bytes is read is no capture; or memory was refused for what is read, where that is altered
pub data IsNoCaptureIn (reading : Reading) (bytes : List ℕ) (fault : Fault) : Type 0 where
  left_refused : (left : List ℕ) → AreCaptureBytes reading bytes left → IsNoCapture left fault → IsNoCaptureIn reading bytes fault
  none_left : alters reading ≡ true → fault ≡ faults.Memory → IsNoCaptureIn reading bytes fault

-- the file was not read, or its bytes are no capture
pub data IsCaptureRefusal (files : FileBytes) (failed : Type 0) (reading : Reading) (name : List ℕ) (fault : Fault) : Type 0 where
  no_capture_bytes : IsUnserved failed fault → IsCaptureRefusal files failed reading name fault
  no_capture : (bytes : List ℕ) → files name bytes → IsNoCaptureIn reading bytes fault
      → IsCaptureRefusal files failed reading name fault

-- xlb script: no capture was read; or one was, and the timed script was not; or both were, and this means no script for its records
pub data IsTimedRefusal (files : FileBytes) (failed : Type 0) (reading : Reading) (capture timed : List ℕ) (fault : Fault) : Type 0 where
  no_timed_capture : IsCaptureRefusal files failed reading capture fault → IsTimedRefusal files failed reading capture timed fault
  no_timed_bytes : (records : List Sent) → IsCaptureOf files reading capture records → IsUnserved failed fault
      → IsTimedRefusal files failed reading capture timed fault
  means_none : (records : List Sent) (bytes : List ℕ) (why : ControlFault) → IsCaptureOf files reading capture records → files timed bytes
      → MeansNone records bytes why → fault ≡ faults.Script why → IsTimedRefusal files failed reading capture timed fault

-- why the replay was given up: for its options exactly where no shards are opened with them, or the script has commands and the maps are
-- not those of steering; else memory was refused, an update was refused or met a full journal, or a thread could not be started (an exact
-- replay has none)
pub record IsGivenUp (exact : Bool) (maps : List MapDef) (updates : List MapUpdate) (script : List Command) (options : Options)
    (recording : Recording) (why : ReplayFault) : Type 0 where
  pub options_are_bad : (why ≡ replays.BadOptions) ↔ AreBadOptions maps options script
  pub no_thread : exact ≡ true → ¬ (why ≡ replays.NoThread)
  pub of_update : OfUpdate (IsWhyInTurn maps (recorded recording options) updates) why

-- The files of a replay were not written: that of the sent frames, and no other file changed; or that of the journals, and the sent
-- frames are in theirs; or that of the report, and the sent frames and the journals are in theirs.
pub data AreUnfiled (before after : FileBytes) (failed : Type 0) (names : ReplayFiles) (sent : List ℕ) (journals : JournalsView)
    (fault : Fault) : Type 0 where
  no_sent_file : AreOthersKept before after names.sent.now → IsUnserved failed fault
      → AreUnfiled before after failed names sent journals fault
  no_journals_file : (text_of names.journals ≢ Some names.sent.now → after names.sent.now sent)
      → AreUnwritten (text_of names.journals) failed fault → AreUnfiled before after failed names sent journals fault
  no_report_file : (text_of names.journals ≢ Some names.sent.now → text_of names.report ≢ Some names.sent.now → after names.sent.now sent)
      → (text_of names.report ≢ text_of names.journals → AreWritten after (text_of names.journals) journals)
      → AreUnwritten (text_of names.report) failed fault → AreUnfiled before after failed names sent journals fault

-- Of a program that may run and whose maps take the updates, a script and the records of a capture: a replay that was given up; one that was
-- made, and memory was refused for its journals, its report or what is printed; until then no file changed; or its files were not written.
pub data IsUnmade (before after : FileBytes) (failed : Type 0) (names : ReplayFiles) (program : Contents) (script : List Command)
    (options : Options) (recording : Recording) (exact : Bool) (updates : List MapUpdate) (records : List Sent) (fault : Fault) : Type 0 where
  given_up : (why : ReplayFault) → AreKept before after → IsGivenUp exact program.maps updates script options recording why
      → fault ≡ faults.Replay why → IsUnmade before after failed names program script options recording exact updates records fault
  not_reported : (outcome : Outcome) → AreKept before after
      → IsMade exact (program_of_replay program options) updates script (recorded recording options) records outcome
      → LacksRoom (text_of names.journals) fault
      → IsUnmade before after failed names program script options recording exact updates records fault
  not_written_down : (outcome : Outcome)
      → IsMade exact (program_of_replay program options) updates script (recorded recording options) records outcome
      → AreUnfiled before after failed names (capture_bytes outcome.sent.items) outcome.journals fault
      → IsUnmade before after failed names program script options recording exact updates records fault

-- Of a program that may run and whose maps take the updates, and a script: no capture, or none that was read to its end (in pieces, also for
-- what was made of it beside the files); one of which a part is replayed, and memory was refused for the script's commands in it; until then
-- no file changed; or no replay of the part was made and written down.
pub data IsUnreplayed (files after : FileBytes) (failed : Type 0) (names : ReplayFiles) (program : Contents) (script : List Command)
    (options : Options) (recording : Recording) (exact : Bool) (reading : Reading) (part : Option Part) (updates : List MapUpdate)
    (fault : Fault) : Type 0 where
  no_replay_capture : AreKept files after → IsCaptureRefusal files failed reading names.capture.now fault
      → IsUnreplayed files after failed names program script options recording exact reading part updates fault
  no_part : (captured : List Sent) (taken : Part) → AreKept files after → IsCaptureOf files reading names.capture.now captured
      → part ≡ Some taken → fault ≡ faults.Memory
      → IsUnreplayed files after failed names program script options recording exact reading part updates fault
  unmade : (captured : List Sent) → IsCaptureOf files reading names.capture.now captured
      → IsUnmade files after failed names program (script_in part captured script) options recording exact updates (records_in part captured)
      fault
      → IsUnreplayed files after failed names program script options recording exact reading part updates fault

-- xlb replay: no program that may run; no script; or both, and no replay that was made and written down; or it was, and what the maps hold
-- was not written
pub data IsReplayRefusal (files after : FileBytes) (failed : Type 0) (names : ReplayFiles) (options : Options) (recording : Recording)
    (flows ring : ℕ) (exact : Bool) (reading : Reading) (part : Option Part) (updates : List MapUpdate) (fault : Fault) : Type 0 where
  no_replay_program : AreKept files after → IsReplayProgramRefusal files failed (text_of names.image) flows ring fault
      → IsReplayRefusal files after failed names options recording flows ring exact reading part updates fault
  no_replay_script : (program : Contents) → AreKept files after → IsReplayProgram files (text_of names.image) flows ring program
      → AreFitting program.maps updates → IsScriptRefusal files failed (text_of names.script) fault
      → IsReplayRefusal files after failed names options recording flows ring exact reading part updates fault
  not_replayed : (program : Contents) (script : List Command) → IsReplayProgram files (text_of names.image) flows ring program
      → AreFitting program.maps updates → IsScriptOf files (text_of names.script) script
      → IsUnreplayed files after failed names program script options recording exact reading part updates fault
      → IsReplayRefusal files after failed names options recording flows ring exact reading part updates fault
  no_maps_file : (verified : Verified) (script : List Command) (report : Report)
      → IsReplayProgram files (text_of names.image) flows ring (image_of verified) → AreFitting verified.maps updates
      → IsScriptOf files (text_of names.script) script
      → IsReplayReport files after names verified script options recording ring exact reading part updates report
      → AreUnwritten (text_of names.maps) failed fault
      → IsReplayRefusal files after failed names options recording flows ring exact reading part updates fault

-- the same of what is asked
abbrev pub IsReplayRefused : FileBytes → FileBytes → Type 0 → ReplaySettings → Fault → Type 0
IsReplayRefused before after failed asked fault =
    IsReplayRefusal before after failed asked.files asked.options (recording_in asked) asked.flows asked.ring asked.exact
    (capture_reading asked.reading) asked.part asked.updates.items fault

-- ---- commands

-- the fault that a command is refused with
abbrev pub IsRefusedWith : FileBytes → FileBytes → Type 0 → Settings → Fault → Type 0
IsRefusedWith before after failed (Check image false) fault = IsCheckRefusal before failed image.now fault
IsRefusedWith before after failed (Check image true) fault = IsExplainRefusal before failed image.now fault
IsRefusedWith before after failed (Run files now worker updates) fault =
    IsRunRefusal before after failed files now worker updates.items fault
IsRefusedWith before after failed (Disasm image source) fault = IsTextRefusal before failed image.now fault
IsRefusedWith before after failed (Audit image journals) fault = IsAuditRefusal before failed image.now journals.now fault
IsRefusedWith before after failed (Explain about) fault = fault ≡ faults.Memory
IsRefusedWith before after failed (Asm text out source) fault = IsAsmRefusal before after failed source text.now fault
IsRefusedWith before after failed (Shipped out ring flows) fault = IsShippedFileRefusal before after failed flows ring fault
IsRefusedWith before after failed (Table script ring) fault = IsTableRefusal before failed script.now ring fault
IsRefusedWith before after failed (Script capture timed reading) fault =
    IsTimedRefusal before failed (capture_reading reading) capture.now timed.now fault
IsRefusedWith before after failed (Compare first second) fault = IsComparisonRefusal failed fault
IsRefusedWith before after failed (Flows report script) fault = IsReportRefusal before failed report.now script.now fault
IsRefusedWith before after failed (Page report script) fault = IsReportRefusal before failed report.now script.now fault
IsRefusedWith before after failed (Replay asked) fault = IsReplayRefused before after failed asked fault

-- the fault that is printed: the command was refused with it; or it was done, and what it prints could not be printed
pub data IsPrintedFault (before after : FileBytes) (failed unprinted : Type 0) (settings : Settings) (fault : Fault) : Type 0 where
  refused_with : IsRefusedWith before after failed settings fault → IsPrintedFault before after failed unprinted settings fault
  not_printed : (printed : List ℕ) → IsDone before after settings printed ⊎ IsDoneInPart before after settings printed → unprinted
      → fault ≡ faults.Output → IsPrintedFault before after failed unprinted settings fault

-- ---- what is printed

-- the notes that go below the fault's line
abbrev pub printed_notes : {Z : Type 0} → Option (String Z) → List ℕ
printed_notes None = []
printed_notes (Some notes) = string_bytes notes

-- To a stream that held `before` one text was written: the fault's line, and below it the notes' lines, which begin with two blanks each.
-- Where memory was refused for that text, it is the line of fault 8.
pub data PrintsRefusal (fault : Fault) (notes : List ℕ) (before after : Option (List ℕ)) : Type 0 where
  in_full : (text : List ℕ) → IsRefusalText (fault_line fault) notes text → after ≡ append_known before text
      → PrintsRefusal fault notes before after
  lacks_text : after ≡ append_known before (codes "fault 8 Memory\n") → PrintsRefusal fault notes before after

-- To a stream that held `before` one text was written: which update the image's maps do not take, and why. Where memory was refused for
-- that text, it is the line of fault 8.
pub data PrintsMistake (place : ℕ) (misfit : Misfit) (before after : Option (List ℕ)) : Type 0 where
  in_words : after ≡ append_known before (mistake_text place misfit) → PrintsMistake place misfit before after
  lacks_words : after ≡ append_known before (codes "fault 8 Memory\n") → PrintsMistake place misfit before after

-- the same of a file that would be written over another one
pub data PrintsClash (written other : List ℕ) (before after : Option (List ℕ)) : Type 0 where
  in_line : after ≡ append_known before (clash_text written other) → PrintsClash written other before after
  lacks_line : after ≡ append_known before (codes "fault 8 Memory\n") → PrintsClash written other before after

-- the same of a file that is there already
pub data PrintsPresent (name : List ℕ) (before after : Option (List ℕ)) : Type 0 where
  in_its_line : after ≡ append_known before (present_text name) → PrintsPresent name before after
  lacks_its_line : after ≡ append_known before (codes "fault 8 Memory\n") → PrintsPresent name before after

-- a file that is to be written is there already, by what the folder knows, and the command may write over none: that was printed on `err`,
-- unless that failed; no file was read or written, and nothing was printed on `out`
pub record IsInTheWay (before after : FileBytes) (has : List ℕ → Bool → Type 0) (settings : Settings) (out out' err err' : Stream) : Type 0 where
  pub name : List ℕ
  pub anew : IsWrittenAnew settings name
  pub there : has name true
  pub kept : AreKept before after
  pub printed : err'.failures ≡ err.failures → PrintsPresent name err.held err'.held
  pub nothing : out' ≡ out

-- a file would be written over another one that the command has, which are one by what the folder knows: that was printed on `err`, unless
-- that failed; no file was read or written, and nothing was printed on `out`
pub record IsClash (before after : FileBytes) (are_one : FileBytes) (settings : Settings) (out out' err err' : Stream) : Type 0 where
  pub written : List ℕ
  pub other : List ℕ
  pub over : IsOver settings written other
  pub one : are_one written other
  pub kept : AreKept before after
  pub printed : err'.failures ≡ err.failures → PrintsClash written other err.held err'.held
  pub nothing : out' ≡ out

-- a mistake of the command line that shows in the image was printed on `err`, unless that failed, and nothing on `out`
pub record IsMisfitPrinted (before after : FileBytes) (settings : Settings) (out out' err err' : Stream) : Type 0 where
  pub place : ℕ
  pub misfit : Misfit
  pub is : IsMistake before after settings place misfit
  pub printed : err'.failures ≡ err.failures → PrintsMistake place misfit err.held err'.held
  pub nothing : out' ≡ out

-- files cannot be compared, or one is no report: that was printed on `err`, unless that failed, and nothing on `out`
pub record IsUnlikePrinted (before after : FileBytes) (settings : Settings) (out out' err err' : Stream) : Type 0 where
  pub text : List ℕ
  pub said : IsUnlikeSaid before after settings text
  pub printed : err'.failures ≡ err.failures → err'.held ≡ append_known err.held text
  pub nothing : out' ≡ out

-- a mistake that shows only in the image, in the files' names, or in files that cannot be compared
abbrev pub IsMistaken : FileBytes → FileBytes → FileBytes → (List ℕ → Bool → Type 0) → Settings → Stream → Stream → Stream → Stream
    → Type 0
IsMistaken before after are_one has settings out out' err err' =
    IsMisfitPrinted before after settings out out' err err'
    ⊎ (IsClash before after are_one settings out out' err err'
    ⊎ (IsInTheWay before after has settings out out' err err' ⊎ IsUnlikePrinted before after settings out out' err err'))

-- the line of the command's fault was printed on `err`, unless that failed, and nothing to `out`, unless that failed
pub record IsRefusalPrinted (before after : FileBytes) (failed : Type 0) (settings : Settings) (out out' err err' : Stream) : Type 0 where
  pub fault : Fault
  pub fault_is : IsPrintedFault before after failed (HasFailed out.failures out'.failures) settings fault
  pub notes : List ℕ
  pub printed : err'.failures ≡ err.failures → PrintsRefusal fault notes err.held err'.held
  pub nothing : out'.failures ≡ out.failures → out'.held ≡ out.held

-- the command is refused: its report says so, or its fault was printed
abbrev pub IsRefused : FileBytes → FileBytes → Type 0 → Settings → Stream → Stream → Stream → Stream → Type 0
IsRefused before after failed settings out out' err err' =
    IsReported before after settings out.held out'.held err err' ⊎ IsRefusalPrinted before after failed settings out out' err err'
