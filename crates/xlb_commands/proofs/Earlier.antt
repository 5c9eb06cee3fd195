-- What a later call did or refused, said of the files as they were before earlier calls that changed none.
use Rattle.std.proofs.Common.{ℕ, Bool, List, Option, Some, None}
use Rattle.verifier.specs.Verified.{Verified}
use Rattle.ebpf_decode.specs.ImageContents.{Contents}
use Rattle.semantics.specs.declared.options.Options.{Options}
use Rattle.semantics.specs.declared.options.Recording.{Recording}
use Rattle.map_updates.specs.declared.update.MapUpdate.{MapUpdate}
use Rattle.wire.specs.declared.records.Sent.{Sent}
use Rattle.control.specs.declared.command.Command.{Command}
use Rattle.journals.specs.JournalsView.{JournalsView}
use Rattle.journals.specs.JournalText.{journals_text}
use Rattle.command_line.specs.declared.commands.ReplayFiles.{ReplayFiles}
use Rattle.command_line.specs.Reading.{text_of}
use Rattle.capture_readings.specs.declared.readings.Reading.{Reading}
use Rattle.fleet.specs.declared.part.Part.{Part}
use Rattle.xlb_commands.specs.declared.fault.Fault.{Fault}
use Rattle.xlb_commands.specs.declared.report.Report.{Report}
use Rattle.xlb_commands.specs.Files.{FileBytes, AreKept, AreOthersKept, AreAllButKept}
use Rattle.xlb_commands.specs.Replays.{AreWritten, IsCaptureOf, IsReplayReport, IsScriptOf}
use Rattle.xlb_commands.specs.Refused.{AreUnfiled, no_sent_file, no_journals_file, no_report_file}
use Rattle.xlb_commands.specs.Refused.{IsUnmade, given_up, not_reported, not_written_down}
use Rattle.xlb_commands.specs.Refused.{IsUnreplayed, no_replay_capture, no_part, unmade}
use Rattle.xlb_commands.proofs.Refusals.{kept_twice, unserved_since, unfiled_since, capture_refusal_before}

-- after calls that changed nothing
pub all_but_kept : (a b c : FileBytes) (sent : List ℕ) (journals report : Option (List ℕ)) → AreKept a b → AreAllButKept b c sent journals report
    → AreAllButKept a c sent journals report
all_but_kept a b c sent journals report kept last = λ name bytes not_sent not_journals not_report. (
  (λ had. (last name bytes not_sent not_journals not_report).0 ((kept name bytes).0 had)),
  (λ has. (kept name bytes).1 ((last name bytes not_sent not_journals not_report).1 has)),
)

others_kept : (a b c : FileBytes) (sent : List ℕ) → AreKept a b → AreOthersKept b c sent → AreOthersKept a c sent
others_kept a b c sent kept last = λ name bytes other. (
  (λ had. (last name bytes other).0 ((kept name bytes).0 had)),
  (λ has. (kept name bytes).1 ((last name bytes other).1 has)),
)

pub script_before : (a b : FileBytes) → AreKept a b → (name : Option (List ℕ)) (script : List Command) → IsScriptOf b name script → IsScriptOf a name script
script_before a b kept None script is = is
script_before a b kept (Some name) script is = record { bytes = is.bytes; read = (kept name is.bytes).1 is.read; spelled = is.spelled }

pub capture_before : (a b : FileBytes) → AreKept a b → (reading : Reading) (name : List ℕ) (records : List Sent)
    → IsCaptureOf b reading name records → IsCaptureOf a reading name records
capture_before a b kept reading name records is =
    record { bytes = is.bytes; read = (kept name is.bytes).1 is.read; spelled = is.spelled }

pub unfiled_before : (a b c : FileBytes) (failed since : Type 0) (names : ReplayFiles) (sent : List ℕ) (journals : JournalsView) (fault : Fault)
    → AreKept a b → (failed → since) → AreUnfiled b c failed names sent journals fault → AreUnfiled a c since names sent journals fault
unfiled_before a b c failed since names sent journals fault kept so (no_sent_file others unserved) =
    no_sent_file (others_kept a b c names.sent.now kept others) (unserved_since failed since fault so unserved)
unfiled_before a b c failed since names sent journals fault kept so (no_journals_file stands unwritten) =
    no_journals_file stands (unfiled_since (text_of names.journals) failed since fault so unwritten)
unfiled_before a b c failed since names sent journals fault kept so (no_report_file stands written unwritten) =
    no_report_file stands written (unfiled_since (text_of names.report) failed since fault so unwritten)

-- nor did a call behind them change files
written_still : (b c : FileBytes) (name : Option (List ℕ)) (journals : JournalsView) → AreKept b c → AreWritten b name journals → AreWritten c name journals
written_still b c None journals kept written = written
written_still b c (Some file) journals kept written = (kept file (journals_text journals)).0 written

pub unfiled_still : (a b c : FileBytes) (failed since : Type 0) (names : ReplayFiles) (sent : List ℕ) (journals : JournalsView) (fault : Fault)
    → AreKept b c → (failed → since) → AreUnfiled a b failed names sent journals fault → AreUnfiled a c since names sent journals fault
unfiled_still a b c failed since names sent journals fault kept so (no_sent_file others unserved) =
    no_sent_file
    (λ name bytes apart. (
      (λ had. (kept name bytes).0 ((others name bytes apart).0 had)),
      (λ has. (others name bytes apart).1 ((kept name bytes).1 has)),
    ))
    (unserved_since failed since fault so unserved)
unfiled_still a b c failed since names sent journals fault kept so (no_journals_file stands unwritten) =
    no_journals_file (λ apart. (kept _ _).0 (stands apart)) (unfiled_since (text_of names.journals) failed since fault so unwritten)
unfiled_still a b c failed since names sent journals fault kept so (no_report_file stands written unwritten) =
    no_report_file (λ apart third. (kept _ _).0 (stands apart third)) (λ apart. written_still b c (text_of names.journals) journals kept (written apart))
    (unfiled_since (text_of names.report) failed since fault so unwritten)

pub report_before : (a b c : FileBytes) (files : ReplayFiles) (verified : Verified) (script : List Command) (options : Options) (recording : Recording)
    (ring : ℕ) (exact : Bool) (reading : Reading) (part : Option Part) (updates : List MapUpdate) (report : Report) → AreKept a b
    → IsReplayReport b c files verified script options recording ring exact reading part updates report
    → IsReplayReport a c files verified script options recording ring exact reading part updates report
report_before a b c files verified script options recording ring exact reading part updates report kept is = record {
  captured = is.captured;
  capture = capture_before a b kept reading files.capture.now is.captured is.capture;
  of_part = is.of_part;
}

pub unmade_before : (a b c : FileBytes) (failed since : Type 0) (names : ReplayFiles) (program : Contents) (script : List Command) (options : Options)
    (recording : Recording) (exact : Bool) (updates : List MapUpdate) (records : List Sent) (fault : Fault) → AreKept a b → (failed → since)
    → IsUnmade b c failed names program script options recording exact updates records fault
    → IsUnmade a c since names program script options recording exact updates records fault
unmade_before a b c failed since names program script options recording exact updates records fault kept so (given_up why still given is) =
    given_up why (kept_twice a b c kept still) given is
unmade_before a b c failed since names program script options recording exact updates records fault kept so (not_reported outcome still made lacks) =
    not_reported outcome (kept_twice a b c kept still) made lacks
unmade_before a b c failed since names program script options recording exact updates records fault kept so (not_written_down outcome made unfiled) =
    not_written_down outcome made (unfiled_before a b c failed since names _ outcome.journals fault kept so unfiled)

pub unreplayed_before : (a b c : FileBytes) (failed since : Type 0) (names : ReplayFiles) (program : Contents) (script : List Command) (options : Options)
    (recording : Recording) (exact : Bool) (reading : Reading) (part : Option Part) (updates : List MapUpdate) (fault : Fault) → AreKept a b
    → (failed → since)
    → IsUnreplayed b c failed names program script options recording exact reading part updates fault
    → IsUnreplayed a c since names program script options recording exact reading part updates fault
unreplayed_before a b c failed since names program script options recording exact reading part updates fault kept so (no_replay_capture still refused) =
    no_replay_capture (kept_twice a b c kept still) (capture_refusal_before a b failed since reading names.capture.now fault kept so refused)
unreplayed_before a b c failed since names program script options recording exact reading part updates fault kept so
    (no_part captured taken still capture some is) =
    no_part captured taken (kept_twice a b c kept still) (capture_before a b kept reading names.capture.now captured capture) some is
unreplayed_before a b c failed since names program script options recording exact reading part updates fault kept so
    (unmade captured capture is) =
    unmade captured (capture_before a b kept reading names.capture.now captured capture)
    (unmade_before a b c failed since names program _ options recording exact updates _ fault kept so is)
