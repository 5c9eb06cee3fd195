-- What the maps hold at the end, in its file, and the other files behind it.
use Rattle.std.proofs.Common.{Bool, ◌≡◌, ◌≢◌, ℕ, List, Option, Some, None, refl, sym, ◌∙◌, subst}
use Rattle.ebpf_decode.specs.declared.map.MapDef.{MapDef}
use Rattle.fleet.specs.declared.part.Part.{Part}
use Rattle.map_updates.specs.declared.update.MapUpdate.{MapUpdate}
use Rattle.semantics.specs.Program.{Program}
use Rattle.semantics.specs.History.{IsLegalJournal}
use Rattle.semantics.specs.MachineState.{MachineState}
use Rattle.semantics.specs.ShardPlan.{plan_at}
use Rattle.semantics.specs.declared.options.Options.{Options}
use Rattle.semantics.specs.declared.options.Recording.{Recording}
use Rattle.semantics.specs.declared.plan.ShardPlan.{ShardPlan}
use Rattle.semantics.specs.declared.verdict.Verdict.{Verdict}
use Rattle.wire.specs.FrameView.{FrameView}
use Rattle.wire.specs.declared.records.Sent.{Sent}
use Rattle.control.specs.declared.command.Command.{Command}
use Rattle.journals.specs.JournalsView.{JournalsView, entries_at}
use Rattle.journals.specs.JournalText.{journals_text}
use Rattle.journals.specs.LegalJournals.{AreLegal}
use Rattle.actors.specs.declared.outcome.Applied.{Applied}
use Rattle.actors.specs.declared.outcome.Outcome.{Outcome}
use Rattle.runs.specs.SingleRuns.{HasRunAlone}
use Rattle.capture_readings.specs.declared.readings.Reading.{Reading}
use Rattle.verifier.specs.Verified.{Verified}
use Rattle.command_line.specs.Reading.{text_of}
use Rattle.command_line.specs.declared.commands.ReplayFiles.{ReplayFiles}
use Rattle.xlb_commands.specs.declared.report.Report.{Report}
use Rattle.xlb_commands.specs.EndMaps.{AreMapsLines, AreMapsWritten}
use Rattle.xlb_commands.specs.Files.{FileBytes, AreKept, AreAllKeptBut, AreAllKeptButTwo, AreAllButKept, AreAllButFourKept}
use Rattle.xlb_commands.specs.RecordReports.{IsReportFile}
use Rattle.xlb_commands.specs.Replays.{AreWritten, HasBytes, IsReplayReport, IsReplayedWith}

-- where a file is named, it has the lines
pub maps_written : (files : FileBytes) (name : Option (List ℕ)) (journals : JournalsView) (lines : List ℕ) → AreMapsLines name journals lines
    → HasBytes files name lines → AreMapsWritten files name journals
maps_written files None journals lines are has = tt
maps_written files (Some name) journals lines are has = (lines, has, are name refl)

-- ---- other files stay where the maps are written to another one

pub journals_behind : (before after : FileBytes) (name maps : Option (List ℕ)) (journals : JournalsView) → AreAllKeptBut before after maps
    → maps ≢ name → AreWritten before name journals → AreWritten after name journals
journals_behind before after None maps journals others apart has = has
journals_behind before after (Some file) maps journals others apart has = (others file (journals_text journals) apart).0 has

report_behind : (before after : FileBytes) (name maps : Option (List ℕ)) (is_shipped : Bool) (script : List Command) (records : List Sent) (outcome : Outcome)
    → AreAllKeptBut before after maps → maps ≢ name → IsReportFile before name is_shipped script records outcome
    → IsReportFile after name is_shipped script records outcome
report_behind before after None maps is_shipped script records outcome others apart has = has
report_behind before after (Some file) maps is_shipped script records outcome others apart has = (others file _ apart).0 has

with_behind : (before after : FileBytes) (files : ReplayFiles) (verified : Verified) (script : List Command) (options : Options) (recording : Recording)
    (ring : ℕ) (exact : Bool) (updates : List MapUpdate) (records : List Sent) (printed : List ℕ) (refused : List Applied)
    → AreAllKeptBut before after (text_of files.maps)
    → IsReplayedWith before files verified script options recording ring exact updates records printed refused
    → IsReplayedWith after files verified script options recording ring exact updates records printed refused
with_behind before after files verified script options recording ring exact updates records printed refused others is = record {
  options_are_served = is.options_are_served;
  outcome = is.outcome;
  made = is.made;
  listed = is.listed;
  by_rule = is.by_rule;
  readers = is.readers;
  refused_are = is.refused_are;
  sent = λ other third apart. (others files.sent.now _ apart).0 (is.sent other third apart);
  journals = λ third apart. journals_behind before after (text_of files.journals) (text_of files.maps) is.outcome.journals others apart
      (is.journals third apart);
  accepted = is.accepted;
  report = λ apart. report_behind before after (text_of files.report) (text_of files.maps) _ script records is.outcome others apart
      (is.report apart);
  lines = is.lines;
}

-- a replay that was made and written down, behind the writing of what the maps hold
pub replay_behind : (first before after : FileBytes) (files : ReplayFiles) (verified : Verified) (script : List Command) (options : Options)
    (recording : Recording) (ring : ℕ) (exact : Bool) (reading : Reading) (part : Option Part) (updates : List MapUpdate) (report : Report)
    → AreAllKeptBut before after (text_of files.maps)
    → IsReplayReport first before files verified script options recording ring exact reading part updates report
    → IsReplayReport first after files verified script options recording ring exact reading part updates report
unfolding with_behind
replay_behind first before after files verified script options recording ring exact reading part updates report others is = record {
  captured = is.captured;
  capture = is.capture;
  of_part = (
    is.of_part.0,
    with_behind before after files verified _ options recording ring exact updates _ _ _ others is.of_part.1,
    is.of_part.2,
    is.of_part.3,
    is.of_part.4,
  );
}

-- ---- which files are kept

-- after two readings and two writings
pub kept_but_two : (a b c d e : FileBytes) (written other : Option (List ℕ)) → AreKept a b → AreKept b c → AreAllKeptBut c d written
    → AreAllKeptBut d e other → AreAllKeptButTwo a e written other
kept_but_two a b c d e written other first second third last = λ name bytes not_written not_other. (
  (λ had. (last name bytes not_other).0 ((third name bytes not_written).0 ((second name bytes).0 ((first name bytes).0 had)))),
  (λ has. (first name bytes).1 ((second name bytes).1 ((third name bytes not_written).1 ((last name bytes not_other).1 has)))),
)

-- after a replay and a writing; and after a replay alone
pub all_but_four : (a b c : FileBytes) (sent : List ℕ) (journals report maps : Option (List ℕ)) → AreAllButKept a b sent journals report
    → AreAllKeptBut b c maps → AreAllButFourKept a c sent journals report maps
all_but_four a b c sent journals report maps replay last = λ name bytes not_sent not_journals not_report not_maps.
    let one = replay name bytes not_sent not_journals not_report in
    let other = last name bytes not_maps in
    ((λ had. other.0 (one.0 had)), (λ has. one.1 (other.1 has)))

pub but_four : (a b : FileBytes) (sent : List ℕ) (journals report maps : Option (List ℕ)) → AreAllButKept a b sent journals report
    → AreAllButFourKept a b sent journals report maps
but_four a b sent journals report maps replay = λ name bytes not_sent not_journals not_report not_maps. replay name bytes not_sent not_journals not_report

-- after calls that changed nothing
pub four_kept : (a b c : FileBytes) (sent : List ℕ) (journals report maps : Option (List ℕ)) → AreKept a b
    → AreAllButFourKept b c sent journals report maps → AreAllButFourKept a c sent journals report maps
four_kept a b c sent journals report maps kept last = λ name bytes not_sent not_journals not_report not_maps.
    let one = kept name bytes in
    let other = last name bytes not_sent not_journals not_report not_maps in
    ((λ had. other.0 (one.0 had)), (λ has. one.1 (other.1 has)))

-- ---- the journals of a run are legal

same_plan : (one other : ShardPlan) → Some one ≡ Some other → one ≡ other
same_plan one other e = cc

pub legal_of_run : (program : Program) (start : MachineState) (options : Options) (worker : ℕ) (updates : List MapUpdate) (verdict : Verdict) (steps : ℕ)
    (frame : FrameView) (journals : JournalsView) → HasRunAlone program start options worker updates verdict steps frame journals → AreLegal journals
legal_of_run program start options worker updates verdict steps frame journals ran = λ number below plan is.
    let of = ran.journals_are in
    let at = of.legal number below in
    let of_maps : plan_at program.maps journals.options number ≡ Some plan =
    subst (λ (maps : List MapDef). plan_at maps journals.options number ≡ Some plan) of.maps_are is in
    let of_options : plan_at program.maps options number ≡ Some plan =
    subst (λ (its : Options). plan_at program.maps its number ≡ Some plan) of.options_are of_maps in
    subst (λ (its : ShardPlan). IsLegalJournal its (entries_at journals number)) (same_plan at.plan plan (sym at.planned ∙ of_options)) at.legal
