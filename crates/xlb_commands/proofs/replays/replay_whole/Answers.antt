use Rattle.std.proofs.Common.{◌≡◌, ◌∙◌, List, Option, Some, None, ap, refl, subst, sym}
use Rattle.std.proofs.lemmas.Result.{err_from_is_err_and, IfErr-weaker, IfOk-weaker, on_ok_weaker}
use Rattle.fleet.specs.declared.part.Part.{Part}
use Rattle.wire.specs.declared.records.Sent.{Sent}
use Rattle.control.specs.declared.command.Command.{Command}
use Rattle.xlb_commands.specs.declared.fault.Fault.{Fault}
use Rattle.xlb_commands.specs.declared.replays.Asked.{Asked}
use Rattle.xlb_commands.specs.declared.report.Report.{Report}
use Rattle.xlb_commands.specs.AskedReplays.{IsAnswered, IsDenied}
use Rattle.xlb_commands.specs.Files.{FileBytes}
use Rattle.xlb_commands.specs.Parts.{records_in, script_in}
use Rattle.xlb_commands.specs.Refused.{IsUnmade, IsUnreplayed, no_part, no_replay_capture, unmade}
use Rattle.xlb_commands.specs.Replays.{IsCaptureOf, IsReplayReport, IsReportOf, image_of}
use Rattle.xlb_commands.proofs.Earlier.{all_but_kept, capture_before, report_before, unreplayed_before}
use Rattle.xlb_commands.proofs.Refusals.{failed_since, kept_back, kept_still}
use Rattle.xlb_commands.proofs.replays.replay_whole.Goals as goal

-- a replay of these commands and records is that of the part which has them
answer_of : (before after : FileBytes) (asked : Asked) (part : Option Part) (captured : List Sent) (script : List Command) (records : List Sent)
    (report : Report) → asked.part ≡ part → IsCaptureOf before asked.reading asked.files.now.capture.now captured
    → script ≡ script_in part captured asked.script.now → records ≡ records_in part captured
    → IsReportOf after asked.files.now asked.verified.now script asked.options asked.recording asked.ring asked.exact
    asked.updates.now records report
    → IsAnswered before after asked report
answer_of before after asked part captured script records report same capture commands taken is =
    subst (λ (it : Option Part). IsReplayReport before after asked.files.now asked.verified.now asked.script.now
    asked.options asked.recording asked.ring asked.exact asked.reading it asked.updates.now report) (sym same)
    (record {
      captured = captured;
      capture = capture;
      of_part = subst (λ (them : List Sent). IsReportOf after asked.files.now asked.verified.now
          (script_in part captured asked.script.now) asked.options asked.recording asked.ring asked.exact asked.updates.now them report) taken
          (subst (λ (them : List Command). IsReportOf after asked.files.now asked.verified.now them asked.options
          asked.recording asked.ring asked.exact asked.updates.now records report) commands is);
    })

-- and so is the reason why none was made
denial_of : (before after : FileBytes) (failed : Type 0) (asked : Asked) (part : Option Part) (captured : List Sent) (script : List Command)
    (records : List Sent) (fault : Fault) → asked.part ≡ part → IsCaptureOf before asked.reading asked.files.now.capture.now captured
    → script ≡ script_in part captured asked.script.now → records ≡ records_in part captured
    → IsUnmade before after failed asked.files.now (image_of asked.verified.now) script asked.options asked.recording asked.exact asked.updates.now
    records fault
    → IsDenied before after failed asked fault
denial_of before after failed asked part captured script records fault same capture commands taken is =
    subst (λ (it : Option Part). IsUnreplayed before after failed asked.files.now (image_of asked.verified.now) asked.script.now asked.options
    asked.recording asked.exact asked.reading it asked.updates.now fault) (sym same)
    (unmade captured capture
    (subst (λ (them : List Sent). IsUnmade before after failed asked.files.now (image_of asked.verified.now) (script_in part captured asked.script.now)
    asked.options asked.recording asked.exact asked.updates.now them fault) taken
    (subst (λ (them : List Command). IsUnmade before after failed asked.files.now (image_of asked.verified.now) them asked.options asked.recording
    asked.exact asked.updates.now records fault) commands is)))

-- the capture is that of the file as it was, and as it is now
pub returns-in-None-clause-done : goal.returns-in-None-clause-done
returns-in-None-clause-done g c =
    let captured = capture_before _ _ (kept_back _ _ c.capture_of.ensures.kept) _ _ _ c.in_ok-capture.ensures.capture in
    IfOk-weaker c.replay_records.result _ _
    (λ report is. report_before _ _ _ _ _ _ _ _ _ _ _ _ _ report c.capture_of.ensures.kept
    (answer_of _ _ c.args.asked None c.in_ok-capture.capture.records.items _ _ report c.in-None.is captured refl refl is))
    c.replay_records.ensures.done

pub returns-in-None-clause-steady : goal.returns-in-None-clause-steady
returns-in-None-clause-steady g c =
    on_ok_weaker c.replay_records.result (λ same. same ∙ c.in_ok-capture.ensures.steady) c.replay_records.ensures.steady

pub returns-in-None-clause-kept : goal.returns-in-None-clause-kept
returns-in-None-clause-kept g c = all_but_kept _ _ _ _ _ _ c.capture_of.ensures.kept c.replay_records.ensures.kept

pub returns-in-None-clause-refused : goal.returns-in-None-clause-refused
returns-in-None-clause-refused g c =
    let captured = capture_before _ _ (kept_back _ _ c.capture_of.ensures.kept) _ _ _ c.in_ok-capture.ensures.capture in
    IfErr-weaker c.replay_records.result _ _
    (λ refusal is. unreplayed_before _ _ _ _ _ _ _ _ _ _ _ _ _ _ refusal.fault c.capture_of.ensures.kept
    (failed_since _ _ _ c.in_ok-capture.ensures.steady)
    (denial_of _ _ _ c.args.asked None c.in_ok-capture.capture.records.items _ _ refusal.fault c.in-None.is captured refl refl is))
    c.replay_records.ensures.refused

pub returns-in_ok-script-in-Some-clause-done : goal.returns-in_ok-script-in-Some-clause-done
returns-in_ok-script-in-Some-clause-done g c =
    let captured = capture_before _ _ (kept_back _ _ c.capture_of.ensures.kept) _ _ _ c.in_ok-capture.ensures.capture in
    IfOk-weaker c.replay_records-in-Some.result _ _
    (λ report is. report_before _ _ _ _ _ _ _ _ _ _ _ _ _ report c.capture_of.ensures.kept
    (answer_of _ _ c.args.asked (Some c.in-Some.part) c.in_ok-capture.capture.records.items _ _ report c.in-Some.is captured
    (c.in_ok-script-in-Some.ensures ∙ ap (λ (them : List Sent). script_in (Some c.in-Some.part) them c.args.asked.script.now) c.deref.ensures.value)
    c.taken_from-taken.ensures is))
    c.replay_records-in-Some.ensures.done

pub returns-in_ok-script-in-Some-clause-steady : goal.returns-in_ok-script-in-Some-clause-steady
returns-in_ok-script-in-Some-clause-steady g c =
    on_ok_weaker c.replay_records-in-Some.result (λ same. same ∙ c.in_ok-capture.ensures.steady) c.replay_records-in-Some.ensures.steady

pub returns-in_ok-script-in-Some-clause-kept : goal.returns-in_ok-script-in-Some-clause-kept
returns-in_ok-script-in-Some-clause-kept g c = all_but_kept _ _ _ _ _ _ c.capture_of.ensures.kept c.replay_records-in-Some.ensures.kept

pub returns-in_ok-script-in-Some-clause-refused : goal.returns-in_ok-script-in-Some-clause-refused
returns-in_ok-script-in-Some-clause-refused g c =
    let captured = capture_before _ _ (kept_back _ _ c.capture_of.ensures.kept) _ _ _ c.in_ok-capture.ensures.capture in
    IfErr-weaker c.replay_records-in-Some.result _ _
    (λ refusal is. unreplayed_before _ _ _ _ _ _ _ _ _ _ _ _ _ _ refusal.fault c.capture_of.ensures.kept
    (failed_since _ _ _ c.in_ok-capture.ensures.steady)
    (denial_of _ _ _ c.args.asked (Some c.in-Some.part) c.in_ok-capture.capture.records.items _ _ refusal.fault c.in-Some.is captured
    (c.in_ok-script-in-Some.ensures ∙ ap (λ (them : List Sent). script_in (Some c.in-Some.part) them c.args.asked.script.now) c.deref.ensures.value)
    c.taken_from-taken.ensures is))
    c.replay_records-in-Some.ensures.refused

pub returns-in_err-script-in-Some-clause-refused : goal.returns-in_err-script-in-Some-clause-refused
returns-in_err-script-in-Some-clause-refused g c =
    let captured = capture_before _ _ (kept_back _ _ c.capture_of.ensures.kept) _ _ _ c.in_ok-capture.ensures.capture in
    let p = err_from_is_err_and c.from_residual-in_err-script-in-Some.result c.from_residual-in_err-script-in-Some.ensures.1 in
    rw p.1 (unreplayed_before _ _ _ _ _ _ _ _ _ _ _ _ _ _ _ c.capture_of.ensures.kept (failed_since _ _ _ c.in_ok-capture.ensures.steady)
    (no_part c.in_ok-capture.capture.records.items c.in-Some.part (kept_still _) captured c.in-Some.is p.2))

pub returns-in_err-capture-clause-refused : goal.returns-in_err-capture-clause-refused
returns-in_err-capture-clause-refused g c =
    let p = err_from_is_err_and c.from_residual.result c.from_residual.ensures.1 in
    rw (p.1, p.2) (no_replay_capture c.capture_of.ensures.kept c.in_err-capture.ensures.refused)
