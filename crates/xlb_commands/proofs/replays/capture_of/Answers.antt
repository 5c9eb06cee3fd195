use Rattle.std.proofs.Common.{◌∙◌}
use Rattle.std.proofs.lemmas.Result.{err_from_is_err_and, IfErr-weaker, IfOk-weaker, on_ok_weaker}
use Rattle.xlb_commands.specs.Refused.{no_capture_bytes}
use Rattle.xlb_commands.proofs.Earlier.{capture_before}
use Rattle.xlb_commands.proofs.Refusals.{capture_refusal_before, failed_since, kept_twice}
use Rattle.xlb_commands.proofs.replays.capture_of.Goals as goal

pub returns-in_err-capture-clause-refused : goal.returns-in_err-capture-clause-refused
returns-in_err-capture-clause-refused g c =
    let p = err_from_is_err_and c.from_residual.result c.from_residual.ensures.1 in
    rw (p.1, p.2) (no_capture_bytes c.in_err-capture.ensures.refused)

pub returns-in-Some-clause-capture : goal.returns-in-Some-clause-capture
returns-in-Some-clause-capture g c = rw c.in-Some.is at c.in_ok-capture.ensures.capture

pub returns-in-None-clause-capture : goal.returns-in-None-clause-capture
returns-in-None-clause-capture g c =
    IfOk-weaker c.capture_of_bytes.result _ _
    (λ capture is. capture_before _ _ c.kept_capture.ensures.kept c.args.reading c.args.name.now capture.records.items is)
    c.capture_of_bytes.ensures.capture

pub returns-in-None-clause-kept : goal.returns-in-None-clause-kept
returns-in-None-clause-kept g c = kept_twice _ _ _ c.kept_capture.ensures.kept c.capture_of_bytes.ensures.kept

pub returns-in-None-clause-steady : goal.returns-in-None-clause-steady
returns-in-None-clause-steady g c =
    on_ok_weaker c.capture_of_bytes.result (λ same. same ∙ c.in_ok-capture.ensures.steady) c.capture_of_bytes.ensures.steady

pub returns-in-None-clause-refused : goal.returns-in-None-clause-refused
returns-in-None-clause-refused g c =
    IfErr-weaker c.capture_of_bytes.result _ _
    (λ refusal is. capture_refusal_before _ _ _ _ c.args.reading c.args.name.now refusal.fault c.kept_capture.ensures.kept
    (failed_since _ _ _ c.in_ok-capture.ensures.steady) is)
    c.capture_of_bytes.ensures.refused
