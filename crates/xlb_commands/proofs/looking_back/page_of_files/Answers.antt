use Rattle.std.specs.Prelude.{Some}
use Rattle.std.proofs.lemmas.Result.{err_from_is_err_and, IfErr-weaker, IfOk-weaker}
use Rattle.xlb_commands.specs.Refused.{no_report_script, no_report_text}
use Rattle.xlb_commands.proofs.Earlier.{script_before}
use Rattle.xlb_commands.proofs.LookingBack.{page_of_both}
use Rattle.xlb_commands.proofs.Refusals.{failed_since, script_refusal_before}
use Rattle.xlb_commands.proofs.looking_back.page_of_files.Goals as goal

pub returns-clause-answered : goal.returns-clause-answered
returns-clause-answered g c =
    IfOk-weaker c.page_shown.result _ _
    (λ answer is. page_of_both (g.D.Folder.holds c.args.folder.now) c.args.report.now c.args.script.now c.in_ok-bytes.bytes.items
    c.in_ok-commands.commands c.in_ok-bytes.ensures.bytes
    (script_before _ _ c.in_ok-bytes.ensures.kept (Some c.args.script.now) _ c.in_ok-commands.ensures.script) answer
    (rw c.deref.ensures.value at is))
    c.page_shown.ensures.answered

pub returns-clause-refused : goal.returns-clause-refused
returns-clause-refused g c =
    IfErr-weaker c.page_shown.result _ _
    (λ refusal is. no_report_text c.in_ok-bytes.bytes.items c.in_ok-commands.commands c.in_ok-bytes.ensures.bytes
    (script_before _ _ c.in_ok-bytes.ensures.kept (Some c.args.script.now) _ c.in_ok-commands.ensures.script) is)
    c.page_shown.ensures.refused

pub returns-in_err-commands-clause-refused : goal.returns-in_err-commands-clause-refused
returns-in_err-commands-clause-refused g c =
    let p = err_from_is_err_and c.from_residual-in_err-commands.result c.from_residual-in_err-commands.ensures.1 in
    rw (p.1, p.2)
    (no_report_script c.in_ok-bytes.bytes.items c.in_ok-bytes.ensures.bytes
    (script_refusal_before _ _ _ _ (Some c.args.script.now) _ c.in_ok-bytes.ensures.kept (failed_since _ _ _ c.in_ok-bytes.ensures.steady)
    c.in_err-commands.ensures.refused))
