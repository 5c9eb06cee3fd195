use Rattle.std.proofs.Common.{◌≡◌, ◌∙◌, ap, rules}
use Rattle.std.proofs.lemmas.Result.{IfOk-weaker}
use Rattle.hex.specs.Hex.{encode_lower}
use Rattle.xlb_commands.specs.Results.{run_lines, verdict_name}
use Rattle.xlb_commands.proofs.report.outcome.Goals as goal

pub returns : goal.returns
returns c =
    let verdict_is : c.verdict_name.result.now ≡ verdict_name c.args.exit.verdict = search rules in
    let frame_is : c.as_str.result.now ≡ encode_lower c.args.frame.now.bytes = search rules in
    IfOk-weaker c.run_lines.result _ _
    (λ text printed.
    printed
    ∙ (ap (λ verdict. run_lines verdict c.args.exit.steps c.as_str.result.now) verdict_is
    ∙ ap (run_lines (verdict_name c.args.exit.verdict) c.args.exit.steps) frame_is))
    c.run_lines.ensures
