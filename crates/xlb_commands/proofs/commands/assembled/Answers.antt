use Rattle.std.proofs.lemmas.Result.{err_from_is_err_and}
use Rattle.xlb_commands.specs.Refused.{no_utf8}
use Rattle.xlb_commands.proofs.commands.assembled.Goals as goal

pub returns-in_err-text-clause-refused : goal.returns-in_err-text-clause-refused
returns-in_err-text-clause-refused c =
    let p = err_from_is_err_and c.from_residual.result c.from_residual.ensures.1 in
    let n = c.in_err-text.ensures.no_text in
    rw (p.1, p.2) (no_utf8 n.0 n.1 n.2)
