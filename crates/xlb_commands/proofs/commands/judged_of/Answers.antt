use Rattle.std.proofs.lemmas.Result.{err_from_is_err_and}
use Rattle.xlb_commands.specs.Refused.{no_program, rejected}
use Rattle.xlb_commands.proofs.commands.judged_of.Goals as goal

pub returns-in_err-image-clause-refused : goal.returns-in_err-image-clause-refused
returns-in_err-image-clause-refused g c =
    let p = err_from_is_err_and c.from_residual.result c.from_residual.ensures.1 in
    rw (p.1, p.2) (no_program c.in_err-image.ensures.refused)

pub returns-in-Err-clause-refused : goal.returns-in-Err-clause-refused
returns-in-Err-clause-refused g c =
    rejected c.in_ok-image.image c.in-Err.reject c.in_ok-image.ensures.file c.in-Err.ensures.rejected c.refused_program.ensures
