use Rattle.std.proofs.lemmas.Result.{err_from_is_err_and}
use Rattle.xlb_commands.specs.Refused.{none_to_tell, no_text}
use Rattle.xlb_commands.proofs.commands.disassemble.Goals as goal

pub returns-in_err-image-clause-refused : goal.returns-in_err-image-clause-refused
returns-in_err-image-clause-refused g c =
    let p = err_from_is_err_and c.from_residual.result c.from_residual.ensures.1 in
    rw (p.1, p.2) (none_to_tell c.in_err-image.ensures.refused)

pub returns-in_err-text-clause-refused : goal.returns-in_err-text-clause-refused
returns-in_err-text-clause-refused g c =
    let p = err_from_is_err_and c.from_residual-in_err-text.result c.from_residual-in_err-text.ensures.1 in
    rw p.1 (no_text c.in_ok-image.image c.in_ok-image.ensures.file p.2)
