use Rattle.std.proofs.Common.{◌≡◌, ℕ, List, refl, arith}
use Rattle.std.specs.Fmt.{decimal}
use Rattle.control.specs.ScriptText.{action_text, script_line}
use Rattle.control.proofs.Words.{decimal_lacks}
use Rattle.control.proofs.reading.command_read.Goals as goal

pub returns : goal.returns
unfolding script_line
returns c = λ command is.
    let parts = c.cut.ensures.both (decimal command.frame) (action_text command.action) is.spelled (decimal_lacks 32 command.frame (omega arith) (omega (arith, is.fits.frame))) in
    rw (c.count_of.ensures command.frame is.fits.frame parts.0, c.action_of.ensures command.action is.fits.action parts.1) refl
