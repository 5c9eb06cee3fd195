use Rattle.control.proofs.Scripts.{is_text}
use Rattle.control.proofs.parsing.parse_script.Goals as goal

pub returns-in-Err-clause-only : goal.returns-in-Err-clause-only
returns-in-Err-clause-only c = λ script is. absurd (c.in-Err.ensures.no_text.not_utf8 (is_text c.args.bytes.now script is))

pub returns-in-Err-clause-accepts : goal.returns-in-Err-clause-accepts
returns-in-Err-clause-accepts c = λ script is. absurd (c.in-Err.ensures.no_text.not_utf8 (is_text c.args.bytes.now script is))
