use Rattle.text_lines.proofs.shared.ResultLemmas.{ok_same, ok_not_err}
use Rattle.journals.proofs.Words.{signed_read, back_to}
use Rattle.journals.proofs.reading.signed_of.Goals as goal

pub returns-in-Ok : goal.returns-in-Ok
returns-in-Ok c = λ n lt is. back_to c.in-Ok.value n lt (ok_same c.parse.result _ n c.in-Ok.is (signed_read n c.args.text.now c.parse.result lt is c.parse.ensures.value.0))

pub returns-in-Err : goal.returns-in-Err
returns-in-Err c = λ n lt is. absurd (ok_not_err c.parse.result _ n c.in-Err.is (signed_read n c.args.text.now c.parse.result lt is c.parse.ensures.value.0))
