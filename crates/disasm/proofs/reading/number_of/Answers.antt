use Rattle.text_lines.proofs.shared.ResultLemmas.{ok_not_err}
use Rattle.disasm.proofs.shared.Numbers.{plain_read, signed_read, ok_value}
use Rattle.disasm.proofs.reading.number_of.Goals as goal

pub returns-in-Ok-clause-plain : goal.returns-in-Ok-clause-plain
returns-in-Ok-clause-plain c = λ z fits is. ok_value c.parse.result c.in-Ok.value z fits c.in-Ok.is (plain_read z c.args.text.now c.parse.result fits is c.parse.ensures.value.0)

pub returns-in-Ok-clause-signed : goal.returns-in-Ok-clause-signed
returns-in-Ok-clause-signed c = λ z fits is. ok_value c.parse.result c.in-Ok.value z fits c.in-Ok.is (signed_read z c.args.text.now c.parse.result fits is c.parse.ensures.value.0)

pub returns-in-Err-clause-plain : goal.returns-in-Err-clause-plain
returns-in-Err-clause-plain c = λ z fits is. absurd (ok_not_err c.parse.result _ z c.in-Err.is (plain_read z c.args.text.now c.parse.result fits is c.parse.ensures.value.0))

pub returns-in-Err-clause-signed : goal.returns-in-Err-clause-signed
returns-in-Err-clause-signed c = λ z fits is. absurd (ok_not_err c.parse.result _ z c.in-Err.is (signed_read z c.args.text.now c.parse.result fits is c.parse.ensures.value.0))
