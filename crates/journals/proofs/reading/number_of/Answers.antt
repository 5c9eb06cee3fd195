use Rattle.std.proofs.Common.{arith}
use Rattle.std.proofs.lemmas.Fmt.{parse-decimal}
use Rattle.text_lines.proofs.shared.ResultLemmas.{ok_same, ok_not_err}
use Rattle.journals.proofs.reading.number_of.Goals as goal

pub returns-in-Ok : goal.returns-in-Ok
returns-in-Ok c = λ n lt is. ok_same c.parse.result _ n c.in-Ok.is (parse-decimal 64 n c.args.text.now c.parse.result lt (omega (arith, lt)) is c.parse.ensures.value.0)

pub returns-in-Err : goal.returns-in-Err
returns-in-Err c = λ n lt is. absurd (ok_not_err c.parse.result _ n c.in-Err.is (parse-decimal 64 n c.args.text.now c.parse.result lt (omega (arith, lt)) is c.parse.ensures.value.0))
