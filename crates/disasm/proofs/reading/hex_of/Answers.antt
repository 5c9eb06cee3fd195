use Rattle.text_lines.proofs.shared.ResultLemmas.{ok_same, ok_not_err}
use Rattle.disasm.proofs.shared.Numbers.{hex_read}
use Rattle.disasm.proofs.reading.hex_of.Goals as goal

pub returns-in-Ok : goal.returns-in-Ok
returns-in-Ok c = λ n lt is. ok_same c.from_str_radix.result _ n c.in-Ok.is (hex_read n c.args.digits.now c.from_str_radix.result lt is c.from_str_radix.ensures.value)

pub returns-in-Err : goal.returns-in-Err
returns-in-Err c = λ n lt is. absurd (ok_not_err c.from_str_radix.result _ n c.in-Err.is (hex_read n c.args.digits.now c.from_str_radix.result lt is c.from_str_radix.ensures.value))
