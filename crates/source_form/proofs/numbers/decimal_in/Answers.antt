use Rattle.std.proofs.Common.{sym, ◌∙◌, ◌∷◌, []}
use Rattle.std.proofs.lemmas.Str.Pattern.{starts_text}
use Rattle.source_form.proofs.NumberReading.{number_read}
use Rattle.source_form.proofs.numbers.decimal_in.Goals as goal

pub returns-in-Ok : goal.returns-in-Ok
returns-in-Ok c = rw c.in-Ok.is at (number_read 10 c.args.digits.now c.parse.result (sym (starts_text c.starts_with.result (43 ∷ []) c.args.digits.now c.starts_with.ensures.cases) ∙ c.if-starts_with.false) c.parse.ensures.value.0)

pub returns-in-Err : goal.returns-in-Err
returns-in-Err c = rw c.in-Err.is at (number_read 10 c.args.digits.now c.parse.result (sym (starts_text c.starts_with.result (43 ∷ []) c.args.digits.now c.starts_with.ensures.cases) ∙ c.if-starts_with.false) c.parse.ensures.value.0)
