use Rattle.std.proofs.lemmas.Str.Pattern.{starts_text}
use Rattle.disasm.proofs.reading.begins_with_register.Goals as goal

pub returns : goal.returns
returns c = rw (← c.register_text.ensures) (starts_text c.starts_with.result c.register_text.result.now c.args.text.now c.starts_with.ensures.cases)
