use Rattle.std.proofs.Common.{sym, false}
use Rattle.std.proofs.lemmas.Str.Pattern.{ends_text}
use Rattle.source_form.proofs.words.without_end.Goals as goal

pub returns-in-None-clause-none : goal.returns-in-None-clause-none
returns-in-None-clause-none c = sym (ends_text false c.args.mark.now c.args.text.now (rw c.in-None.is at c.strip_suffix.ensures.cases))
