use Rattle.std.proofs.Common.{◌∙◌, sym, arith}
use Rattle.std.proofs.lemmas.Str.Pattern.{strip_prefix_char}
use Rattle.timed_scripts.proofs.NumberLemmas.{behind_plus, no_plus}
use Rattle.timed_scripts.proofs.moments.moment_of.Goals as goal

pub returns-in-None : goal.returns-in-None
returns-in-None c =
    let none = rw c.in-None.is at (strip_prefix_char 43 c.args.word.now c.strip_prefix.result c.strip_prefix.ensures.cases (omega arith)) in
    c.fixed_moment.ensures ∙ sym (no_plus c.args.first c.args.word.now none)

pub returns-in-Some : goal.returns-in-Some
returns-in-Some c =
    let some = rw c.in-Some.is at (strip_prefix_char 43 c.args.word.now c.strip_prefix.result c.strip_prefix.ensures.cases (omega arith)) in
    c.since.ensures ∙ sym (behind_plus c.args.first c.args.word.now c.in-Some.later.now some)
