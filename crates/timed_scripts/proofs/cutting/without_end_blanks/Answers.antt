use Rattle.std.proofs.Common.{rules, ◌∙◌, sym, ap, arith}
use Rattle.std.proofs.lemmas.Str.Pattern.{strip_suffix_char}
use Rattle.timed_scripts.specs.Cutting.{without_end_blanks}
use Rattle.timed_scripts.proofs.CuttingLemmas.{one_blank, no_blank}
use Rattle.timed_scripts.proofs.cutting.without_end_blanks.Goals as goal

pub blanks-preserved : goal.blanks-preserved
blanks-preserved c =
    let some = rw c.in-Some.is at (strip_suffix_char 32 c.blanks.kept.now c.strip_suffix.result c.strip_suffix.ensures.cases (omega arith)) in
    (search rules, sym (one_blank c.in-Some.front.now) ∙ ap without_end_blanks (sym some) ∙ c.blanks.invariant.1)

pub returns : goal.returns
returns c =
    let none = rw c.in_default.is at (strip_suffix_char 32 c.blanks.kept.now c.strip_suffix.result c.strip_suffix.ensures.cases (omega arith)) in
    sym (no_blank c.blanks.kept.now none) ∙ c.blanks.invariant.1
