use Rattle.std.proofs.lemmas.Str.Pattern.{split_after}
use Rattle.text_lines.proofs.cutting.cut.Goals as goal

pub returns-in-Some-clause-both : goal.returns-in-Some-clause-both
returns-in-Some-clause-both c = λ xs ys is lacks.
    let h = split_after c.args.mark c.args.text.now xs ys c.split_once.result c.split_once.ensures.cases c.requires is lacks in
    rw c.in-Some.is at h

pub returns-in-None-clause-both : goal.returns-in-None-clause-both
returns-in-None-clause-both c = λ xs ys is lacks.
    let h = split_after c.args.mark c.args.text.now xs ys c.split_once.result c.split_once.ensures.cases c.requires is lacks in
    absurd (rw c.in-None.is at h)
