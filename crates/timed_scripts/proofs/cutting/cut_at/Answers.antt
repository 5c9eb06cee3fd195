use Rattle.std.proofs.lemmas.Str.Pattern.{split_parts}
use Rattle.timed_scripts.proofs.CuttingLemmas.{cut_is}
use Rattle.timed_scripts.proofs.cutting.cut_at.Goals as goal

pub returns : goal.returns
returns c = cut_is c.args.mark c.args.text.now c.split_once.result (split_parts c.args.mark c.args.text.now c.split_once.result c.split_once.ensures.cases c.requires)
