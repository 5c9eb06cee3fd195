use Rattle.std.proofs.Common.{◌∙◌}
use Rattle.plain_maps.proofs.Keys.{words_step}
use Rattle.plain_maps.proofs.buckets.hash_of.Goals as goal

pub words-preserved : goal.words-preserved
words-preserved c =
    let step = words_step c.words.rest.now c.in-Some.word.now c.in-Some.later.now c.words.hash c.in-Some.ensures.cases.0 c.in-Some.ensures.cases.1 c.in-Some.ensures.cases.2 in
    rw (c.mixed-hash.ensures, c.from_le_bytes.ensures) (step ∙ c.words.invariant)
