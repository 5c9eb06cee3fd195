use Rattle.reasons.specs.Annotations.{word_item}
use Rattle.reasons.proofs.IndexedLemmas.{written_more}
use Rattle.reasons.proofs.annotated.put_word_items.Goals as goal

pub loop-word-preserved : goal.loop-word-preserved
loop-word-preserved c =
    written_more word_item _ c.loop-word.word _ _ _ _ c.loop-word-test.true c.loop-word.invariant c.in_ok-put_word_item.ensures
