use Rattle.reasons.specs.Annotations.{register_item}
use Rattle.reasons.proofs.IndexedLemmas.{written_more}
use Rattle.reasons.proofs.annotated.put_register_items.Goals as goal

pub loop-number-preserved : goal.loop-number-preserved
loop-number-preserved c =
    written_more register_item _ c.loop-number.number _ _ _ _ c.loop-number-test.true c.loop-number.invariant c.in_ok-put_register_item.ensures
