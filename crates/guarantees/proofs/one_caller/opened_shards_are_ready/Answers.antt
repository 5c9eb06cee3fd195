use Rattle.guarantees.proofs.JournalLemmas.{are_legal}
use Rattle.guarantees.proofs.one_caller.opened_shards_are_ready.Goals as goal

pub returns : goal.returns
returns c = λ maps options shards opened. (
  c.opened_serve.ensures maps options shards opened,
  are_legal maps options shards (c.opened_serve.ensures maps options shards opened),
  λ worker number shard known. c.opened_are_outside.ensures maps options shards worker number shard opened known,
)
