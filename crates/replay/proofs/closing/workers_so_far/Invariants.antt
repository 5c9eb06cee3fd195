use Rattle.std.proofs.Common.{◌≡◌, length}
use Rattle.shards.specs.Deeds.{AreFirst}
use Rattle.replay.proofs.LastRound.{AreDoneBelow}
use Rattle.replay.proofs.closing.workers_so_far.Given as goal

pub record Chained (g : goal.Over) (l : goal.Live-workers g) : Type 0 where
  pub end_is : l.place-end ≡ length l.fn.workers.items
  pub same : l.workers.items ≡ l.fn.workers.items
  pub later : AreFirst l.fn.first l.all
  pub done : AreDoneBelow l.all l.place l.fn.workers.items

abbrev pub invariant-workers : goal.invariant-workers
invariant-workers g l = Chained g l
