use Rattle.std.proofs.Common.{◌≡◌, ◌+◌, length}
use Rattle.std.specs.Prelude.{IfSome}
use Rattle.rx_queues.specs.Passes.{IsPutPassOf, jobs_put}
use Rattle.semantics.specs.Each.{Each}
use Rattle.replay.specs.Crews.{IsLane, IsHandled}
use Rattle.replay.proofs.crew.finish_all.Given as goal

pub record Finished (g : goal.Over) (l : goal.Live-workers g) : Type 0 where
  pub count_is : l.count ≡ length l.fn.lanes.items
  pub left : l.worker + length l.lanes.items ≡ l.count
  pub lanes : Each (IsLane l.queues l.capture l.runner) l.worker l.lanes.items
  pub put : IsPutPassOf l.queues l.put
  pub puts : jobs_put l.put ≡ jobs_put l.fn.put
  pub all : IfSome l.all (λ v. (length v.items ≡ l.worker) × Each (IsHandled (g.W.Runner.is_new l.runner) (g.W.Runner.runs l.runner) l.capture.records.items l.count) 0 v.items)

abbrev pub invariant-workers : goal.invariant-workers
invariant-workers g l = Finished g l
