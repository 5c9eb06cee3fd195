use Rattle.std.proofs.Common.{◌≡◌, ◌+◌, ◌≤◌, [], ℕ, length}
use Rattle.std.specs.Prelude.{vec_capacity}
use Rattle.rx_queues.specs.declared.passes.TakePass.{TakePass}
use Rattle.rx_queues.specs.declared.passes.Queues.{Queues}
use Rattle.rx_queues.specs.Passes.{IsTakePassOf, place_taken_from, jobs_taken}
use Rattle.semantics.specs.Each.{Each}
use Rattle.replay.specs.Crews.{IsReadyAt, IsLane}
use Rattle.replay.proofs.crew.start_all.Given as goal

abbrev pub IsTakeAt : Queues → ℕ → TakePass → Type 0
IsTakeAt queues at take = IsTakePassOf queues take × (place_taken_from take ≡ at) × (jobs_taken take ≡ [])

pub record Started (g : goal.Over) (l : goal.Live-workers g) : Type 0 where
  pub count_is : l.count ≡ length l.fn.states.items
  pub takes_left : l.count ≤ l.worker + length l.takes.items
  pub takes : Each (IsTakeAt l.queues) l.worker l.takes.items
  pub states_left : l.worker + length l.states.items ≡ l.count
  pub states : Each (IsReadyAt (g.W.Runner.is_new l.runner) (g.W.Runner.is_idle l.runner)) l.worker l.states.items
  pub counted : length l.lanes.items ≡ l.worker
  pub room : l.count ≤ vec_capacity l.lanes
  pub lanes : Each (IsLane l.queues l.capture l.runner) 0 l.lanes.items

abbrev pub invariant-workers : goal.invariant-workers
invariant-workers g l = Started g l
