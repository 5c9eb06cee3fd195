use Rattle.std.proofs.Common.{◌≡◌, ◌≤◌, length}
use Rattle.std.specs.Prelude.{vec_capacity}
use Rattle.replay.proofs.CrewParts.{ArePartedTo}
use Rattle.replay.proofs.crew.parted.Given as goal

pub record Parted (g : goal.Over) (l : goal.Live-workers g) : Type 0 where
  pub count_is : l.count ≡ length l.fn.handled.items
  pub parts : ArePartedTo l.fn.handled.items l._worker l.handled.items l.runs.items l.states.items
  pub runs_room : l.count ≤ vec_capacity l.runs
  pub states_room : l.count ≤ vec_capacity l.states

abbrev pub invariant-workers : goal.invariant-workers
invariant-workers g l = Parted g l
