use Rattle.std.proofs.Common.{◌≡◌, ◌≤◌, length}
use Rattle.std.specs.Prelude.{vec_capacity}
use Rattle.semantics.specs.Each.{Each}
use Rattle.actors.specs.RunsOverShards.{IsNewAt}
use Rattle.replay.proofs.setting.new_workers.Given as goal

pub record Dealt (g : goal.Over) (l : goal.Live-workers g) : Type 0 where
  pub counted : length l.all.items ≡ l.worker
  pub passes : Each IsNewAt 0 l.all.items
  pub room : l.workers ≤ vec_capacity l.all

abbrev pub invariant-workers : goal.invariant-workers
invariant-workers g l = Dealt g l
