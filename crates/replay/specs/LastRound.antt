-- What was done before the reclaimer's last round, and that round behind it.
use Rattle.std.specs.Prelude.{◌≡◌, ℕ, List}
use Rattle.semantics.specs.Each.{Each}
use Rattle.semantics.specs.declared.call.Caller.TheVariants.{Reclaimer}
use Rattle.semantics.specs.declared.plan.ShardPlan.{ShardPlan}
use Rattle.shards.specs.declared.deeds.Deed.{Deed}
use Rattle.shards.specs.declared.deeds.OrderPart.TheVariants.{ByCaller}
use Rattle.shards.specs.Deeds.{deeds_of, AreFirst}
use Rattle.shards.specs.Passes.{PassView}
use Rattle.actors.specs.declared.worker.Working.{Working}
use Rattle.actors.specs.Rounds.{HasMadeRound}
use Rattle.actors.specs.RunsOverShards.{pass_in}
use Rattle.replay.specs.declared.crew.Handled.{Handled}

-- what the pass's caller did is its part of a beginning of these deeds
pub record IsDoneIn (all : List Deed) (pass : PassView) : Type 0 where
  pub begun : List Deed
  pub first : AreFirst begun all
  pub own : pass.deeds ≡ deeds_of (ByCaller pass.who) begun

abbrev pub IsWorkerDoneIn : {B : Type 0} → List Deed → ℕ → Handled (Working B) → Type 0
IsWorkerDoneIn all worker handled = IsDoneIn all (pass_in handled.state)

-- what the workers and the controller did is in these deeds, and the reclaimer made its last round behind its own of them
pub record IsRoundLast {B : Type 0} (plan : ℕ → ShardPlan) (count : ℕ) (all : List Deed) (workers : List (Handled (Working B)))
    (controller reclaimer : PassView) : Type 0 where
  pub by_workers : Each (IsWorkerDoneIn all) 0 workers
  pub by_controller : IsDoneIn all controller
  pub last : HasMadeRound plan count (deeds_of (ByCaller Reclaimer) all) reclaimer.deeds
