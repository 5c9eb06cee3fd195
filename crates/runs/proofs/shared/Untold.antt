-- A run that a gate was called for, without the gate.
use Rattle.std.proofs.Common.{ℕ}
use Rattle.wire.specs.FrameView.{FrameView}
use Rattle.semantics.specs.declared.plan.ShardPlan.{ShardPlan}
use Rattle.semantics.specs.MachineState.{MachineState}
use Rattle.semantics.specs.Program.{Program}
use Rattle.machine.specs.declared.exit.Stop.{Stop}
use Rattle.machine.specs.declared.exit.Stop.TheVariants.{JournalFull}
use Rattle.shards.specs.Passes.{PassView}
use Rattle.runs.specs.FrameRuns.{HasStopped, HasStoppedTold}

pub stopped_only : (program : Program) (state : MachineState) (plan : ℕ → ShardPlan) (count worker : ℕ) (before after : PassView) (frame : FrameView)
    (told told' : ℕ) (stop : Stop) → HasStoppedTold program state plan count worker before after frame told told' stop →
    HasStopped program state plan count worker before after frame stop
stopped_only program state plan count worker before after frame told told' (JournalFull shard) was = was.0
