-- That runs over shared shards are runs of the system.
use Rattle.std.specs.Prelude.{◌≡◌, ℕ, ◌<◌, ◌^◌, List, [], ◌∷◌, ◌++◌}
use Rattle.semantics.specs.declared.call.Call.{Call}
use Rattle.semantics.specs.declared.plan.ShardPlan.{ShardPlan}
use Rattle.semantics.specs.declared.verdict.Verdict.{Verdict}
use Rattle.semantics.specs.MachineState.{MachineState, initial_state}
use Rattle.semantics.specs.RunTrace.{HasExited, Waits, trace_of}
use Rattle.semantics.specs.System.{Setting, program_of_setting, IsInputFrame, input_frame}
use Rattle.map_port.specs.Exchanges.{Exchange, calls_in, replies_in}
use Rattle.shards.specs.Passes.{PassView}
use Rattle.shard_port.specs.PassSessions.{HasSessions, HasRefusedSessions}
use Rattle.runs.specs.FrameRuns.{AreFormed}
use Rattle.guarantees.specs.SystemRuns.{IsRunOfSystem, IsStoppedInSystem}

-- a run that ended, over shards that other threads called meanwhile, is a list of its worker's steps in the system of all workers, from
-- idle to idle: what `run` ensures (the trace on the replies) and what the port's sessions are (the worker's own entries) meet there
abbrev pub RunsAreOfTheSystem : Type 0
RunsAreOfTheSystem =
    (setting : Setting) (worker told now : ℕ) (frame : List ℕ) (count steps : ℕ) (before after : PassView) (exchanges : List Exchange)
    (verdict : Verdict) (last : MachineState) →
    worker < setting.options.workers → IsInputFrame frame → now < 2 ^ 64 → told < 8 →
    trace_of steps (program_of_setting setting) (initial_state (input_frame frame) told now) (replies_in exchanges)
    ≡ record { calls = calls_in exchanges; stand = HasExited verdict last } →
    AreFormed (program_of_setting setting) exchanges → HasSessions count worker exchanges before after →
    IsRunOfSystem setting worker told now frame count before after verdict last

-- and so is a run that a full journal stopped
abbrev pub StoppedRunsAreOfTheSystem : Type 0
StoppedRunsAreOfTheSystem =
    (setting : Setting) (worker told now : ℕ) (frame : List ℕ) (plan : ℕ → ShardPlan) (count steps : ℕ) (before after : PassView)
    (exchanges : List Exchange) (call : Call) (waiting : MachineState) →
    worker < setting.options.workers → IsInputFrame frame → now < 2 ^ 64 → told < 8 →
    trace_of steps (program_of_setting setting) (initial_state (input_frame frame) told now) (replies_in exchanges)
    ≡ record { calls = calls_in exchanges ++ call ∷ []; stand = Waits waiting } →
    AreFormed (program_of_setting setting) exchanges → HasRefusedSessions plan count worker exchanges call before after →
    IsStoppedInSystem setting worker told now frame plan count before after call waiting
