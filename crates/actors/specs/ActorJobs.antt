-- What the threads of the controller and the reclaimer hand back, against the jobs that they took.
use Rattle.std.specs.Prelude.{◌≡◌, ℕ, Bool, true, false, List, [], ◌∷◌, ◌++◌, map, length, replicate}
use Rattle.rx_queues.specs.declared.job.Job.{Job}
use Rattle.rx_queues.specs.declared.job.Job.TheVariants.{Command as CommandJob, Note, End}
use Rattle.rx_queues.specs.declared.passes.Queues.{Queues}
use Rattle.rx_queues.specs.Passes.{workers_of, command_count_of}
use Rattle.control.specs.declared.command.Command.{Command}
use Rattle.semantics.specs.declared.plan.ShardPlan.{ShardPlan}
use Rattle.shards.specs.Passes.{PassView}
use Rattle.control.specs.Controlling.{ControllerState}
use Rattle.actors.specs.declared.outcome.Applied.{Applied}
use Rattle.actors.specs.Commands.{CommanderView, IsScriptAccountBehind, OfEachAccount}
use Rattle.actors.specs.Rounds.{AreReclaimed}

-- the queue at the place is the controller's, of queues for as many commands as the script has
abbrev pub IsForCommands : List Command → Queues → ℕ → Type 0
IsForCommands script queues place = (place ≡ workers_of queues) × (command_count_of queues ≡ length script)

-- the jobs that commands were handed over by
abbrev pub command_jobs : List Applied → List Job
command_jobs noted = map (λ (one : Applied). CommandJob one.command) noted

-- since these were noted, the commands of the jobs were, each once and in order, and then the end came
pub record AreCommandsTaken (before after : List Applied) (jobs : List Job) : Type 0 where
  pub later : List Applied
  pub noted : after ≡ before ++ later
  pub each_once : jobs ≡ command_jobs later ++ End ∷ []

-- what was noted since the controller began, with its own entries, is an account of its script, which goes on from each that it had then
pub record IsActorAccounted (plan : ℕ → ShardPlan) (start : CommanderView) (noted : List Applied) (pass : PassView) : Type 0 where
  pub state : ControllerState
  pub account : OfEachAccount plan start (IsScriptAccountBehind plan start.port.maps start.port.options start.updates start.script
      start.controller.size noted state pass)

-- a note, or the end
abbrev pub round_job : Bool → Job
round_job true = Note
round_job false = End

-- a round for each note, and then the end came
pub record AreRoundsMade (plan : ℕ → ShardPlan) (count : ℕ) (jobs : List Job) (pass : PassView) : Type 0 where
  pub rounds : ℕ
  pub notes : jobs ≡ replicate rounds Note ++ End ∷ []
  pub reclaimed : AreReclaimed plan count rounds pass
