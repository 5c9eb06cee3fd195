-- What the threads of a replay begin with, over shards on which the first updates were made, and what they have done when all have ended.
use Rattle.std.specs.Prelude.{◌≡◌, ◌+◌, ℕ, true, false, Bool, List, length, map, replicate, slice_set}
use Rattle.ebpf_decode.specs.declared.map.MapDef.{MapDef}
use Rattle.wire.specs.declared.records.Sent.{Sent}
use Rattle.semantics.specs.Program.{Program}
use Rattle.semantics.specs.declared.options.Options.{Options}
use Rattle.semantics.specs.declared.plan.ShardPlan.{ShardPlan}
use Rattle.semantics.specs.declared.call.Caller.TheVariants.{Controller, Reclaimer}
use Rattle.map_updates.specs.declared.update.MapUpdate.{MapUpdate}
use Rattle.maglev.specs.RingSize.{IsRingSize}
use Rattle.control.specs.declared.command.Command.{Command}
use Rattle.rx_queues.specs.declared.passes.PutPass.{PutPass}
use Rattle.rx_queues.specs.declared.passes.TakePass.{TakePass}
use Rattle.rx_queues.specs.declared.passes.Queues.{Queues}
use Rattle.rx_queues.specs.Passes.{record_count_of, command_count_of}
use Rattle.shards.specs.declared.deeds.Deed.{Deed}
use Rattle.shards.specs.Deeds.{AreFirst}
use Rattle.shards.specs.Passes.{PassView}
use Rattle.actors.specs.declared.outcome.Applied.{Applied}
use Rattle.actors.specs.declared.worker.Working.{Working}
use Rattle.actors.specs.Commands.{HasSet, ServesScript}
use Rattle.actors.specs.Parts.{IsScriptRunBehind, round_count}
use Rattle.actors.specs.Rounds.{AreReclaimed}
use Rattle.actors.specs.RunsOverShards.{IsNewAt, IsRunBy}
use Rattle.replay.specs.declared.crew.Handled.{Handled}
use Rattle.replay.specs.Crews.{AreHandled}
use Rattle.replay.specs.LastRound.{IsRoundLast}
use Rattle.replay.specs.Settings.{AreFreshPasses}

-- the controller's pass, the only one that was dealt, has made the updates; nothing was put into the queues, which are for all records and
-- commands
pub record CanStartThreads (maps : List MapDef) (options : Options) (updates : List MapUpdate) (script : List Command) (size : ℕ)
    (starts : List ℕ) (dealt : List Bool) (pass : PassView) (queues : Queues) (put : PutPass) (takes : List TakePass)
    (records : List Sent) : Type 0 where
  pub size_is : IsRingSize size
  pub serves : ServesScript maps size script
  pub starts_are : starts ≡ map (λ (line : Command). line.frame) script
  pub alone : dealt ≡ slice_set (replicate (options.workers + 2) false) 0 true
  pub who : pass.who ≡ Controller
  pub set : HasSet maps options updates pass
  pub passes : AreFreshPasses queues options.workers put takes
  pub for_records : record_count_of queues ≡ length records
  pub for_commands : command_count_of queues ≡ length starts

-- each worker ran its records; the controller made the updates, then the commands, those of frame 0 before any thread was started; and the
-- reclaimer made its rounds, the last one behind all that was done
pub record HaveEnded {B : Type 0} (plan : ℕ → ShardPlan) (count : ℕ) (program : Program) (maps : List MapDef) (options : Options)
    (updates : List MapUpdate) (script : List Command) (size : ℕ) (records : List Sent) (before_last : List Deed)
    (workers : List (Handled (Working B))) (noted : List Applied) (controller reclaimer : PassView) : Type 0 where
  pub many : length workers ≡ options.workers
  pub handled : AreHandled IsNewAt (IsRunBy count plan program) records options.workers workers
  pub ran : (begun : List Deed) × AreFirst begun before_last × IsScriptRunBehind plan maps options updates script size noted controller begun
  pub rounds : AreReclaimed plan count (round_count (length records)) reclaimer
  pub by_reclaimer : reclaimer.who ≡ Reclaimer
  pub closed : IsRoundLast plan count before_last workers controller reclaimer
