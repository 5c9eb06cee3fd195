-- A run over shared shards as steps of its worker in the system: from idle to idle, on this frame, to this verdict, with what its steps
-- write.
use Rattle.std.specs.Prelude.{◌≡◌, ◌⊎◌, ℕ, ◌<◌, ◌≤◌, List, ◌∷◌, ◌++◌, reverse}
use Rattle.ebpf_decode.specs.InstructionEncoding.{total_slots}
use Rattle.wire.specs.FrameView.{FrameView}
use Rattle.semantics.specs.declared.call.Call.{Call}
use Rattle.semantics.specs.declared.call.Call.TheVariants.{Enter}
use Rattle.semantics.specs.declared.call.Reply.{Reply}
use Rattle.semantics.specs.declared.call.Entry.{Entry}
use Rattle.semantics.specs.declared.options.Options.{Options}
use Rattle.semantics.specs.declared.plan.ShardPlan.{ShardPlan}
use Rattle.semantics.specs.declared.verdict.Verdict.{Verdict}
use Rattle.semantics.specs.MachineState.{MachineState}
use Rattle.semantics.specs.History.{shard_of_call, IsJournalFull}
use Rattle.semantics.specs.Step.{CallsMap, Exits}
use Rattle.semantics.specs.Semantics.{next_step}
use Rattle.semantics.specs.System.{Setting, program_of_setting, Idle, Runs, run_over}
use Rattle.verifier.specs.Verified.{Verified}
use Rattle.machine.specs.declared.exit.Stop.{Stop}
use Rattle.machine.specs.declared.exit.Stop.TheVariants.{JournalFull}
use Rattle.machine.specs.declared.moment.Moment.{Moment}
use Rattle.shards.specs.CallerView.{BeginsWith}
use Rattle.shards.specs.Passes.{PassView, own_at, seen_at}
use Rattle.guarantees.specs.Steps.{Move, TurnedAway, begins, does, asks, IsStep, AreSteps, InRun}
use Rattle.guarantees.specs.Steps.{running, AreStepsOfRun, beginning, leavings, entries_on, deeds_in}

-- the worker's own entries on each of N shards have grown by what its moves wrote there, newest first
abbrev pub HaveGrown : ℕ → List Move → PassView → PassView → Type 0
HaveGrown count moves before after =
    (number : ℕ) → number < count → own_at after number ≡ reverse (entries_on number moves) ++ own_at before number

-- what the worker did over all shards has grown by what its moves did, newest first
abbrev pub HaveDone : ℕ → List Move → PassView → PassView → Type 0
HaveDone worker moves before after = after.deeds ≡ reverse (deeds_in worker moves) ++ before.deeds

-- The worker is idle, and begins a run on the frame; steps of this one run lead to the instruction that ends it with this verdict and this
-- last state; then the worker leaves the shards that it entered, and is idle. What these steps wrote on each shard, and what they did over
-- all shards, is what its pass has more.
pub record IsRunOfSystem (setting : Setting) (worker told now : ℕ) (frame : List ℕ) (count : ℕ) (before after : PassView)
    (verdict : Verdict) (last : MachineState) : Type 0 where
  pub begins_so : IsStep setting count worker Idle (begins worker frame now told) (running (beginning frame told now))
  pub run : List Move
  pub ending : InRun
  pub goes_on : AreStepsOfRun setting count worker (beginning frame told now) run ending
  pub exits : next_step (program_of_setting setting) ending.state ≡ Exits verdict last
  pub ends : IsStep setting count worker (running ending) (does worker) (run_over ending.entered)
  pub left : List ℕ
  pub leaves : AreSteps setting count worker (run_over ending.entered) (leavings worker left) Idle
  pub written : HaveGrown count (run ++ leavings worker left) before after
  pub did : HaveDone worker (run ++ leavings worker left) before after

-- The same, where a shard's journal had no room: steps of the run lead to the state in which it waits for the reply to this call; the
-- step in which it asks meets a full journal, for the call or for the Enter before it, at the end of a history that the worker's pass has
-- seen; and the worker leaves the shards that it entered.
pub record IsStoppedInSystem (setting : Setting) (worker told now : ℕ) (frame : List ℕ) (plan : ℕ → ShardPlan) (count : ℕ)
    (before after : PassView) (call : Call) (waiting : MachineState) : Type 0 where
  pub begins_so : IsStep setting count worker Idle (begins worker frame now told) (running (beginning frame told now))
  pub run : List Move
  pub entered : List ℕ
  pub goes_on : AreStepsOfRun setting count worker (beginning frame told now) run (record { state = waiting; entered = entered })
  pub next : Reply → MachineState
  pub waits : next_step (program_of_setting setting) waiting ≡ CallsMap call next
  pub refused : Call
  pub refused_is : (refused ≡ call) ⊎ (refused ≡ Enter (shard_of_call call))
  pub refuses : IsStep setting count worker (Runs waiting entered) (asks worker (TurnedAway refused)) (run_over entered)
  pub full_at : List Entry
  pub full_seen : BeginsWith (seen_at after (shard_of_call call)) full_at
  pub full : IsJournalFull (plan (shard_of_call call)) full_at refused
  pub left : List ℕ
  pub leaves : AreSteps setting count worker (run_over entered) (leavings worker left) Idle
  pub written : HaveGrown count (run ++ leavings worker left) before after
  pub did : HaveDone worker (run ++ asks worker (TurnedAway refused) ∷ leavings worker left) before after

-- the system of a verified image, over shards that were opened so
abbrev pub setting_of : Verified → Options → Setting
setting_of verified options = record { maps = verified.maps; code = verified.code; options = options }

-- a run that returned, as a run of the system: with its frame and number of instructions, which are no more than the image has slots
pub record RanInSystem (setting : Setting) (worker : ℕ) (moment : Moment) (frame : List ℕ) (count : ℕ) (before after : PassView)
    (verdict : Verdict) (steps : ℕ) (sent : FrameView) : Type 0 where
  pub last : MachineState
  pub of_system : IsRunOfSystem setting worker moment.worker moment.now_ns frame count before after verdict last
  pub counted : steps ≡ last.steps
  pub bounded : steps ≤ total_slots setting.code
  pub sent_is : sent ≡ last.frame

-- a run that stopped, as a run of the system: with its frame
pub record StoppedInSystem (setting : Setting) (worker : ℕ) (moment : Moment) (frame : List ℕ) (plan : ℕ → ShardPlan) (count : ℕ)
    (before after : PassView) (kept_back : FrameView) (shard : ℕ) : Type 0 where
  pub call : Call
  pub named : shard ≡ shard_of_call call
  pub within : shard < count
  pub waiting : MachineState
  pub of_system : IsStoppedInSystem setting worker moment.worker moment.now_ns frame plan count before after call waiting
  pub kept_is : kept_back ≡ waiting.frame

abbrev pub HasStoppedInSystem : Setting → ℕ → Moment → List ℕ → (ℕ → ShardPlan) → ℕ → PassView → PassView → FrameView → Stop → Type 0
HasStoppedInSystem setting worker moment frame plan count before after kept_back (JournalFull shard) =
    StoppedInSystem setting worker moment frame plan count before after kept_back shard
