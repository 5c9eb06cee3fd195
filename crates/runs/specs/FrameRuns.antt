-- What a run of a worker comes to, by its pass: before the port was made, and after it was finished.
use Rattle.std.specs.Prelude.{◌≡◌, ℕ, ◌≤◌, List, [], ◌∷◌, ◌++◌, length}
use Rattle.std.specs.List.{AllByRecursion}
use Rattle.ebpf_decode.specs.InstructionEncoding.{total_slots}
use Rattle.wire.specs.FrameView.{FrameView}
use Rattle.semantics.specs.declared.call.Call.{Call}
use Rattle.semantics.specs.declared.call.Reply.{Reply}
use Rattle.semantics.specs.declared.plan.ShardPlan.{ShardPlan}
use Rattle.semantics.specs.declared.verdict.Verdict.{Verdict}
use Rattle.semantics.specs.MachineState.{MachineState, initial_state}
use Rattle.semantics.specs.Program.{Program}
use Rattle.semantics.specs.History.{shard_of_call}
use Rattle.semantics.specs.RunTrace.{HasExited, Waits, IsReplyTo, whole_trace}
use Rattle.verifier.specs.Verified.{Verified}
use Rattle.map_port.specs.Exchanges.{Exchange, calls_in, replies_in}
use Rattle.machine.specs.declared.exit.Exit.{Exit}
use Rattle.machine.specs.declared.exit.Stop.{Stop}
use Rattle.machine.specs.declared.exit.Stop.TheVariants.{JournalFull}
use Rattle.machine.specs.declared.moment.Moment.{Moment}
use Rattle.machine.specs.Running.{program_of, Ends, StopsSo}
use Rattle.shards.specs.SharedMaps.{SharedMaps}
use Rattle.shards.specs.Passes.{PassView}
use Rattle.shard_port.specs.PassPorts.{PassPort, port_of, PassGives, PassRefuses}
use Rattle.shard_port.specs.PassSessions.{HasSessions, HasRefusedSessions}
use Rattle.shard_port.specs.ScheduleHook.{next_count, count_after}

-- each reply has its call's form and size
abbrev pub AreFormed : Program → List Exchange → Type 0
AreFormed program exchanges = AllByRecursion (λ (exchange : Exchange). IsReplyTo program exchange.call exchange.reply) exchanges

-- the run is the meaning of its program on the replies that are among the worker's own entries, session by session
pub record HasRun (program : Program) (state : MachineState) (count worker : ℕ) (before after : PassView) (verdict : Verdict) (steps : ℕ)
    (frame : FrameView) : Type 0 where
  pub exchanges : List Exchange
  pub last : MachineState
  pub trace :
      whole_trace program state (replies_in exchanges) ≡ record { calls = calls_in exchanges; stand = HasExited verdict last }
  pub formed : AreFormed program exchanges
  pub counted : steps ≡ last.steps
  pub bounded : steps ≤ total_slots program.code
  pub sent : frame ≡ last.frame
  pub sessions : HasSessions count worker exchanges before after

-- the run made the calls of its program up to the refused one, which are among the worker's own entries; the frame is that of the state
-- in which it waits for the reply
pub record WasRefused (program : Program) (state : MachineState) (plan : ℕ → ShardPlan) (count worker : ℕ) (before after : PassView)
    (frame : FrameView) (shard : ℕ) : Type 0 where
  pub exchanges : List Exchange
  pub refused : Call
  pub named : shard ≡ shard_of_call refused
  pub waiting : MachineState
  pub trace :
      whole_trace program state (replies_in exchanges) ≡
      record { calls = calls_in exchanges ++ refused ∷ []; stand = Waits waiting }
  pub formed : AreFormed program exchanges
  pub kept_back : frame ≡ waiting.frame
  pub sessions : HasRefusedSessions plan count worker exchanges refused before after

abbrev pub HasStopped : Program → MachineState → (ℕ → ShardPlan) → ℕ → ℕ → PassView → PassView → FrameView → Stop → Type 0
HasStopped program state plan count worker before after frame (JournalFull shard) =
    WasRefused program state plan count worker before after frame shard

-- ---- with a gate that is called for the replies

-- a port, and how many replies of its worker the gate was called for
pub record ToldPort : Type 0 where
  pub port : PassPort
  pub told : ℕ

abbrev pub told_port : PassPort → ℕ → ToldPort
told_port port told = record { port = port; told = told }

-- the port gave the reply, and the gate was called for one more
abbrev pub IsGivenTold : (ℕ → ShardPlan) → ℕ → ToldPort → Call → Reply → ToldPort → Type 0
IsGivenTold plan count before call reply after =
    PassGives plan count before.port call reply after.port × (after.told ≡ next_count before.told)

-- the port refused the call, and the gate was called for nothing
abbrev pub IsRefusedUntold : (ℕ → ShardPlan) → ℕ → ToldPort → Call → ToldPort → Type 0
IsRefusedUntold plan count before call after = PassRefuses plan count before.port call after.port × (after.told ≡ before.told)

-- the port of a pass over these shards, and how many replies the gate was called for
abbrev pub told_by : SharedMaps → PassView → ℕ → ToldPort
told_by shards pass told = told_port (port_of shards pass) told

-- the run of an accepted image on a frame ended so, over the port of a pass
abbrev pub EndsTold : (ℕ → ShardPlan) → ℕ → Verified → FrameView → Moment → ToldPort → ToldPort → Exit → FrameView → Type 0
EndsTold plan count verified frame moment before after exit left =
    Ends (IsGivenTold plan count) (program_of verified before.port.served.shards) (initial_state frame moment.worker moment.now_ns)
    before after exit.verdict exit.steps left

-- or it stopped so
abbrev pub StopsTold : (ℕ → ShardPlan) → ℕ → Verified → FrameView → Moment → ToldPort → ToldPort → Stop → FrameView → Type 0
StopsTold plan count verified frame moment before after stop left =
    StopsSo (IsGivenTold plan count) (IsRefusedUntold plan count) (program_of verified before.port.served.shards)
    (initial_state frame moment.worker moment.now_ns) before after left stop

-- ---- the same by the worker's pass, which is outside every shard before and after

-- the run ended so, and the gate was called for each of its replies
abbrev pub HasRunTold : Program → MachineState → ℕ → ℕ → PassView → PassView → Verdict → ℕ → FrameView → ℕ → ℕ → Type 0
HasRunTold program state count worker before after verdict steps frame told told' =
    (run : HasRun program state count worker before after verdict steps frame) × (told' ≡ count_after told (length run.exchanges))

-- the run stopped so, and the gate was called for the replies before
abbrev pub HasStoppedTold : Program → MachineState → (ℕ → ShardPlan) → ℕ → ℕ → PassView → PassView → FrameView → ℕ → ℕ → Stop → Type 0
HasStoppedTold program state plan count worker before after frame told told' (JournalFull shard) =
    (was : WasRefused program state plan count worker before after frame shard) × (told' ≡ count_after told (length was.exchanges))
