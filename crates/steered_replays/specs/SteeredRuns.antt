-- Runs of the shipped program as a replay makes them. On the replies that are among its worker's entries a run makes the calls of the
-- steering rule's plan (conntrack's Steering) and ends with the plan's verdict and frame, which are a result of the rule (conntrack's
-- Results); a run that a full journal stopped made a beginning of these calls.
use Rattle.std.specs.Prelude.{◌≡◌, ℕ, ◌<◌, true, List, [], ◌∷◌, ◌++◌, length, reverse, Option, Some, None, slice_get}
use Rattle.std.specs.List.{AllByRecursion}
use Rattle.wire.specs.FrameView.{FrameView}
use Rattle.wire.specs.declared.records.Sent.{Sent}
use Rattle.semantics.specs.declared.call.Call.{Call}
use Rattle.semantics.specs.declared.call.Caller.TheVariants.{Worker}
use Rattle.semantics.specs.declared.call.Entry.{Entry}
use Rattle.semantics.specs.declared.options.Options.{Options}
use Rattle.semantics.specs.declared.plan.ShardPlan.{ShardPlan}
use Rattle.semantics.specs.declared.verdict.Verdict.{Verdict}
use Rattle.semantics.specs.CallerLaws.{own_entries}
use Rattle.semantics.specs.MachineState.{initial_state}
use Rattle.semantics.specs.ShardPlan.{AreOptions}
use Rattle.semantics.specs.System.{IsInputFrame, input_frame}
use Rattle.semantics.specs.Program.{Program}
use Rattle.maglev.specs.RingSize.{IsRingSize}
use Rattle.map_port.specs.Exchanges.{Exchange, calls_in, replies_in}
use Rattle.block_runs.specs.Plan.{Ended, Waiting, plan_outcome}
use Rattle.conntrack.specs.Steering.{SteeringSizes, steering}
use Rattle.conntrack.specs.SteeringMaps.{sized_maps}
use Rattle.conntrack.specs.Results.{IsResult}
use Rattle.steer.specs.SteeringLaws.{of_size, shipped_program}
use Rattle.journals.specs.JournalsView.{JournalsView, entries_at}
use Rattle.shards.specs.Passes.{PassView, own_at}
use Rattle.shard_port.specs.PassSessions.{session_at}
use Rattle.machine.specs.declared.exit.Stop.{Stop}
use Rattle.machine.specs.declared.exit.Stop.TheVariants.{JournalFull}
use Rattle.runs.specs.FrameRuns.{HasRun, WasRefused}
use Rattle.control.specs.declared.command.Command.{Command}
use Rattle.actors.specs.declared.outcome.Outcome.{Outcome}
use Rattle.actors.specs.declared.runner.Ran.{Ran}
use Rattle.actors.specs.declared.runner.RunEnd.{RunEnd}
use Rattle.actors.specs.declared.runner.RunEnd.TheVariants.{Stopped, Exited}
use Rattle.actors.specs.Accounted.{RunInPlace, PlacedRun, runs_in_work, IsAccounted}
use Rattle.actors.specs.Accounts.{fate_of}
use Rattle.actors.specs.RunsOverShards.{StopsFor, IsRunIn}
use Rattle.actors.specs.Shares.{frames_of, is_short, worker_of_frame, share}
use Rattle.actors.specs.Captured.{IsCaptured}
use Rattle.semantics.specs.Entries.{History}

-- ---- runs

-- on these calls and replies the rule's plan ends so, and that is a result of the rule
pub record EndsByRule (sizes : SteeringSizes) (frame : FrameView) (exchanges : List Exchange) (verdict : Verdict) (left : FrameView) :
    Type 0 where
  pub plan : plan_outcome (steering sizes frame) (replies_in exchanges) ≡
      record { calls = calls_in exchanges; ending = Ended verdict left }
  pub result : IsResult sizes frame exchanges verdict left

-- after these calls and replies the rule's plan makes this call, and waits
abbrev pub WaitsByRule : SteeringSizes → FrameView → List Exchange → Call → Type 0
WaitsByRule sizes frame exchanges next =
    plan_outcome (steering sizes frame) (replies_in exchanges) ≡ record { calls = calls_in exchanges ++ next ∷ []; ending = Waiting }

-- where a full journal stopped a run, it waits by the rule for the call that was refused
abbrev pub StopsByRule : (sizes : SteeringSizes) (plan : ℕ → ShardPlan) (count : ℕ) (program : Program) (worker : ℕ) (journals : JournalsView)
    (captured : Sent) (before after : PassView) (frame : FrameView) (stop : Stop)
    → StopsFor plan count program worker journals captured before after frame stop → Type 0
StopsByRule sizes plan count program worker journals captured before after frame (JournalFull shard) stops =
    WaitsByRule sizes (input_frame captured.bytes.items) stops.0.exchanges stops.0.refused

-- A run that is accounted for is one of the rule: what it asked and was answered, which is among its worker's entries session by session, is
-- what the rule asks, and its verdict and its frame are the rule's.
abbrev pub IsSteeredRun : (sizes : SteeringSizes) (plan : ℕ → ShardPlan) (count : ℕ) (program : Program) (worker : ℕ) (journals : JournalsView)
    (captured : Sent) (before : PassView) (end : RunEnd) (after : PassView)
    → IsRunIn plan count program worker journals captured before end after → Type 0
IsSteeredRun sizes plan count program worker journals captured before Stopped after run =
    StopsByRule sizes plan count program worker journals captured before after run.frame run.stop run.run
IsSteeredRun sizes plan count program worker journals captured before (Exited steps fate) after run =
    EndsByRule sizes (input_frame captured.bytes.items) run.run.exchanges run.verdict run.frame

-- ---- replays

-- the run at this place of these is of the record of this number, and ended so
pub record IsEndOfRun {IsRun : PassView → Ran → PassView → Type 0} (runs : List (RunInPlace IsRun)) (place number : ℕ) (end : RunEnd) :
    Type 0 where
  pub one : RunInPlace IsRun
  pub in_place : slice_get runs place ≡ Some one
  pub number_is : one.ran.number ≡ number
  pub end_is : one.ran.end ≡ end

-- what became of a record: it is short, and was not run; or it is the end of the run at this place of these
abbrev pub IsFateIn : {IsRun : PassView → Ran → PassView → Type 0} → List (RunInPlace IsRun) → ℕ → ℕ → Sent → Option RunEnd → Type 0
IsFateIn runs place number captured None = is_short captured.bytes.items ≡ true
IsFateIn runs place number captured (Some end) = IsEndOfRun runs place number end

-- The runs that are accounted for are runs by the rule. What became of a record, by which it is counted and its frame sent or not, is the end
-- of one of these runs: its worker's behind those of the worker's earlier records.
pub record IsSteeredReplay (size : ℕ) (program : Program) (script : List Command) (options : Options) (records : List Sent) (outcome : Outcome)
    (accounted : IsAccounted program script options records outcome) : Type 0 where
  pub by_rule :
      (worker : ℕ) (below : worker < options.workers) →
      AllByRecursion
      (λ (one : PlacedRun accounted.plan accounted.count program worker outcome.journals records).
      IsSteeredRun (of_size options.shards size) accounted.plan accounted.count program worker outcome.journals one.run.sent one.before one.ran.end
      one.after one.run.run)
      (runs_in_work (accounted.work worker below))
  pub fates :
      (number : ℕ) (captured : Sent) → slice_get records number ≡ Some captured →
      let worker = worker_of_frame captured.bytes.items options.workers in
      (below : worker < options.workers)
      × IsFateIn (runs_in_work (accounted.work worker below)) (length (share (frames_of records) options.workers worker number)) number captured
      (fate_of (frames_of records) options.workers accounted.runs number)

-- ---- the runs stand in the journals

-- of a worker's own entries in a shard's journal, newest first: some newer ones, those of this run's session there, and those that the worker
-- had there when the run began
pub record StandsAmong (worker number : ℕ) (exchanges : List Exchange) (older own : History) : Type 0 where
  pub newer : List Entry
  pub own_are : own ≡ newer ++ (reverse (session_at worker number exchanges) ++ older)

abbrev pub StandsInJournals : ℕ → ℕ → List Exchange → PassView → JournalsView → Type 0
StandsInJournals count worker exchanges before journals =
    (number : ℕ) → number < count →
    StandsAmong worker number exchanges (own_at before number) (own_entries (Worker worker) (reverse (entries_at journals number)))

-- so it is of a run that ended
abbrev pub StandsIfEnded : (plan : ℕ → ShardPlan) (count : ℕ) (program : Program) (worker : ℕ) (journals : JournalsView)
    (captured : Sent) (before : PassView) (end : RunEnd) (after : PassView)
    → IsRunIn plan count program worker journals captured before end after → Type 0
StandsIfEnded plan count program worker journals captured before Stopped after run = Unit {0}
StandsIfEnded plan count program worker journals captured before (Exited steps fate) after run =
    StandsInJournals count worker run.run.exchanges before journals

abbrev pub FateStands : (plan : ℕ → ShardPlan) (count : ℕ) (program : Program) (worker : ℕ) (journals : JournalsView) (records : List Sent)
    (runs : List (PlacedRun plan count program worker journals records)) (place number : ℕ) (captured : Sent) (fate : Option RunEnd)
    → IsFateIn runs place number captured fate → Type 0
FateStands plan count program worker journals records runs place number captured None is = Unit {0}
FateStands plan count program worker journals records runs place number captured (Some end) is =
    StandsIfEnded plan count program worker journals is.one.run.sent is.one.before is.one.ran.end is.one.after is.one.run.run

-- ---- the laws

-- a run of the shipped program over a worker's pass ends by the rule
abbrev pub RunsAreSteered : Type 0
RunsAreSteered =
    (notes size shards : ℕ) → IsRingSize size → (frame : List ℕ) → IsInputFrame frame → (told now count worker : ℕ)
    (before after : PassView) (verdict : Verdict) (steps : ℕ) (left : FrameView)
    (run : HasRun (shipped_program notes (of_size shards size)) (initial_state (input_frame frame) told now) count worker before after
    verdict steps left) →
    EndsByRule (of_size shards size) (input_frame frame) run.exchanges verdict left

-- and one that was refused a call waits by the rule
abbrev pub RefusedRunsAreSteered : Type 0
RefusedRunsAreSteered =
    (notes size shards : ℕ) → IsRingSize size → (frame : List ℕ) → IsInputFrame frame → (told now : ℕ) (plan : ℕ → ShardPlan)
    (count worker : ℕ) (before after : PassView) (left : FrameView) (shard : ℕ)
    (was : WasRefused (shipped_program notes (of_size shards size)) (initial_state (input_frame frame) told now) plan count worker before
    after left shard) →
    WaitsByRule (of_size shards size) (input_frame frame) was.exchanges was.refused

-- so all runs of a replay are
abbrev pub ReplaysAreSteered : Type 0
ReplaysAreSteered =
    (notes size : ℕ) → IsRingSize size → (script : List Command) (options : Options) (records : List Sent) (outcome : Outcome) →
    AreOptions (sized_maps notes size) options → AllByRecursion IsCaptured records →
    (accounted : IsAccounted (shipped_program notes (of_size options.shards size)) script options records outcome) →
    IsSteeredReplay size (shipped_program notes (of_size options.shards size)) script options records outcome accounted

-- what a record's run asked and was answered is in the journals, where its worker's runs are
abbrev pub FatesStand : Type 0
FatesStand =
    (size : ℕ) (program : Program) (script : List Command) (options : Options) (records : List Sent) (outcome : Outcome)
    (accounted : IsAccounted program script options records outcome)
    (steered : IsSteeredReplay size program script options records outcome accounted)
    (number : ℕ) (captured : Sent) (known : slice_get records number ≡ Some captured) →
    let worker = worker_of_frame captured.bytes.items options.workers in
    FateStands accounted.plan accounted.count program worker outcome.journals records
    (runs_in_work (accounted.work worker (steered.fates number captured known).0))
    (length (share (frames_of records) options.workers worker number)) number captured
    (fate_of (frames_of records) options.workers accounted.runs number) (steered.fates number captured known).1
