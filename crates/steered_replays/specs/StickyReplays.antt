-- Flows stay with their backends in a replay of the shipped program, by the histories to which its own journals lead.
use Rattle.std.specs.Prelude.{◌≡◌, ℕ, ◌<◌, List, reverse}
use Rattle.std.specs.List.{AllByRecursion}
use Rattle.wire.specs.FrameView.{FrameView}
use Rattle.wire.specs.declared.records.Sent.{Sent}
use Rattle.semantics.specs.declared.call.Entry.{Entry}
use Rattle.semantics.specs.declared.options.Options.{Options}
use Rattle.semantics.specs.declared.plan.ShardPlan.{ShardPlan}
use Rattle.semantics.specs.declared.verdict.Verdict.TheVariants as V
use Rattle.semantics.specs.Program.{Program}
use Rattle.semantics.specs.System.{input_frame}
use Rattle.map_port.specs.Exchanges.{Exchange}
use Rattle.journals.specs.JournalsView.{JournalsView, entries_at}
use Rattle.ipip.specs.Encapsulation.{encapsulated_frame}
use Rattle.conntrack.specs.declared.records.BackendRecord.{BackendRecord}
use Rattle.conntrack.specs.declared.records.TunnelRecord.{TunnelRecord}
use Rattle.conntrack.specs.SteeringRule.{tunnel_to}
use Rattle.shards.specs.Passes.{PassView}
use Rattle.control.specs.declared.command.Command.{Command}
use Rattle.actors.specs.declared.outcome.Outcome.{Outcome}
use Rattle.actors.specs.declared.runner.RunEnd.{RunEnd}
use Rattle.actors.specs.declared.runner.RunEnd.TheVariants.{Stopped, Exited}
use Rattle.actors.specs.Accounted.{PlacedRun, runs_in_work, IsAccounted}
use Rattle.actors.specs.RunsOverShards.{IsTold, IsRunIn}
use Rattle.steered_replays.specs.SteeredRuns.{IsSteeredReplay}
use Rattle.steered_replays.specs.StickyFlows.{RunOfNoted}

-- the history is the one to which the journal of a shard of the replay leads, by the shard's plan
pub record IsOfReplay (plans : ℕ → ShardPlan) (count : ℕ) (journals : JournalsView) (plan : ShardPlan) (history : List Entry) : Type 0 where
  pub number : ℕ
  pub within : number < count
  pub plan_is : plan ≡ plans number
  pub history_is : history ≡ reverse (entries_at journals number)

-- A run of a flow that is noted: it gets past the guards, its Lookup of the flow is in the journal of the replay's shard of flows while the
-- backend is noted there, and its Lookup and Load of the backend are in the replay's shard of backends while the backend's record says that
-- it is up.
pub record IsNotedRun (plans : ℕ → ShardPlan) (count : ℕ) (journals : JournalsView) (frame : FrameView) (tunnel : TunnelRecord) (number : ℕ)
    (backend : BackendRecord) (worker : ℕ) (exchanges : List Exchange) : Type 0 where
  pub run : RunOfNoted frame tunnel number backend worker exchanges
  pub flows : IsOfReplay plans count journals run.flows run.flows_history
  pub backends : IsOfReplay plans count journals run.backends run.backends_history

-- where a run that ended is one of a flow that is noted, its record's frame is sent through the tunnel to the noted backend
abbrev pub StaysWithBackend : (plans : ℕ → ShardPlan) (count : ℕ) (program : Program) (worker : ℕ) (journals : JournalsView)
    (captured : Sent) (before : PassView) (end : RunEnd) (after : PassView)
    → IsRunIn plans count program worker journals captured before end after → Type 0
StaysWithBackend plans count program worker journals captured before Stopped after run = Unit {0}
StaysWithBackend plans count program worker journals captured before (Exited steps fate) after run =
    (tunnel : TunnelRecord) (number : ℕ) (backend : BackendRecord) →
    IsNotedRun plans count journals (input_frame captured.bytes.items) tunnel number backend worker run.run.exchanges →
    IsTold captured V.Tx (encapsulated_frame (tunnel_to tunnel backend.address) (input_frame captured.bytes.items)) (Exited steps fate)

-- so it is of every run of a replay
abbrev pub FlowsStay : (program : Program) (script : List Command) (options : Options) (records : List Sent) (outcome : Outcome)
    → IsAccounted program script options records outcome → Type 0
FlowsStay program script options records outcome accounted =
    (worker : ℕ) (below : worker < options.workers) →
    AllByRecursion
    (λ (one : PlacedRun accounted.plan accounted.count program worker outcome.journals records).
    StaysWithBackend accounted.plan accounted.count program worker outcome.journals one.run.sent one.before one.ran.end one.after one.run.run)
    (runs_in_work (accounted.work worker below))

-- in every replay whose runs are by the rule
abbrev pub FlowsStayInReplays : Type 0
FlowsStayInReplays =
    (size : ℕ) (program : Program) (script : List Command) (options : Options) (records : List Sent) (outcome : Outcome)
    (accounted : IsAccounted program script options records outcome) →
    IsSteeredReplay size program script options records outcome accounted → FlowsStay program script options records outcome accounted
