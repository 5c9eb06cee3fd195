-- In a replay of the shipped program a run of a noted flow chooses the noted backend.
use Rattle.std.proofs.Common.{◌≡◌, ℕ, subst}
use Rattle.wire.specs.FrameView.{FrameView}
use Rattle.wire.specs.declared.records.Sent.{Sent}
use Rattle.semantics.specs.declared.plan.ShardPlan.{ShardPlan}
use Rattle.semantics.specs.declared.verdict.Verdict.{Verdict}
use Rattle.semantics.specs.declared.verdict.Verdict.TheVariants as V
use Rattle.semantics.specs.Program.{Program}
use Rattle.semantics.specs.System.{input_frame}
use Rattle.semantics.proofs.shared.HoldingLemmas.{each_weaker}
use Rattle.journals.specs.JournalsView.{JournalsView}
use Rattle.conntrack.specs.Steering.{SteeringSizes}
use Rattle.steer.specs.SteeringLaws.{of_size}
use Rattle.shards.specs.Passes.{PassView}
use Rattle.actors.specs.declared.runner.RunEnd.{RunEnd}
use Rattle.actors.specs.declared.runner.RunEnd.TheVariants.{Stopped, Exited}
use Rattle.actors.specs.Accounted.{PlacedRun, runs_in_work}
use Rattle.actors.specs.RunsOverShards.{IsTold, IsRunIn}
use Rattle.steered_replays.specs.SteeredRuns.{IsSteeredRun}
use Rattle.steered_replays.specs.StickyFlows.{NotedFlowsStick}
use Rattle.steered_replays.specs.StickyReplays.{FlowsStayInReplays, StaysWithBackend}

pub told_as : (captured : Sent) (verdict other : Verdict) (frame left : FrameView) (end : RunEnd) → verdict ≡ other → frame ≡ left
    → IsTold captured verdict frame end → IsTold captured other left end
told_as captured verdict other frame left end same equal told =
    subst (λ (its : FrameView). IsTold captured other its end) equal (subst (λ (its : Verdict). IsTold captured its frame end) same told)

stays : NotedFlowsStick → (plans : ℕ → ShardPlan) (count : ℕ) (sizes : SteeringSizes) (program : Program) (worker : ℕ) (journals : JournalsView)
    (captured : Sent) (before : PassView) (end : RunEnd) (after : PassView) (run : IsRunIn plans count program worker journals captured before end after)
    → IsSteeredRun sizes plans count program worker journals captured before end after run
    → StaysWithBackend plans count program worker journals captured before end after run
stays stick plans count sizes program worker journals captured before Stopped after run steered = tt
stays stick plans count sizes program worker journals captured before (Exited steps fate) after run steered = λ tunnel number backend noted.
    let chosen =
    stick sizes (input_frame captured.bytes.items) tunnel number backend worker run.run.exchanges run.verdict run.frame steered noted.run in
    told_as captured run.verdict V.Tx run.frame _ (Exited steps fate) chosen.verdict_is chosen.left_is run.told

pub flows_stay : NotedFlowsStick → FlowsStayInReplays
flows_stay stick size program script options records outcome accounted steered = λ worker below.
    each_weaker
    (λ (one : PlacedRun accounted.plan accounted.count program worker outcome.journals records).
    IsSteeredRun (of_size options.shards size) accounted.plan accounted.count program worker outcome.journals one.run.sent one.before one.ran.end one.after one.run.run)
    (λ (one : PlacedRun accounted.plan accounted.count program worker outcome.journals records).
    StaysWithBackend accounted.plan accounted.count program worker outcome.journals one.run.sent one.before one.ran.end one.after one.run.run)
    (λ one is. stays stick accounted.plan accounted.count (of_size options.shards size) program worker outcome.journals one.run.sent one.before one.ran.end
    one.after one.run.run is)
    (runs_in_work (accounted.work worker below)) (steered.by_rule worker below)
