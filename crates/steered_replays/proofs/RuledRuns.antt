-- Runs of a replay by the rule, with what they wrote: what the counts and the tables are proved from.
use Rattle.std.specs.Prelude.{ℕ, List, [], ◌∷◌}
use Rattle.std.specs.List.{AllByRecursion}
use Rattle.wire.specs.FrameView.{FrameView}
use Rattle.wire.specs.declared.records.Sent.{Sent}
use Rattle.semantics.specs.declared.call.Call.{Call}
use Rattle.semantics.specs.declared.plan.ShardPlan.{ShardPlan}
use Rattle.semantics.specs.declared.verdict.Verdict.{Verdict}
use Rattle.semantics.specs.Program.{Program}
use Rattle.semantics.specs.System.{input_frame}
use Rattle.map_port.specs.Exchanges.{Exchange}
use Rattle.conntrack.specs.Steering.{SteeringSizes}
use Rattle.journals.specs.JournalsView.{JournalsView}
use Rattle.shards.specs.declared.deeds.Deed.{Deed}
use Rattle.shards.specs.Passes.{PassView}
use Rattle.shard_port.specs.PassSessions.{HasSessions, HasRefusedSessions}
use Rattle.machine.specs.declared.exit.Stop.{Stop}
use Rattle.machine.specs.declared.exit.Stop.TheVariants.{JournalFull}
use Rattle.actors.specs.declared.runner.Ran.{Ran}
use Rattle.actors.specs.declared.runner.RunEnd.{RunEnd}
use Rattle.actors.specs.declared.runner.RunEnd.TheVariants.{Stopped, Exited}
use Rattle.actors.specs.Accounted.{IsWorkOf, PlacedRun, runs_in_chain, runs_in_work}
use Rattle.actors.specs.RunsInOrder.{IsRunAt, IsChainOfRuns}
use Rattle.actors.specs.RunsOverShards.{IsTold, StopsFor, IsRunIn}
use Rattle.steered_replays.specs.SteeredRuns.{EndsByRule, WaitsByRule, StopsByRule, IsSteeredRun}

pub record IsRuledExit (sizes : SteeringSizes) (count worker : ℕ) (captured : Sent) (before : PassView) (end : RunEnd) (after : PassView) :
    Type 0 where
  pub exchanges : List Exchange
  pub verdict : Verdict
  pub frame : FrameView
  pub sessions : HasSessions count worker exchanges before after
  pub by_rule : EndsByRule sizes (input_frame captured.bytes.items) exchanges verdict frame
  pub told : IsTold captured verdict frame end

pub record IsRuledStop (plan : ℕ → ShardPlan) (sizes : SteeringSizes) (count worker : ℕ) (captured : Sent) (before after : PassView) :
    Type 0 where
  pub exchanges : List Exchange
  pub refused : Call
  pub sessions : HasRefusedSessions plan count worker exchanges refused before after
  pub by_rule : WaitsByRule sizes (input_frame captured.bytes.items) exchanges refused

abbrev pub IsRuled : (ℕ → ShardPlan) → ℕ → SteeringSizes → ℕ → Sent → PassView → RunEnd → PassView → Type 0
IsRuled plan count sizes worker captured before Stopped after = IsRuledStop plan sizes count worker captured before after
IsRuled plan count sizes worker captured before end after = IsRuledExit sizes count worker captured before end after

module _ (plan : ℕ → ShardPlan) (count : ℕ) (sizes : SteeringSizes) (program : Program) (worker : ℕ) (journals : JournalsView) where
  stop_ruled : (captured : Sent) (before after : PassView) (frame : FrameView) (stop : Stop)
      (stops : StopsFor plan count program worker journals captured before after frame stop) →
      StopsByRule sizes plan count program worker journals captured before after frame stop stops →
      IsRuledStop plan sizes count worker captured before after
  stop_ruled captured before after frame (JournalFull shard) stops is =
      let was = stops.0 in record { exchanges = was.exchanges; refused = was.refused; sessions = was.sessions; by_rule = is }

  run_ruled : (captured : Sent) (before : PassView) (end : RunEnd) (after : PassView)
      (run : IsRunIn plan count program worker journals captured before end after) →
      IsSteeredRun sizes plan count program worker journals captured before end after run → IsRuled plan count sizes worker captured before end after
  run_ruled captured before Stopped after run is = stop_ruled captured before after run.frame run.stop run.run is
  run_ruled captured before (Exited steps fate) after run is = record {
    exchanges = run.run.exchanges;
    verdict = run.verdict;
    frame = run.frame;
    sessions = run.run.sessions;
    by_rule = is;
    told = run.told;
  }

  module _ (records : List Sent) where
    abbrev IsRun : PassView → Ran → PassView → Type 0
    IsRun = IsRunAt (IsRunIn plan count program worker journals) records

    abbrev AreSteered : List (PlacedRun plan count program worker journals records) → Type 0
    AreSteered runs =
        AllByRecursion
        (λ (one : PlacedRun plan count program worker journals records).
        IsSteeredRun sizes plan count program worker journals one.run.sent one.before one.ran.end one.after one.run.run)
        runs

    chain_ruled : (before : PassView) (runs : List Ran) (after : PassView) (chain : IsChainOfRuns IsRun before runs after) →
        AreSteered (runs_in_chain IsRun before runs after chain) →
        IsChainOfRuns (IsRunAt (IsRuled plan count sizes worker) records) before runs after
    chain_ruled before [] after chain are = chain
    chain_ruled before (ran ∷ later) after chain are =
        let run = chain.1 in (
          chain.0,
          record { sent = run.sent; known = run.known; run = run_ruled run.sent before ran.end chain.0 run.run are.0 },
          chain_ruled chain.0 later after chain.2 are.1,
        )

    -- a worker's work, of runs by the rule
    pub work_ruled : (shared : List ℕ) (runs : List Ran) (order : List Deed) (work : IsWorkOf IsRun shared worker runs count journals order) →
        AreSteered (runs_in_work work) → IsWorkOf (IsRunAt (IsRuled plan count sizes worker) records) shared worker runs count journals order
    work_ruled shared runs order work are = record {
      after = work.after;
      handled = record {
        records_are = work.handled.records_are;
        before = work.handled.before;
        is_new = work.handled.is_new;
        chain = chain_ruled work.handled.before runs work.after work.handled.chain are;
      };
      own = work.own;
      did = work.did;
    }
