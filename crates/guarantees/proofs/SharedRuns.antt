-- A run over shared shards as a run of the system, by what `run_frame` ensures of it.
use Rattle.std.proofs.Common.{◌≡◌, ℕ, ◌<◌, ◌^◌, [], ◌∷◌, ◌++◌, sym, ap, subst, arith}
use Rattle.std.specs.Prelude.{IsTrue}
use Rattle.std.proofs.lemmas.Bool.Decides.{nat_tests}
use Rattle.wire.specs.FrameView.{FrameView}
use Rattle.ebpf_decode.specs.InstructionEncoding.{total_slots}
use Rattle.semantics.specs.declared.options.Options.{Options}
use Rattle.semantics.specs.declared.verdict.Verdict.{Verdict}
use Rattle.semantics.specs.declared.call.Caller.{Caller}
use Rattle.semantics.specs.declared.call.Caller.TheVariants.{Worker, Controller, Reclaimer}
use Rattle.semantics.specs.MachineState.{initial_state}
use Rattle.semantics.specs.declared.plan.ShardPlan.{ShardPlan}
use Rattle.semantics.specs.RunTrace.{HasExited, Waits, whole_trace}
use Rattle.semantics.specs.System.{IsInputFrame, input_frame}
use Rattle.verifier.specs.Verified.{Verified}
use Rattle.machine.specs.declared.exit.Stop.{Stop}
use Rattle.machine.specs.declared.exit.Stop.TheVariants.{JournalFull}
use Rattle.machine.specs.declared.moment.Moment.{Moment}
use Rattle.machine.specs.Running.{program_of}
use Rattle.map_port.specs.Exchanges.{calls_in, replies_in}
use Rattle.shards.specs.Passes.{PassView}
use Rattle.shard_port.specs.PassPorts.{is_worker_below, worker_number}
use Rattle.runs.specs.FrameRuns.{HasRun, HasStopped}
use Rattle.guarantees.specs.SystemRuns.{setting_of, RanInSystem, HasStoppedInSystem}
use Rattle.guarantees.specs.SystemLaws.{RunsAreOfTheSystem, StoppedRunsAreOfTheSystem}

pub is_among : (most : ℕ) (who : Caller) → IsTrue (is_worker_below most who) → worker_number who < most
is_among most (Worker number) below = grind (arith, nat_tests)
is_among most Controller below = absurd cc
is_among most Reclaimer below = absurd cc

pub ran_in_system : RunsAreOfTheSystem → (verified : Verified) (options : Options) (moment : Moment) (frame : FrameView) (count worker : ℕ)
    (before after : PassView) (verdict : Verdict) (steps : ℕ) (sent : FrameView) →
    worker < options.workers → IsInputFrame frame.bytes → frame.headroom ≡ 256 → moment.now_ns < 2 ^ 64 → moment.worker < 8 →
    HasRun (program_of verified options.shards) (initial_state frame moment.worker moment.now_ns) count worker before after verdict steps sent →
    RanInSystem (setting_of verified options) worker moment frame.bytes count before after verdict steps sent
ran_in_system runs verified options moment frame count worker before after verdict steps sent few input headroom early low run =
    let same : frame ≡ input_frame frame.bytes = ap (λ (room : ℕ). record { bytes = frame.bytes; headroom = room }) headroom in
    record {
      last = run.last;
      of_system = runs (setting_of verified options) worker moment.worker moment.now_ns frame.bytes count (total_slots verified.code) before
          after run.exchanges verdict run.last few input early low
          (subst (λ (one : FrameView). whole_trace (program_of verified options.shards) (initial_state one moment.worker moment.now_ns)
          (replies_in run.exchanges) ≡ record { calls = calls_in run.exchanges; stand = HasExited verdict run.last }) same run.trace)
          run.formed run.sessions;
      counted = run.counted;
      bounded = run.bounded;
      sent_is = run.sent;
    }

pub stopped_in_system : StoppedRunsAreOfTheSystem → (verified : Verified) (options : Options) (moment : Moment) (frame : FrameView)
    (plan : ℕ → ShardPlan) (count worker : ℕ) (before after : PassView) (sent : FrameView) (stop : Stop) →
    worker < options.workers → IsInputFrame frame.bytes → frame.headroom ≡ 256 → moment.now_ns < 2 ^ 64 → moment.worker < 8 →
    HasStopped (program_of verified options.shards) (initial_state frame moment.worker moment.now_ns) plan count worker before after sent stop →
    HasStoppedInSystem (setting_of verified options) worker moment frame.bytes plan count before after sent stop
stopped_in_system stops verified options moment frame plan count worker before after sent (JournalFull shard) few input headroom early low was =
    let same : frame ≡ input_frame frame.bytes = ap (λ (room : ℕ). record { bytes = frame.bytes; headroom = room }) headroom in
    record {
      call = was.refused;
      named = was.named;
      within = subst (λ (one : ℕ). one < count) (sym was.named) was.sessions.refused_within;
      waiting = was.waiting;
      of_system = stops (setting_of verified options) worker moment.worker moment.now_ns frame.bytes plan count (total_slots verified.code)
          before after was.exchanges was.refused was.waiting few input early low
          (subst (λ (one : FrameView). whole_trace (program_of verified options.shards) (initial_state one moment.worker moment.now_ns)
          (replies_in was.exchanges) ≡ record { calls = calls_in was.exchanges ++ was.refused ∷ []; stand = Waits was.waiting }) same was.trace)
          was.formed was.sessions;
      kept_is = was.kept_back;
    }
