-- Runs of the shipped program follow the rule, and so do all runs of a replay.
use Rattle.std.proofs.Common.{◌≡◌, ◌<◌, ℕ, zero, suc, ◌≤◌, ◌==◌, Bool, true, false, List, [], ◌∷◌, ◌++◌, length, refl, sym, ◌∙◌, ap, subst, arith}
use Rattle.std.specs.Prelude.{Option, Some, None, slice_get}
use Rattle.std.specs.List.{AllByRecursion}
use Rattle.std.proofs.lemmas.Bool.Decides.{nat_tests}
use Rattle.wire.specs.FrameView.{FrameView}
use Rattle.wire.specs.declared.records.Sent.{Sent}
use Rattle.semantics.specs.declared.call.Call.{Call}
use Rattle.semantics.specs.declared.plan.ShardPlan.{ShardPlan}
use Rattle.semantics.specs.MachineState.{initial_state}
use Rattle.semantics.specs.Program.{Program}
use Rattle.semantics.specs.RunTrace.{RunTrace, whole_trace, AreReplies}
use Rattle.semantics.specs.System.{IsInputFrame, input_frame}
use Rattle.maglev.specs.RingSize.{IsRingSize}
use Rattle.map_port.specs.Exchanges.{Exchange, calls_in, replies_in}
use Rattle.block_runs.specs.Plan.{Ended, outcome_of, plan_outcome}
use Rattle.conntrack.specs.Steering.{SteeringSizes, steering}
use Rattle.conntrack.specs.Results.{IsResult}
use Rattle.steer.specs.SteeringLaws.{of_size, shipped_program, ShippedSteers, ExitedRunsAreResults}
use Rattle.journals.specs.JournalsView.{JournalsView}
use Rattle.shards.specs.declared.deeds.Deed.{Deed}
use Rattle.shards.specs.Passes.{PassView}
use Rattle.runs.specs.FrameRuns.{AreFormed}
use Rattle.machine.specs.declared.exit.Stop.{Stop}
use Rattle.machine.specs.declared.exit.Stop.TheVariants.{JournalFull}
use Rattle.actors.specs.declared.runner.Ran.{Ran}
use Rattle.actors.specs.declared.runner.RunEnd.{RunEnd}
use Rattle.actors.specs.declared.runner.RunEnd.TheVariants.{Stopped, Exited}
use Rattle.actors.specs.Accounted.{IsWorkOf, PlacedRun, runs_in_chain, runs_in_work}
use Rattle.actors.specs.Accounts.{runs_at, end_at, fate_of}
use Rattle.actors.specs.RunJobs.{records_of}
use Rattle.actors.specs.RunsInOrder.{IsRunAt, IsChainOfRuns}
use Rattle.actors.specs.RunsOverShards.{IsRunIn, StopsFor}
use Rattle.actors.specs.Shares.{frames_of, frame_at, is_short, worker_of_frame, is_handed, share}
use Rattle.steered_replays.specs.SteeredRuns.{IsFateIn, StopsByRule, IsSteeredRun, IsEndOfRun}
use Rattle.actors.specs.Captured.{IsCaptured}
use Rattle.steered_replays.specs.SteeredRuns.{RunsAreSteered, RefusedRunsAreSteered, ReplaysAreSteered}
use Rattle.actors.proofs.shared.RunLemmas.{all_in_chain, of_records}
use Rattle.actors.proofs.shared.PutLemmas.{worker_below}
use Rattle.actors.proofs.shared.ShareOrder.{is_long, all_handed, record_of, share_at}

-- ---- one run

all_answered : (program : Program) (exchanges : List Exchange) → AreFormed program exchanges → AreReplies program (calls_in exchanges) (replies_in exchanges)
all_answered program [] formed = tt
all_answered program (exchange ∷ later) formed = (formed.0, all_answered program later formed.1)

before_answered : (program : Program) (exchanges : List Exchange) (next : Call) → AreFormed program exchanges →
    AreReplies program (calls_in exchanges ++ next ∷ []) (replies_in exchanges)
before_answered program [] next formed = tt
before_answered program (exchange ∷ later) next formed = (formed.0, before_answered program later next formed.1)

pub runs_are_steered : ShippedSteers → ExitedRunsAreResults → RunsAreSteered
runs_are_steered steers results notes size shards is frame input told now count worker before after verdict steps left run =
    let sizes : SteeringSizes = of_size shards size in
    let program : Program = shipped_program notes sizes in
    let answers : AreReplies program (calls_in run.exchanges) (replies_in run.exchanges) = all_answered program run.exchanges run.formed in
    let own : AreReplies program (whole_trace program (initial_state (input_frame frame) told now) (replies_in run.exchanges)).calls (replies_in run.exchanges) =
    subst (λ (t : RunTrace). AreReplies program t.calls (replies_in run.exchanges)) (sym run.trace) answers in
    let done : plan_outcome (steering sizes (input_frame frame)) (replies_in run.exchanges)
    ≡ record { calls = calls_in run.exchanges; ending = Ended verdict run.last.frame } =
    sym (steers notes size shards is frame input told now (replies_in run.exchanges) own) ∙ ap outcome_of run.trace in
    record {
      plan = done ∙ ap (λ (f : FrameView). record { calls = calls_in run.exchanges; ending = Ended verdict f }) (sym run.sent);
      result = subst (λ (f : FrameView). IsResult sizes (input_frame frame) run.exchanges verdict f) (sym run.sent)
          (results notes size shards is frame input told now run.exchanges verdict run.last answers run.trace);
    }

pub refused_runs_are_steered : ShippedSteers → RefusedRunsAreSteered
refused_runs_are_steered steers notes size shards is frame input told now plan count worker before after left shard was =
    let sizes : SteeringSizes = of_size shards size in
    let program : Program = shipped_program notes sizes in
    let answers = before_answered program was.exchanges was.refused was.formed in
    let own : AreReplies program (whole_trace program (initial_state (input_frame frame) told now) (replies_in was.exchanges)).calls (replies_in was.exchanges) =
    subst (λ (t : RunTrace). AreReplies program t.calls (replies_in was.exchanges)) (sym was.trace) answers in
    sym (steers notes size shards is frame input told now (replies_in was.exchanges) own) ∙ ap outcome_of was.trace

-- ---- the frames of a worker's share

abbrev IsInputAt : List Sent → ℕ → Type 0
IsInputAt records number = (captured : Sent) → slice_get records number ≡ Some captured → IsInputFrame captured.bytes.items

fourteen : (bytes : List ℕ) → is_short bytes ≡ false → 14 ≤ length bytes
fourteen bytes long = grind (arith, nat_tests)

input_at : (records : List Sent) → AllByRecursion IsCaptured records → (workers worker number : ℕ) → is_handed (frames_of records) workers worker number ≡ true →
    IsInputAt records number
input_at records all workers worker number handed captured known =
    let one = record_of records number captured known all in
    let long : is_short (frame_at (frames_of records) number) ≡ false = is_long (frames_of records) workers worker number handed in
    record { least = fourteen captured.bytes.items (ap is_short (sym one.1) ∙ long); greatest = one.0.short; bytes = one.0.bytes }

-- ---- the place of a record in its worker's share

known_below : (records : List Sent) (number : ℕ) (captured : Sent) → slice_get records number ≡ Some captured → number < length records
known_below [] number captured known = absurd cc
known_below (first ∷ later) zero captured known = omega arith
known_below (first ∷ later) (suc number) captured known = (let below = known_below later number captured known in omega (arith, below))

same_test : (n : ℕ) → (n == n) ≡ true
same_test n = grind (arith, nat_tests)

-- ---- a worker's runs

module _ (steers : ShippedSteers) (results : ExitedRunsAreResults) (notes size shards : ℕ) (is : IsRingSize size) (plan : ℕ → ShardPlan) (count worker : ℕ)
    (journals : JournalsView) where
  abbrev ruled : SteeringSizes
  ruled = of_size shards size

  abbrev program : Program
  program = shipped_program notes ruled

  stop_steered : (captured : Sent) → IsInputFrame captured.bytes.items → (before after : PassView) (frame : FrameView) (stop : Stop)
      (stops : StopsFor plan count program worker journals captured before after frame stop) →
      StopsByRule ruled plan count program worker journals captured before after frame stop stops
  stop_steered captured input before after frame (JournalFull shard) stops =
      refused_runs_are_steered steers notes size shards is captured.bytes.items input worker _ plan count worker before after frame shard stops.0

  run_steered : (captured : Sent) → IsInputFrame captured.bytes.items → (before : PassView) (end : RunEnd) (after : PassView)
      (run : IsRunIn plan count program worker journals captured before end after) →
      IsSteeredRun ruled plan count program worker journals captured before end after run
  run_steered captured input before Stopped after run = stop_steered captured input before after run.frame run.stop run.run
  run_steered captured input before (Exited steps fate) after run =
      runs_are_steered steers results notes size shards is captured.bytes.items input worker _ count worker before after run.verdict run.steps run.frame run.run

-- ---- what became of each record

-- the run at the place of a record
end_there : (IsRun : PassView → Ran → PassView → Type 0) (number : ℕ) (before : PassView) (runs : List Ran) (after : PassView)
    (chain : IsChainOfRuns IsRun before runs after) (place : ℕ) → slice_get (records_of runs) place ≡ Some number →
    (end : RunEnd) × (end_at runs place ≡ Some end) × IsEndOfRun (runs_in_chain IsRun before runs after chain) place number end
end_there IsRun number before [] after chain place there = absurd cc
end_there IsRun number before (ran ∷ later) after chain zero there = (
  ran.end,
  refl,
  record {
    one = record { before = before; ran = ran; after = chain.0; run = chain.1 };
    in_place = refl;
    number_is = cc there;
    end_is = refl;
  },
)
end_there IsRun number before (ran ∷ later) after chain (suc place) there =
    let rest = end_there IsRun number chain.0 later after chain.2 place there in (
      rest.0,
      rest.1,
      record { one = rest.2.one; in_place = rest.2.in_place; number_is = rest.2.number_is; end_is = rest.2.end_is },
    )

-- a fate is that of the run at the record's place
fate_there : (IsRun : PassView → Ran → PassView → Type 0) (captured : Sent) (number : ℕ) (before : PassView) (runs : List Ran) (after : PassView)
    (chain : IsChainOfRuns IsRun before runs after) (place : ℕ) → slice_get (records_of runs) place ≡ Some number →
    IsFateIn (runs_in_chain IsRun before runs after chain) place number captured (end_at runs place)
fate_there IsRun captured number before runs after chain place there =
    let found = end_there IsRun number before runs after chain place there in
    subst (λ (fate : Option RunEnd). IsFateIn (runs_in_chain IsRun before runs after chain) place number captured fate) (sym found.1) found.2

module _ (IsRun : ℕ → PassView → Ran → PassView → Type 0) (workers : ℕ) (some : 0 < workers) (records : List Sent) (runs : List (List Ran)) (count : ℕ)
    (journals : JournalsView) (order : List Deed)
    (work : (worker : ℕ) → worker < workers → IsWorkOf (IsRun worker) (share (frames_of records) workers worker (length records)) worker (runs_at runs worker)
    count journals order) where
  -- the fate of the record by the runs of the worker of these bytes
  abbrev HasFate : List ℕ → ℕ → Sent → Type 0
  HasFate bytes number captured =
      (below : worker_of_frame bytes workers < workers)
      × IsFateIn (runs_in_work (work (worker_of_frame bytes workers) below))
      (length (share (frames_of records) workers (worker_of_frame bytes workers) number)) number captured (fate_of (frames_of records) workers runs number)

  fate_by_length : (number : ℕ) (captured : Sent) → number < length records → (short : Bool) → is_short (frame_at (frames_of records) number) ≡ short →
      frame_at (frames_of records) number ≡ captured.bytes.items → HasFate (frame_at (frames_of records) number) number captured
  fate_by_length number captured below true is same =
      let few = worker_below (frame_at (frames_of records) number) workers some in
      let place : ℕ = length (share (frames_of records) workers (worker_of_frame (frame_at (frames_of records) number) workers) number) in
      let fate : fate_of (frames_of records) workers runs number ≡ None = rw is refl in (
        few,
        subst
            (λ (f : Option RunEnd). IsFateIn (runs_in_work (work (worker_of_frame (frame_at (frames_of records) number) workers) few)) place number captured f)
            (sym fate) (ap is_short (sym same) ∙ is),
      )
  fate_by_length number captured below false is same =
      let worker : ℕ = worker_of_frame (frame_at (frames_of records) number) workers in
      let few = worker_below (frame_at (frames_of records) number) workers some in
      let place : ℕ = length (share (frames_of records) workers worker number) in
      let own : (worker_of_frame (frame_at (frames_of records) number) workers == worker) ≡ true = same_test worker in
      let handed : is_handed (frames_of records) workers worker number ≡ true = rw (is, own) refl in
      let fate : fate_of (frames_of records) workers runs number ≡ end_at (runs_at runs worker) place = rw is refl in
      let done = work worker few in (
        few,
        subst (λ (f : Option RunEnd). IsFateIn (runs_in_work (work worker few)) place number captured f) (sym fate)
            (fate_there (IsRun worker) captured number done.handled.before (runs_at runs worker) done.after done.handled.chain place
            (ap (λ (l : List ℕ). slice_get l place) done.handled.records_are ∙ share_at (frames_of records) workers worker number (length records) handed below)),
      )

  fate_found : (number : ℕ) (captured : Sent) → slice_get records number ≡ Some captured → AllByRecursion IsCaptured records →
      HasFate captured.bytes.items number captured
  fate_found number captured known all =
      let same : frame_at (frames_of records) number ≡ captured.bytes.items = (record_of records number captured known all).1 in
      subst (λ (bytes : List ℕ). HasFate bytes number captured) same
      (fate_by_length number captured (known_below records number captured known) (is_short (frame_at (frames_of records) number)) refl same)

pub replays_are_steered : ShippedSteers → ExitedRunsAreResults → ReplaysAreSteered
replays_are_steered steers results notes size is script options records outcome fit captured accounted =
    let program : Program = shipped_program notes (of_size options.shards size) in
    record {
      by_rule = λ worker below.
          let work = accounted.work worker below in
          all_in_chain (IsRunAt (IsRunIn accounted.plan accounted.count program worker outcome.journals) records)
          (λ (ran : Ran). IsInputAt records ran.number)
          (λ (one : PlacedRun accounted.plan accounted.count program worker outcome.journals records).
          IsSteeredRun (of_size options.shards size) accounted.plan accounted.count program worker outcome.journals one.run.sent one.before one.ran.end one.after
          one.run.run)
          (λ one input.
          run_steered steers results notes size options.shards is accounted.plan accounted.count worker outcome.journals one.run.sent
          (input one.run.sent one.run.known) one.before one.ran.end one.after one.run.run)
          work.handled.before (runs_at accounted.runs worker) work.after work.handled.chain
          (of_records (IsInputAt records) (runs_at accounted.runs worker)
          (subst (λ (l : List ℕ). AllByRecursion (IsInputAt records) l) (sym work.handled.records_are)
          (all_handed (IsInputAt records) (frames_of records) options.workers worker (length records)
          (λ number. input_at records captured options.workers worker number))));
      fates = λ number one known.
          fate_found (λ (worker : ℕ). IsRunAt (IsRunIn accounted.plan accounted.count program worker outcome.journals) records) options.workers
          fit.some_worker records accounted.runs accounted.count outcome.journals accounted.order accounted.work number one known captured;
    }
