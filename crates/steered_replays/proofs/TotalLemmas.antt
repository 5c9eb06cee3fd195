-- The counts in the maps are those of the report.
use Rattle.std.proofs.Common.{◌≡◌, inl, inr, ℕ, ◌+◌, ◌*◌, ◌%◌, ◌/◌, ◌^◌, ◌<◌, ◌≤◌, ◌==◌, ◌++◌, Bool, List, [], ◌∷◌, length, refl, sym, ◌∙◌, ap, subst, arith}
use Rattle.std.specs.Prelude.{Option, Some, None, reverse, slice_get, if◌then◌else◌}
use Rattle.std.specs.List.{AllByRecursion}
use Rattle.std.proofs.Math.Nat.{mod-lt}
use Rattle.std.proofs.lemmas.Bool.{lt-ltb}
use Rattle.ebpf_decode.specs.declared.map.MapDef.{MapDef}
use Rattle.ebpf_decode.specs.declared.map.MapKind.{MapKind}
use Rattle.ebpf_decode.specs.declared.map.MapKind.TheVariants.{Array}
use Rattle.wire.specs.declared.records.Sent.{Sent}
use Rattle.semantics.specs.declared.call.Caller.TheVariants.{Worker, Controller, Reclaimer}
use Rattle.semantics.specs.declared.call.Entry.{Entry}
use Rattle.semantics.specs.declared.call.Reply.TheVariants.{Cell}
use Rattle.semantics.specs.declared.options.Options.{Options}
use Rattle.semantics.specs.declared.plan.ShardPlan.{ShardPlan}
use Rattle.semantics.specs.declared.verdict.Verdict.{Verdict}
use Rattle.semantics.specs.declared.verdict.Verdict.TheVariants as verdicts
use Rattle.semantics.specs.CallerLaws.{own_entries}
use Rattle.semantics.specs.History.{IsLegalHistory, shard_of_call, meets_part}
use Rattle.semantics.specs.LittleEndian.{number_of_bytes}
use Rattle.semantics.specs.Semantics.{verdict_number}
use Rattle.semantics.specs.SequentialShard.{shard_after, reply_of, cell_of_key, cell_of_kind, number_in_cell}
use Rattle.semantics.specs.ShardPlan.{plan_at, plan_for_map, AreOptions, capacity}
use Rattle.semantics.proofs.shared.CallNumbers.{same_number}
use Rattle.semantics.proofs.shared.ConditionLemmas.{first_true}
use Rattle.journals.specs.JournalsView.{entries_at}
use Rattle.conntrack.specs.SteeringMaps.{sized_maps, defined}
use Rattle.conntrack.specs.Steering.{SteeringSizes}
use Rattle.conntrack.specs.Results.{count_key}
use Rattle.steer.specs.SteeringLaws.{of_size, shipped_program}
use Rattle.shards.specs.CallerView.{CallerView}
use Rattle.shards.specs.Passes.{PassView, own_at}
use Rattle.control.specs.declared.command.Command.{Command}
use Rattle.actors.specs.declared.account.Counts.{Counts}
use Rattle.actors.specs.declared.outcome.Outcome.{Outcome}
use Rattle.actors.specs.declared.runner.Ran.{Ran}
use Rattle.actors.specs.declared.runner.RunEnd.{RunEnd}
use Rattle.actors.specs.declared.runner.RunEnd.TheVariants.{Stopped, Exited}
use Rattle.actors.specs.Accounts.{runs_at}
use Rattle.actors.specs.Parts.{round_count}
use Rattle.actors.specs.RunJobs.{records_of}
use Rattle.control.specs.Controlling.{opened_controller}
use Rattle.actors.specs.Commands.{all_set, made_in, with_updates}
use Rattle.map_updates.specs.declared.update.MapUpdate.{MapUpdate}
use Rattle.actors.specs.RunsInOrder.{IsRunAt, IsChainOfRuns}
use Rattle.actors.specs.Shares.{frames_of, share}
use Rattle.steered_replays.specs.Counting.{AreCounting, raised, CountsAreExact, LookupsOfArraysFind}
use Rattle.actors.specs.Accounted.{IsWorkOf, IsAccounted}
use Rattle.steered_replays.specs.SteeredRuns.{IsSteeredReplay}
use Rattle.steered_replays.proofs.RuledRuns.{IsRuledExit, IsRuled, work_ruled}
use Rattle.steered_replays.specs.Totals.{HasCount, AreTotals, shard_of_count}
use Rattle.actors.proofs.shared.Callers.{all_of_callers, all_own}
use Rattle.steered_replays.proofs.CallerSums.{sum_below, same_sums, none_in_sum, own_sum, raised_by_all}
use Rattle.steered_replays.proofs.ControllerShards.{none_from_commands}
use Rattle.steered_replays.proofs.ResultCounts.{count_shard, count_id, key_number, count_shard_is, result_raises, result_counts}
use Rattle.steered_replays.proofs.RunSums.{is_end, ends_in, told_number, stopped_sum, verdict_sum, count_of}
use Rattle.steered_replays.proofs.SessionCounts.{session_raises, earlier_own, IsFoundIn, found_exchanges, stays_counting}
use Rattle.steered_replays.proofs.PlaceLemmas.{IsShards, some_shard, rounds_none}

-- ---- the shards of counts

sixth_map : (shards : ℕ) → IsShards shards → (n : ℕ) → (5 * shards + n % shards) / shards ≡ 5
sixth_map shards (inl is) n = subst (λ (s : ℕ). (5 * s + n % s) / s ≡ 5) (sym is) (omega arith)
sixth_map shards (inr (inl is)) n = subst (λ (s : ℕ). (5 * s + n % s) / s ≡ 5) (sym is) (omega arith)
sixth_map shards (inr (inr (inl is))) n = subst (λ (s : ℕ). (5 * s + n % s) / s ≡ 5) (sym is) (omega arith)
sixth_map shards (inr (inr (inr is))) n = subst (λ (s : ℕ). (5 * s + n % s) / s ≡ 5) (sym is) (omega arith)

in_cells : (shards : ℕ) → IsShards shards → (n : ℕ) → n < 4 → n / shards < 8 / shards
in_cells shards (inl is) n few = subst (λ (s : ℕ). n / s < 8 / s) (sym is) (omega (arith, few))
in_cells shards (inr (inl is)) n few = subst (λ (s : ℕ). n / s < 8 / s) (sym is) (omega (arith, few))
in_cells shards (inr (inr (inl is))) n few = subst (λ (s : ℕ). n / s < 8 / s) (sym is) (omega (arith, few))
in_cells shards (inr (inr (inr is))) n few = subst (λ (s : ℕ). n / s < 8 / s) (sym is) (omega (arith, few))

four_verdicts : (verdict : Verdict) → verdict_number verdict < 4
four_verdicts verdicts.Aborted = omega arith
four_verdicts verdicts.Drop = omega arith
four_verdicts verdicts.Pass = omega arith
four_verdicts verdicts.Tx = omega arith

-- the plan of the shard that has a verdict's count
record IsCountPlan (options : Options) (number : ℕ) (plan : ShardPlan) : Type 0 where
  number_is : plan.number ≡ number
  parts_are : plan.parts ≡ options.shards
  definition_is : plan.definition ≡ defined Array 4 8 8
  workers_are : plan.workers ≡ options.workers
  reserve_is : plan.reserve ≡ options.journal

planned_of : (options : Options) (number : ℕ) (definition : MapDef) (plan : ShardPlan) → definition ≡ defined Array 4 8 8 →
    plan_for_map options number (Some definition) ≡ Some plan → IsCountPlan options number plan
planned_of options number definition plan counts is =
    let same : record {
      number = number;
      part = number % options.shards;
      parts = options.shards;
      definition = definition;
      workers = options.workers;
      reserve = options.journal;
    } ≡ plan = cc is in
    record {
      number_is = ap (λ (p : ShardPlan). p.number) (sym same);
      parts_are = ap (λ (p : ShardPlan). p.parts) (sym same);
      definition_is = ap (λ (p : ShardPlan). p.definition) (sym same) ∙ counts;
      workers_are = ap (λ (p : ShardPlan). p.workers) (sym same);
      reserve_is = ap (λ (p : ShardPlan). p.reserve) (sym same);
    }

plan_number : (options : Options) (number : ℕ) (found : Option MapDef) (plan : ShardPlan) → plan_for_map options number found ≡ Some plan → plan.number ≡ number
plan_number options number None plan is = absurd cc
plan_number options number (Some definition) plan is = cc is

module _ (notes size : ℕ) (options : Options) (shards : IsShards options.shards) where
  abbrev counted_in : SteeringSizes
  counted_in = of_size options.shards size

  count_place : (verdict : Verdict) → count_shard counted_in verdict / options.shards ≡ 5
  count_place verdict = ap (λ n. n / options.shards) (count_shard_is counted_in verdict) ∙ sixth_map options.shards shards (verdict_number verdict)

  count_plan : (verdict : Verdict) (plan : ShardPlan) → plan_at (sized_maps notes size) options (count_shard counted_in verdict) ≡ Some plan →
      IsCountPlan options (count_shard counted_in verdict) plan
  count_plan verdict plan planned =
      planned_of options (count_shard counted_in verdict) (defined Array 4 8 8) plan refl
      (sym (ap (λ (n : ℕ). plan_for_map options (count_shard counted_in verdict) (slice_get (sized_maps notes size) n)) (count_place verdict)) ∙ planned)

  -- a lookup of a count finds it
  all_found : (number : ℕ) (plan : ShardPlan) → plan_at (sized_maps notes size) options number ≡ Some plan → LookupsOfArraysFind → (history : List Entry) →
      IsLegalHistory plan history → AllByRecursion (IsFoundIn counted_in) history
  all_found number plan planned finds [] legal = tt
  all_found number plan planned finds (entry ∷ older) legal = (here, all_found number plan planned finds older legal.1)
    where
      here : IsFoundIn counted_in entry
      here verdict asked =
          let own : shard_of_call entry.call ≡ plan.number =
          same_number (shard_of_call entry.call) plan.number (first_true (shard_of_call entry.call == plan.number) (meets_part plan older entry.who entry.call) legal.0.step.met) in
          let there : number ≡ count_shard counted_in verdict =
          sym (plan_number options number (slice_get (sized_maps notes size) (number / options.shards)) plan planned) ∙ sym own ∙ ap shard_of_call asked in
          let is : IsCountPlan options (count_shard counted_in verdict) plan =
          count_plan verdict plan (subst (λ (n : ℕ). plan_at (sized_maps notes size) options n ≡ Some plan) there planned) in
          let array : plan.definition.kind ≡ Array = ap (λ (d : MapDef). d.kind) is.definition_is in
          let entries : plan.definition.max_entries ≡ 8 = ap (λ (d : MapDef). d.max_entries) is.definition_is in
          let number_back = key_number verdict in
          let few = four_verdicts verdict in
          let below : number_of_bytes (count_key verdict) < plan.definition.max_entries = omega (arith, entries, number_back, few) in
          legal.0.step.replied ∙ ap (reply_of plan older (shard_after plan older)) asked
          ∙ finds plan older (shard_after plan older) (count_shard counted_in verdict) (count_key verdict) array below
          ∙ ap (λ (n : ℕ). Cell (record { shard = n; id = number_of_bytes (count_key verdict) / plan.parts })) is.number_is
          ∙ ap (λ (n : ℕ). Cell (record { shard = count_shard counted_in verdict; id = n / plan.parts })) (key_number verdict)
          ∙ ap (λ (n : ℕ). Cell (record { shard = count_shard counted_in verdict; id = verdict_number verdict / n })) is.parts_are

-- ---- the runs of a worker

exit_of : (plan : ℕ → ShardPlan) (count : ℕ) (sizes : SteeringSizes) (worker : ℕ) (captured : Sent) (before : PassView) (end : RunEnd) (after : PassView) →
    is_end 4 end ≡ 0 → IsRuled plan count sizes worker captured before end after → IsRuledExit sizes count worker captured before end after
exit_of plan count sizes worker captured before Stopped after ended run = absurd cc
exit_of plan count sizes worker captured before (Exited steps fate) after ended run = run

abbrev HasEnded : Ran → Type 0
HasEnded ran = is_end 4 ran.end ≡ 0

all_ended : (runs : List Ran) → ends_in 4 runs ≡ 0 → AllByRecursion HasEnded runs
all_ended [] none = tt
all_ended (ran ∷ later) none =
    let both : is_end 4 ran.end + ends_in 4 later ≡ 0 = none in (omega (arith, both), all_ended later (omega (arith, both)))

module _ (plan : ℕ → ShardPlan) (count : ℕ) (sizes : SteeringSizes) (some : 0 < sizes.shards) (worker : ℕ) (records : List Sent) where
  abbrev IsRun : PassView → Ran → PassView → Type 0
  IsRun before ran after = IsRunAt (IsRuled plan count sizes worker) records before ran after

  exit_in : (before : PassView) (ran : Ran) (after : PassView) → HasEnded ran → (run : IsRun before ran after) →
      IsRuledExit sizes count worker run.sent before ran.end after
  exit_in before ran after ended run = exit_of plan count sizes worker run.sent before ran.end after ended run.run

  chain_earlier : (P : Entry → Type 0) (before : PassView) (runs : List Ran) (after : PassView) → IsChainOfRuns IsRun before runs after →
      AllByRecursion HasEnded runs → (number : ℕ) → number < count → AllByRecursion P (own_at after number) → AllByRecursion P (own_at before number)
  chain_earlier P before [] after chain ended number within all = subst (λ (pass : PassView). AllByRecursion P (own_at pass number)) (sym chain) all
  chain_earlier P before (ran ∷ later) after chain ended number within all =
      let exit = exit_in before ran chain.0 ended.0 chain.1 in
      earlier_own P count worker exit.exchanges before chain.0 exit.sessions number within (chain_earlier P chain.0 later after chain.2 ended.1 number within all)

  plain : (n : ℕ) → n ≡ 0 + n
  plain n = omega arith

  -- a run raises the count of what it came to
  run_raises : (before : PassView) (ran : Ran) (after : PassView) → HasEnded ran → IsRun before ran after →
      ((number : ℕ) → number < count → AllByRecursion (IsFoundIn sizes) (own_at after number)) → (verdict : Verdict) → count_shard sizes verdict < count →
      raised (count_id sizes verdict) (own_at after (count_shard sizes verdict))
      ≡ is_end (verdict_number verdict) ran.end + raised (count_id sizes verdict) (own_at before (count_shard sizes verdict))
  run_raises before ran after ended run found verdict within =
      let exit = exit_in before ran after ended run in
      let number : ℕ = count_shard sizes verdict in
      let cell : ℕ = count_id sizes verdict in
      session_raises count worker exit.exchanges before after exit.sessions number cell within
      ∙ ap (λ n. n + raised cell (own_at before number))
      (result_raises sizes some _ exit.exchanges exit.verdict exit.frame exit.by_rule.result
      (found_exchanges sizes count worker exit.exchanges before after exit.sessions found) verdict
      ∙ ap {B = ℕ} (λ (n : ℕ). if n == verdict_number verdict then 1 else 0) (told_number run.sent exit.verdict exit.frame ran.end exit.told))

  pub chain_raises : (before : PassView) (runs : List Ran) (after : PassView) → IsChainOfRuns IsRun before runs after → AllByRecursion HasEnded runs →
      ((number : ℕ) → number < count → AllByRecursion (IsFoundIn sizes) (own_at after number)) → (verdict : Verdict) → count_shard sizes verdict < count →
      raised (count_id sizes verdict) (own_at after (count_shard sizes verdict))
      ≡ ends_in (verdict_number verdict) runs + raised (count_id sizes verdict) (own_at before (count_shard sizes verdict))
  chain_raises before [] after chain ended found verdict within =
      ap (λ (pass : PassView). raised (count_id sizes verdict) (own_at pass (count_shard sizes verdict))) (sym chain)
      ∙ plain (raised (count_id sizes verdict) (own_at before (count_shard sizes verdict)))
  chain_raises before (ran ∷ later) after chain ended found verdict within =
      let rest : raised (count_id sizes verdict) (own_at after (count_shard sizes verdict))
      ≡ ends_in (verdict_number verdict) later + raised (count_id sizes verdict) (own_at chain.0 (count_shard sizes verdict)) =
      chain_raises chain.0 later after chain.2 ended.1 found verdict within in
      let here : raised (count_id sizes verdict) (own_at chain.0 (count_shard sizes verdict))
      ≡ is_end (verdict_number verdict) ran.end + raised (count_id sizes verdict) (own_at before (count_shard sizes verdict)) =
      run_raises before ran chain.0 ended.0 chain.1
      (λ number inside. chain_earlier (IsFoundIn sizes) chain.0 later after chain.2 ended.1 number inside (found number inside)) verdict within in
      omega (arith, rest, here)

  pub chain_counting : (before : PassView) (runs : List Ran) (after : PassView) → IsChainOfRuns IsRun before runs after → AllByRecursion HasEnded runs →
      (number : ℕ) → number < count → 5 * sizes.shards ≤ number → AreCounting (own_at before number) → AreCounting (own_at after number)
  chain_counting before [] after chain ended number within past counting = subst (λ (pass : PassView). AreCounting (own_at pass number)) chain counting
  chain_counting before (ran ∷ later) after chain ended number within past counting =
      let exit = exit_in before ran chain.0 ended.0 chain.1 in
      chain_counting chain.0 later after chain.2 ended.1 number within past
      (stays_counting sizes count worker exit.exchanges before chain.0 exit.sessions
      (result_counts sizes some _ exit.exchanges exit.verdict exit.frame exit.by_rule.result) number within past counting)

-- ---- the whole

module _ (exact : CountsAreExact) (finds : LookupsOfArraysFind) (notes size : ℕ) (script : List Command) (options : Options) (records : List Sent) (outcome : Outcome)
    (fit : AreOptions (sized_maps notes size) options)
    (accounted : IsAccounted (shipped_program notes (of_size options.shards size)) script options records outcome)
    (replayed : IsSteeredReplay size (shipped_program notes (of_size options.shards size)) script options records outcome accounted) (none_set : outcome.updates.items ≡ [])
    (none : outcome.counts.stopped ≡ 0) where
  abbrev sizes : SteeringSizes
  sizes = of_size options.shards size

  -- the runs of a worker, with what they wrote
  work : (worker : ℕ) → worker < options.workers →
      IsWorkOf (IsRunAt (IsRuled accounted.plan accounted.count sizes worker) records)
      (share (frames_of records) options.workers worker (length records)) worker (runs_at accounted.runs worker) accounted.count outcome.journals accounted.order
  work worker below =
      work_ruled accounted.plan accounted.count sizes (shipped_program notes sizes) worker outcome.journals records
      (share (frames_of records) options.workers worker (length records)) (runs_at accounted.runs worker) accounted.order (accounted.work worker below)
      (replayed.by_rule worker below)

  abbrev history : ℕ → List Entry
  history number = reverse (entries_at outcome.journals number)

  abbrev runs : List (List Ran)
  runs = accounted.runs

  some : 0 < options.shards
  some = some_shard options.shards fit.power_of_two

  in_order : (worker : ℕ) → worker < options.workers →
      records_of (runs_at runs worker) ≡ share (frames_of records) options.workers worker (length records)
  in_order worker below = (work worker below).handled.records_are

  counts_are : (verdict : Verdict) → count_of verdict outcome.counts ≡ sum_below options.workers (λ worker. ends_in (verdict_number verdict) (runs_at runs worker))
  counts_are verdict =
      ap (count_of verdict) accounted.counts
      ∙ verdict_sum (frames_of records) options.workers fit.some_worker runs (length records) in_order verdict

  none_stopped : (worker : ℕ) → worker < options.workers → AllByRecursion HasEnded (runs_at runs worker)
  none_stopped worker below =
      all_ended (runs_at runs worker) (none_in_sum options.workers (λ worker. ends_in 4 (runs_at runs worker))
      (sym (stopped_sum (frames_of records) options.workers fit.some_worker runs (length records) in_order)
      ∙ sym (ap (λ (counts : Counts). counts.stopped) accounted.counts) ∙ none) worker below)

  found : (number : ℕ) → number < accounted.count → AllByRecursion (IsFoundIn sizes) (history number)
  found number within =
      all_found notes size options fit.power_of_two number (accounted.plan number) (accounted.plans.each number within) finds (history number)
      (accounted.legal number within)

  module _ (verdict : Verdict) where
    abbrev number : ℕ
    number = count_shard sizes verdict

    abbrev cell : ℕ
    cell = count_id sizes verdict

    past : 5 * options.shards ≤ number
    past = (let is : number ≡ 5 * options.shards + verdict_number verdict % options.shards = count_shard_is sizes verdict in omega (arith, is))

    within : number < accounted.count
    within =
        let is : number ≡ 5 * options.shards + verdict_number verdict % options.shards = count_shard_is sizes verdict in
        let part : verdict_number verdict % options.shards < options.shards = mod-lt (verdict_number verdict) some in
        let all : accounted.count ≡ 6 * options.shards = accounted.plans.count_is in
        omega (arith, is, part, all)

    abbrev plan : ShardPlan
    plan = accounted.plan number

    is_plan : IsCountPlan options number plan
    is_plan = count_plan notes size options fit.power_of_two verdict plan (accounted.plans.each number within)

    array : plan.definition.kind ≡ Array
    array = ap (λ (d : MapDef). d.kind) is_plan.definition_is

    nothing_yet : (worker : ℕ) (below : worker < options.workers) → own_at (work worker below).handled.before number ≡ []
    nothing_yet worker below = ap (λ (view : CallerView). view.own) ((work worker below).handled.is_new.nothing number)

    worker_found : (worker : ℕ) (below : worker < options.workers) (other : ℕ) → other < accounted.count →
        AllByRecursion (IsFoundIn sizes) (own_at (work worker below).after other)
    worker_found worker below other inside =
        subst (λ (own : List Entry). AllByRecursion (IsFoundIn sizes) own) (sym ((work worker below).own other inside))
        (all_own (IsFoundIn sizes) (Worker worker) (history other) (found other inside))

    worker_raises : (worker : ℕ) → worker < options.workers →
        raised cell (own_entries (Worker worker) (history number)) ≡ ends_in (verdict_number verdict) (runs_at runs worker)
    worker_raises worker below =
        let did = work worker below in
        let all : raised cell (own_at did.after number) ≡ ends_in (verdict_number verdict) (runs_at runs worker) + raised cell (own_at did.handled.before number) =
        chain_raises accounted.plan accounted.count sizes some worker records did.handled.before (runs_at runs worker) did.after did.handled.chain
        (none_stopped worker below) (worker_found worker below) verdict within in
        let nothing : raised cell (own_at did.handled.before number) ≡ 0 = ap (raised cell) (nothing_yet worker below) in
        ap (raised cell) (sym (did.own number within)) ∙ omega (arith, all, nothing)

    worker_counting : (worker : ℕ) → worker < options.workers → AreCounting (own_entries (Worker worker) (history number))
    worker_counting worker below =
        let did = work worker below in
        subst AreCounting (did.own number within)
        (chain_counting accounted.plan accounted.count sizes some worker records did.handled.before (runs_at runs worker) did.after did.handled.chain
        (none_stopped worker below) number within past (subst AreCounting (sym (nothing_yet worker below)) tt))

    controller_none : own_entries Controller (history number) ≡ []
    controller_none =
        let commands = accounted.commands in
        let none_first = ap (λ (updates : List MapUpdate). with_updates (sized_maps notes size) options number (all_set updates ++ made_in commands.done) []) none_set in
        commands.own number within ∙ none_first ∙ none_from_commands notes size options some number past (opened_controller commands.of_script.size) commands.done commands.of_script.state
        commands.of_script.are_done

    reclaimer_none : own_entries Reclaimer (history number) ≡ []
    reclaimer_none =
        rounds_none plan.definition.kind array plan number (round_count (length records)) (own_entries Reclaimer (history number)) (history number)
        (accounted.rounds.each number within)

    all_counting : AreCounting (history number)
    all_counting =
        all_of_callers _ plan (history number) (accounted.legal number within)
        (record {
          of_workers = λ worker below. worker_counting worker (subst (λ (n : ℕ). worker < n) is_plan.workers_are below);
          of_controller = subst AreCounting (sym controller_none) tt;
          of_reclaimer = subst AreCounting (sym reclaimer_none) tt;
        })

    raised_is : raised cell (history number) ≡ count_of verdict outcome.counts
    raised_is =
        let callers : raised cell (history number) ≡ own_sum plan.workers cell (history number) =
        raised_by_all plan (history number) cell (accounted.legal number within) in
        let controls : raised cell (own_entries Controller (history number)) ≡ 0 = ap (raised cell) controller_none in
        let reclaims : raised cell (own_entries Reclaimer (history number)) ≡ 0 = ap (raised cell) reclaimer_none in
        let works : sum_below plan.workers (λ worker. raised cell (own_entries (Worker worker) (history number)))
        ≡ sum_below options.workers (λ worker. ends_in (verdict_number verdict) (runs_at runs worker)) =
        ap (λ (n : ℕ). sum_below n (λ worker. raised cell (own_entries (Worker worker) (history number)))) is_plan.workers_are
        ∙ same_sums options.workers (λ worker. raised cell (own_entries (Worker worker) (history number)))
        (λ worker. ends_in (verdict_number verdict) (runs_at runs worker)) worker_raises in
        let told = counts_are verdict in
        omega (arith, callers, controls, reclaims, works, told)

    inside : cell < capacity plan
    inside =
        subst (λ (p : ℕ). cell < plan.definition.max_entries / p) (sym is_plan.parts_are)
        (subst (λ (d : MapDef). cell < d.max_entries / options.shards) (sym is_plan.definition_is)
        (in_cells options.shards fit.power_of_two (verdict_number verdict) (four_verdicts verdict)))

    reserved : plan.reserve < 2 ^ 64
    reserved = (let is = is_plan.reserve_is in let most = fit.greatest_journal in omega (arith, is, most))

    holds : number_in_cell (shard_after plan (history number)) cell 0 8 ≡ count_of verdict outcome.counts
    holds =
        exact plan (history number) cell array (ap (λ (d : MapDef). d.value_size) is_plan.definition_is) inside reserved (accounted.legal number within)
        all_counting
        ∙ raised_is

    key_found : cell_of_key plan (shard_after plan (history number)) (count_key verdict) ≡ Some cell
    key_found =
        let entries : plan.definition.max_entries ≡ 8 = ap (λ (d : MapDef). d.max_entries) is_plan.definition_is in
        let back = key_number verdict in
        let few = four_verdicts verdict in
        let below : number_of_bytes (count_key verdict) < plan.definition.max_entries = omega (arith, entries, back, few) in
        ap (λ (kind : MapKind). cell_of_kind kind plan (shard_after plan (history number)) (count_key verdict)) array
        ∙ ap (λ (t : Bool). if t then Some (number_of_bytes (count_key verdict) / plan.parts) else None)
        (lt-ltb (number_of_bytes (count_key verdict)) plan.definition.max_entries below)
        ∙ ap (λ (n : ℕ). Some (n / plan.parts)) back
        ∙ ap (λ (n : ℕ). Some (verdict_number verdict / n)) is_plan.parts_are

    -- by the journals' own maps and options
    has_count : HasCount outcome.journals verdict (count_of verdict outcome.counts)
    has_count =
        let same : outcome.journals.options ≡ options = accounted.options_are in
        let there : shard_of_count outcome.journals.options.shards verdict ≡ number = ap (λ (o : Options). shard_of_count o.shards verdict) same in
        record {
          plan = plan;
          planned = ap (λ (n : ℕ). plan_at outcome.journals.maps outcome.journals.options n) there
              ∙ ap (λ (maps : List MapDef). plan_at maps outcome.journals.options number) accounted.maps
              ∙ ap (λ (o : Options). plan_at (sized_maps notes size) o number) same
              ∙ accounted.plans.each number within;
          cell = cell;
          found = ap (λ (n : ℕ). cell_of_key plan (shard_after plan (history n)) (count_key verdict)) there ∙ key_found;
          holds = ap (λ (n : ℕ). number_in_cell (shard_after plan (history n)) cell 0 8) there ∙ holds;
        }

  pub are_totals : AreTotals outcome
  are_totals = record {
    aborted = has_count verdicts.Aborted;
    drop = has_count verdicts.Drop;
    pass = has_count verdicts.Pass;
    tx = has_count verdicts.Tx;
  }
