-- A replay of a program that only reads: what is sent is what the runs over maps in which nothing has happened send.
use Rattle.std.proofs.Common.{◌≡◌, ℕ, zero, suc, ◌<◌, ◌≤◌, Bool, true, false, List, [], ◌∷◌, ◌++◌, length, refl, sym, ◌∙◌, ap, subst, arith}
use Rattle.std.specs.Prelude.{Option, Some, None, IsTrue, reverse, map, slice_get, ◌%◌, ◌/◌, if◌then◌else◌}
use Rattle.std.specs.List.{AllByRecursion}
use Rattle.std.proofs.Math.Nat.{mod-lt}
use Rattle.ebpf_decode.specs.declared.insn.Insn.{Insn}
use Rattle.ebpf_decode.specs.declared.map.MapDef.{MapDef}
use Rattle.ebpf_decode.specs.declared.map.MapKind.{MapKind}
use Rattle.ebpf_decode.specs.declared.map.MapKind.TheVariants.{Array, Hash, LruHash}
use Rattle.wire.specs.declared.records.Sent.{Sent}
use Rattle.wire.specs.Fnv.{fnv1a64_of}
use Rattle.wire.specs.FlowForm.{flow_bytes_of}
use Rattle.semantics.specs.declared.call.Caller.TheVariants.{Worker, Controller, Reclaimer}
use Rattle.semantics.specs.declared.call.Entry.{Entry}
use Rattle.semantics.specs.declared.options.Options.{Options}
use Rattle.semantics.specs.declared.plan.ShardPlan.{ShardPlan}
use Rattle.semantics.specs.CallerLaws.{own_entries}
use Rattle.semantics.specs.Program.{Program}
use Rattle.semantics.specs.ShardPlan.{plan_for_map}
use Rattle.journals.specs.JournalsView.{JournalsView, entries_at}
use Rattle.shards.specs.CallerView.{CallerView}
use Rattle.shards.specs.Passes.{PassView, own_at}
use Rattle.semantics.specs.Replay.{Captured}
use Rattle.actors.specs.declared.outcome.Applied.{Applied}
use Rattle.actors.specs.Commands.{all_set, CommandDone, AreNotedOf, made_in, with_updates}
use Rattle.map_updates.specs.declared.update.MapUpdate.{MapUpdate}
use Rattle.actors.specs.Rounds.{IsReclaim, IsReclaimedBy}
use Rattle.actors.specs.declared.runner.Ran.{Ran}
use Rattle.actors.specs.declared.runner.RunEnd.{RunEnd}
use Rattle.actors.specs.declared.runner.RunEnd.TheVariants.{Stopped, Exited}
use Rattle.actors.specs.declared.account.Counts.{Counts}
use Rattle.actors.specs.Accounts.{counts_of, sent_by, sent_of, runs_at, fate_of}
use Rattle.actors.specs.RunsInOrder.{IsRunAt, IsChainOfRuns}
use Rattle.actors.specs.Shares.{frames_of, frame_at, is_short, is_spread_by_flow, worker_of_frame, is_handed, share, all_captured}
use Rattle.actors.proofs.shared.AccountLemmas.{handed_own}
use Rattle.actors.specs.declared.outcome.Outcome.{Outcome}
use Rattle.actors.specs.Accounted.{IsAccounted}
use Rattle.actors.specs.Parts.{round_count}
use Rattle.actors.specs.RunsOverShards.{IsRunIn, IsExit}
use Rattle.guarantees.specs.ReaderRuns.{is_quiet, AreQuiet, IsReadAtOpening}
use Rattle.guarantees.specs.ReaderReplays.{sent_at_opening, sent_if_there, all_sent_at_opening}
use Rattle.actors.specs.Captured.{IsCaptured}
use Rattle.actors.proofs.shared.Callers.{all_of_callers, all_own}
use Rattle.guarantees.specs.ReplayMoves.{IsNotStopped}
use Rattle.guarantees.proofs.NoneStopped.{IsWhole, all_whole}
use Rattle.guarantees.proofs.OpenedRuns.{IsReading, program_at, stays_quiet, earlier, sends_as_opened}
use Rattle.guarantees.proofs.QuietShards.{quiet_shards}
use Rattle.actors.proofs.shared.ShareOrder.{fate_is, record_of, run_there, share_at}

-- ---- records

exit_of : (plan : ℕ → ShardPlan) (count : ℕ) (program : Program) (worker : ℕ) (journals : JournalsView) (captured : Sent) (before : PassView) (end : RunEnd)
    (after : PassView) → IsNotStopped end → IsRunIn plan count program worker journals captured before end after →
    IsExit count program worker captured before end after
exit_of plan count program worker journals captured before Stopped after ended run = absurd ended
exit_of plan count program worker journals captured before (Exited steps fate) after ended run = run

-- a run of the record sends what it would send over the maps as they were opened
pub record IsAsOpened (program : Program) (records : List Sent) (ran : Ran) : Type 0 where
  pub captured : Sent
  pub known : slice_get records ran.number ≡ Some captured
  pub sends : sent_by (Some ran.end) ≡ sent_at_opening program captured

-- ---- the runs of a worker

module _ (maps : List MapDef) (code : List Insn) (options : Options) (count : ℕ) (plan : ℕ → ShardPlan) (reading : IsReading maps code options count plan)
    (records : List Sent) (captured : AllByRecursion IsCaptured records) (journals : JournalsView) (worker : ℕ) (below : worker < options.workers) where
  abbrev program : Program
  program = program_at maps code options

  abbrev IsRun : PassView → Ran → PassView → Type 0
  IsRun before ran after = IsRunAt (IsRunIn plan count program worker journals) records before ran after

  long_of : (ran : Ran) → IsWhole (frames_of records) ran → (one : Sent) → slice_get records ran.number ≡ Some one → is_short one.bytes.items ≡ false
  long_of ran whole one known = ap is_short (sym (record_of records ran.number one known captured).1) ∙ whole.long

  exit_in : (before : PassView) (ran : Ran) (after : PassView) → IsWhole (frames_of records) ran → (run : IsRun before ran after) →
      IsExit count program worker run.sent before ran.end after
  exit_in before ran after whole run = exit_of plan count program worker journals run.sent before ran.end after whole.ended run.run

  chain_quiet : (before : PassView) (runs : List Ran) (after : PassView) → IsChainOfRuns IsRun before runs after → AllByRecursion (IsWhole (frames_of records)) runs →
      (number : ℕ) → number < count → AreQuiet (own_at before number) → AreQuiet (own_at after number)
  chain_quiet before [] after chain whole number within quiet = subst (λ (pass : PassView). AreQuiet (own_at pass number)) chain quiet
  chain_quiet before (ran ∷ later) after chain whole number within quiet =
      let run = chain.1 in
      chain_quiet chain.0 later after chain.2 whole.1 number within
      (stays_quiet maps code options count plan reading worker below run.sent (record_of records ran.number run.sent run.known captured).0
      (long_of ran whole.0 run.sent run.known) before ran.end chain.0 (exit_in before ran chain.0 whole.0 run) number within quiet)

  chain_earlier : (P : Entry → Type 0) (before : PassView) (runs : List Ran) (after : PassView) → IsChainOfRuns IsRun before runs after →
      AllByRecursion (IsWhole (frames_of records)) runs → (number : ℕ) → number < count → AllByRecursion P (own_at after number) →
      AllByRecursion P (own_at before number)
  chain_earlier P before [] after chain whole number within all = subst (λ (pass : PassView). AllByRecursion P (own_at pass number)) (sym chain) all
  chain_earlier P before (ran ∷ later) after chain whole number within all =
      let run = chain.1 in
      (earlier maps code options count plan reading worker below run.sent (record_of records ran.number run.sent run.known captured).0
      (long_of ran whole.0 run.sent run.known) before ran.end chain.0 (exit_in before ran chain.0 whole.0 run) P number within
      (chain_earlier P chain.0 later after chain.2 whole.1 number within all)).1

  opened_where : (short : Bool) (one : Sent) (list : List Captured) → short ≡ false → (if short then [] else list) ≡ list
  opened_where true one list is = absurd cc
  opened_where false one list is = refl

  chain_opened : (before : PassView) (runs : List Ran) (after : PassView) → IsChainOfRuns IsRun before runs after → AllByRecursion (IsWhole (frames_of records)) runs →
      ((number : ℕ) → number < count → AllByRecursion (IsReadAtOpening (plan number)) (own_at after number)) → AllByRecursion (IsAsOpened program records) runs
  chain_opened before [] after chain whole all = tt
  chain_opened before (ran ∷ later) after chain whole all =
      let run = chain.1 in
      let long = long_of ran whole.0 run.sent run.known in
      let sends = sends_as_opened maps code options count plan reading worker below run.sent (record_of records ran.number run.sent run.known captured).0 long
      before ran.end chain.0 (exit_in before ran chain.0 whole.0 run)
      (λ number within. chain_earlier (IsReadAtOpening (plan number)) chain.0 later after chain.2 whole.1 number within (all number within)) in (
        record {
          captured = run.sent;
          known = run.known;
          sends = sends ∙ sym (opened_where (is_short run.sent.bytes.items) run.sent _ long);
        },
        chain_opened chain.0 later after chain.2 whole.1 all,
      )

-- ---- the controller and the reclaimer

none_noted : (noted : List Applied) (done : List CommandDone) → map (λ (one : Applied). one.command) noted ≡ [] → AreNotedOf [] noted done → made_in done ≡ []
none_noted [] [] none are = refl
none_noted [] (one ∷ later) none are = absurd are
none_noted (noted ∷ more) done none are = absurd cc

quiet_reclaims : (number : ℕ) (own : List Entry) → AllByRecursion (IsReclaim number) own → AreQuiet own
quiet_reclaims number [] all = tt
quiet_reclaims number (entry ∷ older) all =
    (ap (λ (one : Entry). is_quiet one.call) all.0.1, quiet_reclaims number older all.1)

quiet_rounds : (kind : MapKind) (plan : ShardPlan) (number rounds : ℕ) (own seen : List Entry) → IsReclaimedBy kind plan number rounds own seen → AreQuiet own
quiet_rounds Array plan number rounds own seen none = subst AreQuiet (sym none) tt
quiet_rounds Hash plan number rounds own seen made = quiet_reclaims number own made.each
quiet_rounds LruHash plan number rounds own seen made = quiet_reclaims number own made.each

workers_of_plan : (options : Options) (number : ℕ) (plan : ShardPlan) (found : Option MapDef) → plan_for_map options number found ≡ Some plan →
    plan.workers ≡ options.workers
workers_of_plan options number plan None is = absurd cc
workers_of_plan options number plan (Some definition) is = cc is

-- ---- the whole

flow_below : (flow : Bool) (hash workers : ℕ) → 0 < workers → (if flow then hash % workers else 0) < workers
flow_below true hash workers some = mod-lt hash some
flow_below false hash workers some = some

module _ (maps : List MapDef) (code : List Insn) (options : Options) (some : 0 < options.workers) (records : List Sent) (captured : AllByRecursion IsCaptured records)
    (outcome : Outcome) (accounted : IsAccounted (program_at maps code options) [] options records outcome)
    (reading : IsReading maps code options accounted.count accounted.plan) (none_set : outcome.updates.items ≡ []) (none : outcome.counts.stopped ≡ 0) where
  abbrev replayed : Program
  replayed = program_at maps code options

  abbrev runs : List (List Ran)
  runs = accounted.runs

  abbrev plan_of : ℕ → ShardPlan
  plan_of = accounted.plan

  abbrev history : ℕ → List Entry
  history number = reverse (entries_at outcome.journals number)

  none_counted : (counts_of (frames_of records) options.workers runs (length records)).stopped ≡ 0
  none_counted = sym (ap (λ (counts : Counts). counts.stopped) accounted.counts) ∙ none

  whole : (worker : ℕ) → worker < options.workers → AllByRecursion (IsWhole (frames_of records)) (runs_at runs worker)
  whole worker below = all_whole (frames_of records) options.workers worker (length records) runs none_counted (accounted.work worker below).handled.records_are

  quiet_worker : (number : ℕ) → number < accounted.count → (worker : ℕ) → worker < options.workers → AreQuiet (own_entries (Worker worker) (history number))
  quiet_worker number within worker below =
      let work = accounted.work worker below in
      let first : AreQuiet (own_at work.handled.before number) =
      subst AreQuiet (sym (ap (λ (view : CallerView). view.own) (work.handled.is_new.nothing number))) tt in
      subst AreQuiet (work.own number within)
      (chain_quiet maps code options accounted.count plan_of reading records captured outcome.journals worker below work.handled.before (runs_at runs worker) work.after
      work.handled.chain (whole worker below) number within first)

  quiet_controller : (number : ℕ) → number < accounted.count → AreQuiet (own_entries Controller (history number))
  quiet_controller number within =
      let commands = accounted.commands in
      let made : made_in commands.done ≡ [] = none_noted commands.of_script.noted commands.done commands.of_script.each_once commands.of_script.are_noted in
      let none_first = ap (λ (updates : List MapUpdate). with_updates maps options number (all_set updates ++ made_in commands.done) []) none_set in
      subst AreQuiet (sym (commands.own number within ∙ none_first ∙ ap (λ made. with_updates maps options number made []) made)) tt

  quiet_reclaimer : (number : ℕ) → number < accounted.count → AreQuiet (own_entries Reclaimer (history number))
  quiet_reclaimer number within =
      quiet_rounds (plan_of number).definition.kind (plan_of number) number (round_count (length records)) (own_entries Reclaimer (history number)) (history number)
      (accounted.rounds.each number within)

  quiet_history : (number : ℕ) → number < accounted.count → AreQuiet (history number)
  quiet_history number within =
      let workers : (plan_of number).workers ≡ options.workers =
      workers_of_plan options number (plan_of number) (slice_get maps (number / options.shards)) (accounted.plans.each number within) in
      all_of_callers (λ (entry : Entry). IsTrue (is_quiet entry.call)) (plan_of number) (history number) (accounted.legal number within)
      (record {
        of_workers = λ worker below. quiet_worker number within worker (subst (λ (n : ℕ). worker < n) workers below);
        of_controller = quiet_controller number within;
        of_reclaimer = quiet_reclaimer number within;
      })

  read_history : (number : ℕ) → number < accounted.count → AllByRecursion (IsReadAtOpening (plan_of number)) (history number)
  read_history number within = (quiet_shards (plan_of number) (history number) (accounted.legal number within) (quiet_history number within)).1

  opened_runs : (worker : ℕ) → worker < options.workers → AllByRecursion (IsAsOpened replayed records) (runs_at runs worker)
  opened_runs worker below =
      let work = accounted.work worker below in
      chain_opened maps code options accounted.count plan_of reading records captured outcome.journals worker below work.handled.before (runs_at runs worker) work.after
      work.handled.chain (whole worker below)
      (λ number within. subst (λ (own : List Entry). AllByRecursion (IsReadAtOpening (plan_of number)) own) (sym (work.own number within))
      (all_own (IsReadAtOpening (plan_of number)) (Worker worker) (history number) (read_history number within)))

  -- ---- record by record

  short_sends : (number : ℕ) (found : Option Sent) → slice_get records number ≡ found → is_short (frame_at (frames_of records) number) ≡ true →
      sent_if_there replayed found ≡ []
  short_sends number None is short = refl
  short_sends number (Some one) is short =
      let here : is_short one.bytes.items ≡ true = ap is_short (sym (record_of records number one is captured).1) ∙ short in
      rw here refl

  by_length : (number : ℕ) → number < length records → (short : Bool) → is_short (frame_at (frames_of records) number) ≡ short →
      sent_by (fate_of (frames_of records) options.workers runs number) ≡ sent_if_there replayed (slice_get records number)
  by_length number below true is =
      let fate : fate_of (frames_of records) options.workers runs number ≡ None = rw is refl in
      ap sent_by fate ∙ sym (short_sends number (slice_get records number) refl is)
  by_length number below false is =
      let worker : ℕ = worker_of_frame (frame_at (frames_of records) number) options.workers in
      let few : worker < options.workers =
      flow_below (is_spread_by_flow (frame_at (frames_of records) number)) (fnv1a64_of (flow_bytes_of (frame_at (frames_of records) number))) options.workers some in
      let handed : is_handed (frames_of records) options.workers worker number ≡ true = handed_own (frames_of records) options.workers worker number is refl in
      let place : ℕ = length (share (frames_of records) options.workers worker number) in
      let there = share_at (frames_of records) options.workers worker number (length records) handed below in
      let at = run_there (IsAsOpened replayed records) (runs_at runs worker) place number (opened_runs worker few)
      (ap (λ (l : List ℕ). slice_get l place) (accounted.work worker few).handled.records_are ∙ there) in
      let known : slice_get records number ≡ Some at.is.captured = ap (slice_get records) (sym at.number_is) ∙ at.is.known in
      ap sent_by (fate_is (frames_of records) options.workers runs worker number handed ∙ at.ends)
      ∙ at.is.sends
      ∙ sym (ap (sent_if_there replayed) known)

  first_records : (number : ℕ) → number ≤ length records →
      sent_of (frames_of records) options.workers runs number ≡ all_sent_at_opening replayed records number
  first_records zero few = refl
  first_records (suc number) few =
      let before = first_records number (omega (arith, few)) in
      let last = by_length number (omega (arith, few)) (is_short (frame_at (frames_of records) number)) refl in
      ap (λ (list : List Captured). list ++ sent_by (fate_of (frames_of records) options.workers runs number)) before
      ∙ ap (λ (list : List Captured). all_sent_at_opening replayed records number ++ list) last

  pub sends_as_at_opening : all_captured outcome.sent.items ≡ all_sent_at_opening replayed records (length records)
  sends_as_at_opening = accounted.sent ∙ first_records (length records) (omega arith)
