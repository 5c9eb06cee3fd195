-- A worker's run of a program that only reads, over maps that are as they were opened.
use Rattle.std.proofs.Common.{◌≡◌, ℕ, ◌<◌, ◌≤◌, false, List, [], ◌∷◌, length, refl, sym, ◌∙◌, ap, subst, arith}
use Rattle.std.specs.Prelude.{Option, Some, None, IsTrue, reverse, slice_get, nat_lt, ◌%◌, ◌/◌}
use Rattle.std.specs.List.{AllByRecursion}
use Rattle.std.proofs.lemmas.Bool.Decides.{nat_tests}
use Rattle.ebpf_decode.specs.declared.insn.Insn.{Insn}
use Rattle.ebpf_decode.specs.declared.map.MapDef.{MapDef}
use Rattle.ebpf_decode.specs.declared.map.MapKind.{MapKind}
use Rattle.ebpf_decode.specs.declared.map.MapKind.TheVariants.{Array, Hash, LruHash}
use Rattle.ebpf_decode.specs.InstructionEncoding.{total_slots}
use Rattle.wire.specs.declared.records.Sent.{Sent}
use Rattle.wire.specs.FrameView.{FrameView}
use Rattle.semantics.specs.declared.call.Call.{Call}
use Rattle.semantics.specs.declared.call.Call.TheVariants.{Enter, Leave, Lookup, Load, Store, Atomic, Update, Delete, Reclaim}
use Rattle.semantics.specs.declared.call.Entry.{Entry}
use Rattle.semantics.specs.declared.options.Options.{Options}
use Rattle.semantics.specs.declared.plan.ShardPlan.{ShardPlan}
use Rattle.semantics.specs.declared.verdict.Verdict.{Verdict}
use Rattle.semantics.specs.Program.{Program}
use Rattle.semantics.specs.History.{shard_of_call}
use Rattle.semantics.specs.RunTrace.{RunStand, RunTrace, HasExited, Waits, HasTrapped, GoesOn, trace_of, AreReplies}
use Rattle.semantics.specs.ShardPlan.{plan_at, plan_for_map}
use Rattle.semantics.specs.System.{IsInputFrame}
use Rattle.map_port.specs.Exchanges.{Exchange, calls_in, replies_in}
use Rattle.shards.specs.Passes.{PassView, own_at}
use Rattle.shard_port.specs.PassSessions.{session_at, AreCallsWithin}
use Rattle.shard_port.specs.Sessions.{exchange_entry, exchange_entries}
use Rattle.runs.specs.FrameRuns.{AreFormed}
use Rattle.actors.specs.declared.runner.RunEnd.{RunEnd}
use Rattle.actors.specs.declared.runner.RunEnd.TheVariants.{Stopped, Exited}
use Rattle.actors.specs.declared.runner.FrameFate.TheVariants.{Aborted, Dropped, Passed, Sent as IsSent}
use Rattle.actors.specs.Accounts.{sent_by}
use Rattle.actors.specs.Shares.{is_short}
use Rattle.actors.specs.RunsOverShards.{IsTold, IsExit, start_of, time_of}
use Rattle.guarantees.specs.SameRuns.{RunsTheSame, stand_of_any, trace_of_any}
use Rattle.guarantees.specs.ReaderRuns.{is_read, is_quiet, AreReads, AreQuiet, OnlyReads, IsReadAtOpening, opening_reply, stand_with}
use Rattle.guarantees.specs.ReaderReplays.{opening_answer_in, opening_answer, options_of, sent_by_verdict, sent_where}
use Rattle.actors.specs.Captured.{IsCaptured}
use Rattle.guarantees.proofs.Answered.{AreOf, ends_alike}
use Rattle.actors.proofs.shared.EveryEntry.{all_both, all_parts, all_reverse, all_reversed, all_session, in_session, all_entries, each_exchange}

-- ---- the answers of shards as they were opened depend on the number of shards alone

same_opening : (number part parts workers other journal room : ℕ) (definition : MapDef) (kind : MapKind) → definition.kind ≡ kind → (call : Call) → IsTrue (is_read call) →
    opening_reply (record { number = number; part = part; parts = parts; definition = definition; workers = workers; reserve = journal }) call
    ≡ opening_reply (record { number = number; part = part; parts = parts; definition = definition; workers = other; reserve = room }) call
same_opening number part parts workers other journal room definition Array is (Lookup shard key) read = rw is refl
same_opening number part parts workers other journal room definition Hash is (Lookup shard key) read = rw is refl
same_opening number part parts workers other journal room definition LruHash is (Lookup shard key) read = rw is refl
same_opening number part parts workers other journal room definition Array is (Load cell offset size) read = rw is refl
same_opening number part parts workers other journal room definition Hash is (Load cell offset size) read = rw is refl
same_opening number part parts workers other journal room definition LruHash is (Load cell offset size) read = rw is refl
same_opening number part parts workers other journal room definition kind is call read = absurd cc

answer_of : (options : Options) (number : ℕ) (plan : ShardPlan) (call : Call) → IsTrue (is_read call) → (found : Option MapDef) →
    plan_for_map options number found ≡ Some plan → opening_reply plan call ≡ opening_answer_in (plan_for_map (options_of options.shards) number found) call
answer_of options number plan call read None is = absurd cc
answer_of options number plan call read (Some definition) is =
    let same : (record {
      number = number;
      part = number % options.shards;
      parts = options.shards;
      definition = definition;
      workers = options.workers;
      reserve = options.journal;
    }) ≡ plan = cc is in
    ap (λ (one : ShardPlan). opening_reply one call) (sym same)
    ∙ same_opening number (number % options.shards) options.shards options.workers 1 options.journal 16 definition definition.kind refl call read

-- ---- the exchanges of a run

formed_replies : (program : Program) (exchanges : List Exchange) → AreFormed program exchanges → AreReplies program (calls_in exchanges) (replies_in exchanges)
formed_replies program [] formed = tt
formed_replies program (exchange ∷ later) formed = (formed.0, formed_replies program later formed.1)

of_calls : (exchanges : List Exchange) → AreReads (calls_in exchanges) → AllByRecursion (λ (exchange : Exchange). IsTrue (is_read exchange.call)) exchanges
of_calls [] reads = tt
of_calls (exchange ∷ later) reads = (reads.0, of_calls later reads.1)

quiet_of : (call : Call) → IsTrue (is_read call) → IsTrue (is_quiet call)
quiet_of (Enter shard) read = refl
quiet_of (Leave shard) read = refl
quiet_of (Reclaim shard) read = refl
quiet_of (Lookup shard key) read = refl
quiet_of (Load cell offset size) read = refl
quiet_of (Store cell offset size value) read = read
quiet_of (Atomic cell offset size op value expected) read = read
quiet_of (Update shard key value flags) read = read
quiet_of (Delete shard key) read = read

abbrev IsQuietEntry : Entry → Type 0
IsQuietEntry entry = IsTrue (is_quiet entry.call)

quiet_entries : (worker : ℕ) (exchanges : List Exchange) → AllByRecursion (λ (exchange : Exchange). IsTrue (is_read exchange.call)) exchanges →
    AllByRecursion (λ (exchange : Exchange). IsQuietEntry (exchange_entry worker exchange)) exchanges
quiet_entries worker [] reads = tt
quiet_entries worker (exchange ∷ later) reads = (quiet_of exchange.call reads.0, quiet_entries worker later reads.1)

-- ---- the maps, the program and its records

pub record IsReading (maps : List MapDef) (code : List Insn) (options : Options) (count : ℕ) (plan : ℕ → ShardPlan) : Type 0 where
  pub reads : OnlyReads maps code
  pub same : RunsTheSame maps code
  pub few : options.workers ≤ 8
  pub plans : (number : ℕ) → number < count → plan_at maps options number ≡ Some (plan number)

abbrev pub program_at : List MapDef → List Insn → Options → Program
program_at maps code options = record { code = code; maps = maps; shards = options.shards }

module _ (maps : List MapDef) (code : List Insn) (options : Options) (count : ℕ) (plan : ℕ → ShardPlan) (reading : IsReading maps code options count plan)
    (worker : ℕ) (below : worker < options.workers) (captured : Sent) (is : IsCaptured captured) (long : is_short captured.bytes.items ≡ false)
    (before : PassView) (end : RunEnd) (after : PassView) (exit : IsExit count (program_at maps code options) worker captured before end after) where
  abbrev program : Program
  program = program_at maps code options

  abbrev exchanges : List Exchange
  exchanges = exit.run.exchanges

  abbrev trace_at : ℕ → RunTrace
  trace_at number = trace_of (total_slots code) program (start_of captured number) (replies_in exchanges)

  input : IsInputFrame captured.bytes.items
  input = record {
    least = (let test : nat_lt (length captured.bytes.items) 14 ≡ false = long in grind (arith, nat_tests));
    greatest = is.short;
    bytes = is.bytes;
  }

  early : worker < 8
  early = (let few = reading.few in omega (arith, below, few))

  calls_are : (trace_at worker).calls ≡ calls_in exchanges
  calls_are = ap (λ (trace : RunTrace). trace.calls) exit.run.trace

  fit : AreReplies program (trace_at worker).calls (replies_in exchanges)
  fit = subst (λ (calls : List Call). AreReplies program calls (replies_in exchanges)) (sym calls_are) (formed_replies program exchanges exit.run.formed)

  all_read : AllByRecursion (λ (exchange : Exchange). IsTrue (is_read exchange.call)) exchanges
  all_read = of_calls exchanges (subst AreReads calls_are
      (reading.reads options.shards (total_slots code) captured.bytes.items worker (time_of captured) (replies_in exchanges) input early is.time fit))

  -- what was quiet stays quiet
  pub stays_quiet : (number : ℕ) → number < count → AreQuiet (own_at before number) → AreQuiet (own_at after number)
  stays_quiet number within quiet =
      subst (λ (own : List Entry). AreQuiet own) (sym (exit.run.sessions.written number within))
      (all_both IsQuietEntry (reverse (session_at worker number exchanges)) (own_at before number)
      (all_reverse IsQuietEntry (session_at worker number exchanges)
      (all_session IsQuietEntry worker number (exchange_entries worker number exchanges) refl refl
      (all_entries IsQuietEntry worker number exchanges (quiet_entries worker exchanges all_read))))
      quiet)

  -- what holds of the entries after the run holds of those before it
  pub earlier : (P : Entry → Type 0) (number : ℕ) → number < count → AllByRecursion P (own_at after number) →
      AllByRecursion P (reverse (session_at worker number exchanges)) × AllByRecursion P (own_at before number)
  earlier P number within all =
      all_parts P (reverse (session_at worker number exchanges)) (own_at before number)
      (subst (λ (own : List Entry). AllByRecursion P own) (exit.run.sessions.written number within) all)

  in_exchanges : ((number : ℕ) → number < count → AllByRecursion (IsReadAtOpening (plan number)) (own_at after number)) →
      AllByRecursion (λ (exchange : Exchange). IsReadAtOpening (plan (shard_of_call exchange.call)) (exchange_entry worker exchange)) exchanges
  in_exchanges all =
      each_exchange (λ (number : ℕ). IsReadAtOpening (plan number)) count worker exchanges exit.run.sessions.within
      (λ number within. in_session (IsReadAtOpening (plan number)) worker number (exchange_entries worker number exchanges)
      (all_reversed (IsReadAtOpening (plan number)) (session_at worker number exchanges)
      (earlier (IsReadAtOpening (plan number)) number within (all number within)).0))

  answers : (list : List Exchange) → AreCallsWithin count list → AllByRecursion (λ (exchange : Exchange). IsTrue (is_read exchange.call)) list →
      AllByRecursion (λ (exchange : Exchange). IsReadAtOpening (plan (shard_of_call exchange.call)) (exchange_entry worker exchange)) list →
      AreOf (opening_answer program) list
  answers [] within reads all = tt
  answers (exchange ∷ later) within reads all =
      let number : ℕ = shard_of_call exchange.call in (
        all.0 reads.0 ∙ answer_of options number (plan number) exchange.call reads.0 (slice_get maps (number / options.shards)) (reading.plans number within.0),
        answers later within.1 reads.1 all.1,
      )

  -- ---- what is sent

  told_as : (end : RunEnd) (verdict : Verdict) (frame : FrameView) → IsTold captured verdict frame end →
      sent_by (Some end) ≡ sent_by_verdict captured verdict frame.bytes
  told_as Stopped verdict frame told = absurd told
  told_as (Exited steps Aborted) verdict frame told = subst (λ (v : Verdict). [] ≡ sent_by_verdict captured v frame.bytes) (sym told) refl
  told_as (Exited steps Dropped) verdict frame told = subst (λ (v : Verdict). [] ≡ sent_by_verdict captured v frame.bytes) (sym told) refl
  told_as (Exited steps Passed) verdict frame told = subst (λ (v : Verdict). [] ≡ sent_by_verdict captured v frame.bytes) (sym told) refl
  told_as (Exited steps (IsSent sent)) verdict frame told =
      subst (λ (v : Verdict). sent_by (Some (Exited steps (IsSent sent))) ≡ sent_by_verdict captured v frame.bytes) (sym told.0)
      (λ i. record { seconds = told.1.seconds i; micros = told.1.micros i; bytes = told.1.bytes_are i } ∷ [])

  any_sends : (stand : RunStand) → sent_where captured (stand_of_any stand) ≡ sent_where captured stand
  any_sends (HasExited verdict last) = refl
  any_sends (Waits state) = refl
  any_sends (HasTrapped cause) = refl
  any_sends GoesOn = refl

  pub sends_as_opened : ((number : ℕ) → number < count → AllByRecursion (IsReadAtOpening (plan number)) (own_at after number)) →
      sent_by (Some end) ≡ sent_where captured (stand_with (total_slots code) program (opening_answer program) (start_of captured 0))
  sends_as_opened all =
      let alike : trace_of_any (trace_at worker) ≡ trace_of_any (trace_at 0) =
      reading.same options.shards (total_slots code) captured.bytes.items worker 0 (time_of captured) (replies_in exchanges) input early is.time fit in
      let makes : (trace_at 0).calls ≡ calls_in exchanges = sym (ap (λ (trace : RunTrace). trace.calls) alike) ∙ calls_are in
      let ends = ends_alike program (opening_answer program) (total_slots code) (start_of captured 0) exchanges makes
      (answers exchanges exit.run.sessions.within all_read (in_exchanges all)) in
      let stands : (trace_at worker).stand ≡ HasExited exit.verdict exit.run.last = ap (λ (trace : RunTrace). trace.stand) exit.run.trace in
      let frames : exit.frame.bytes ≡ exit.run.last.frame.bytes = ap (λ (frame : FrameView). frame.bytes) exit.run.sent in
      told_as end exit.verdict exit.frame exit.told
      ∙ ap (sent_by_verdict captured exit.verdict) frames
      ∙ sym (ap (sent_where captured) stands)
      ∙ sym (any_sends (trace_at worker).stand)
      ∙ ap (λ (trace : RunTrace). sent_where captured trace.stand) alike
      ∙ any_sends (trace_at 0).stand
      ∙ ap (sent_where captured) (sym ends)
