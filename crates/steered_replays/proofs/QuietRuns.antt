-- Runs change nothing in the shards of services, of the lookup table, of backends and of the tunnel: there a worker only finds and reads,
-- also in a run that a full journal stopped.
use Rattle.std.proofs.Common.{◌≡◌, ◌⊎◌, inl, inr, ℕ, ◌+◌, ◌*◌, ◌%◌, ◌<◌, ◌≤◌, ◌==◌, Bool, true, false, List, [], ◌∷◌, ◌++◌, refl, sym, ◌∙◌, ap, subst, arith, append-nil}
use Rattle.std.specs.Prelude.{reverse, map, replicate, if◌then◌else◌, Option, Some, None}
use Rattle.std.specs.List.{AllByRecursion, filter}
use Rattle.std.proofs.Math.Nat.{mod-lt}
use Rattle.std.proofs.lemmas.Bool.Decides.{nat_tests}
use Rattle.wire.specs.Fnv.{fnv1a64_of}
use Rattle.wire.specs.FlowForm.{flow_bytes_of}
use Rattle.wire.specs.FrameView.{FrameView}
use Rattle.wire.specs.declared.records.Sent.{Sent}
use Rattle.semantics.specs.declared.call.Call.{Call}
use Rattle.semantics.specs.declared.call.Call.TheVariants.{Enter, Leave, Lookup, Load, Store, Atomic, Update, Delete, Reclaim}
use Rattle.semantics.specs.declared.call.CellRef.{CellRef}
use Rattle.semantics.specs.declared.call.Entry.{Entry}
use Rattle.semantics.specs.declared.call.Reply.{Reply}
use Rattle.semantics.specs.declared.call.Reply.TheVariants.{Cell}
use Rattle.semantics.specs.declared.plan.ShardPlan.{ShardPlan}
use Rattle.semantics.specs.declared.verdict.Verdict.{Verdict}
use Rattle.semantics.specs.Cells.{word_in}
use Rattle.semantics.specs.Semantics.{verdict_number}
use Rattle.semantics.specs.History.{IsLegalHistory, shard_of_call, meets_part}
use Rattle.semantics.specs.LittleEndian.{bytes_of_number}
use Rattle.semantics.specs.SequentialShard.{SequentialShard, shard_after, reply_of, lookup_reply, cell_of_key}
use Rattle.semantics.specs.System.{input_frame}
use Rattle.semantics.proofs.shared.CallNumbers.{same_number}
use Rattle.semantics.proofs.shared.ConditionLemmas.{first_true}
use Rattle.map_port.specs.Exchanges.{Exchange, calls_in, replies_in}
use Rattle.block_runs.specs.Plan.{Plan, Asks, Ends, RunOutcome, plan_outcome, either}
use Rattle.conntrack.specs.declared.choosing.Assigned.{Assigned}
use Rattle.conntrack.specs.declared.choosing.Choice.{Choice}
use Rattle.conntrack.specs.declared.choosing.Records.{Records}
use Rattle.conntrack.specs.declared.records.TunnelRecord.{TunnelRecord}
use Rattle.conntrack.specs.declared.records.VipRecord.{VipRecord}
use Rattle.conntrack.specs.declared.steering_maps.SteeringMap.{SteeringMap}
use Rattle.conntrack.specs.declared.steering_maps.SteeringMap.TheVariants.{Vips, Flows, Ring, Backends, Ctl, Stats}
use Rattle.conntrack.specs.Layouts.{vip_of, flow_record_of, backend_of, tunnel_of, owner_of}
use Rattle.conntrack.specs.Steering as steering
use Rattle.conntrack.specs.Steering.{SteeringSizes, has_flow, service_bytes_of, count_call, choice_in, no_records, found_or, look, read, record_of, counted_end, noting, ending, finish, read_backend, read_owner, read_slot, unless_tracked, read_note, read_tunnel, pass_guard, read_service}
use Rattle.conntrack.specs.SteeringRule.{flow_update, verdict_of_choice, frame_after, fits_tunnel, tracked_choice}
use Rattle.shards.specs.Passes.{PassView, own_at}
use Rattle.shard_port.specs.Asking.{enter_by, leave_by}
use Rattle.shard_port.specs.PassSessions.{AreCallsWithin, IsVisitedAt, session_at}
use Rattle.shard_port.specs.Sessions.{exchange_entry, is_asked_of, exchange_entries}
use Rattle.actors.specs.declared.runner.Ran.{Ran}
use Rattle.actors.specs.declared.runner.RunEnd.{RunEnd}
use Rattle.actors.specs.declared.runner.RunEnd.TheVariants.{Stopped, Exited}
use Rattle.actors.specs.RunsInOrder.{IsRunAt, IsChainOfRuns}
use Rattle.steered_replays.specs.Counting.{IsQuiet}
use Rattle.steered_replays.proofs.RuledRuns.{IsRuled, IsRuledExit, IsRuledStop}
use Rattle.actors.proofs.shared.EveryEntry.{all_both, all_parts, all_reverse, all_reversed, all_session, in_session, each_exchange}

-- ---- what a plan asks

-- a reply with a cell names one of the call's shard
abbrev pub NamesOwn : Call → Reply → Type 0
NamesOwn call reply = (cell : CellRef) → reply ≡ Cell cell → cell.shard ≡ shard_of_call call

-- on replies that do, the plan makes such calls alone
abbrev OnlyAsks : (Call → Type 0) → Plan → Type 0
OnlyAsks Q (Ends verdict frame) = Unit {0}
OnlyAsks Q (Asks call onward) = Q call × ((reply : Reply) → NamesOwn call reply → OnlyAsks Q (onward reply))

abbrev NamesOwnIn : Exchange → Type 0
NamesOwnIn exchange = NamesOwn exchange.call exchange.reply

asked_by : (Q : Call → Type 0) (plan : Plan) (exchanges : List Exchange) (rest : List Call) → OnlyAsks Q plan → AllByRecursion NamesOwnIn exchanges →
    (plan_outcome plan (replies_in exchanges)).calls ≡ calls_in exchanges ++ rest → AllByRecursion (λ (exchange : Exchange). Q exchange.call) exchanges
asked_by Q plan [] rest only own is = tt
asked_by Q (Ends verdict frame) (exchange ∷ later) rest only own is = absurd cc
asked_by Q (Asks call onward) (exchange ∷ later) rest only own is =
    let first : call ≡ exchange.call = cc is in
    let others : (plan_outcome (onward exchange.reply) (replies_in later)).calls ≡ calls_in later ++ rest = cc is in
    let named : NamesOwn call exchange.reply = subst (λ (c : Call). NamesOwn c exchange.reply) (sym first) own.0 in
    (subst Q first only.0, asked_by Q (onward exchange.reply) later rest (only.1 exchange.reply named) own.1 others)

-- ---- what the rule's plan asks

-- shards in which runs change something: those of flows and of counts
abbrev pub IsChanged : SteeringSizes → ℕ → Type 0
IsChanged sizes number = ((sizes.shards ≤ number) × (number < 2 * sizes.shards)) ⊎ (5 * sizes.shards ≤ number)

abbrev IsServed : SteeringSizes → Call → Type 0
IsServed sizes call = IsQuiet call ⊎ IsChanged sizes (shard_of_call call)

module _ (sizes : SteeringSizes) (some : 0 < sizes.shards) where
  abbrev Asked : Plan → Type 0
  Asked plan = OnlyAsks (IsServed sizes) plan

  either_asked : (test : Bool) (one other : Plan) → Asked one → Asked other → Asked (either test one other)
  either_asked true one other first second = first
  either_asked false one other first second = second

  found_asked : (call : Call) (found : CellRef → Plan) (absent : Plan) → ((cell : CellRef) → cell.shard ≡ shard_of_call call → Asked (found cell)) → Asked absent →
      (reply : Reply) → NamesOwn call reply → Asked (found_or found absent reply)
  found_asked call found absent one other (Cell cell) named = one cell (named cell refl)
  found_asked call found absent one other _ named = other

  look_asked : (map : SteeringMap) (key : List ℕ) (found : CellRef → Plan) (absent : Plan) →
      ((cell : CellRef) → cell.shard ≡ steering.steering_shard sizes map key → Asked (found cell)) → Asked absent → Asked (look sizes map key found absent)
  look_asked map key found absent one other = (inl tt, found_asked (Lookup (steering.steering_shard sizes map key) key) found absent one other)

  read_asked : (cell : CellRef) (offset size : ℕ) (on : ℕ → Plan) → ((word : ℕ) → Asked (on word)) → Asked (read cell offset size on)
  read_asked cell offset size on each = (inl tt, λ reply named. each (word_in reply))

  record_asked : (map : SteeringMap) (key : List ℕ) (known : ℕ → Plan) (absent : Plan) → ((word : ℕ) → Asked (known word)) → Asked absent →
      Asked (record_of sizes map key known absent)
  record_asked map key known absent each other =
      look_asked map key (λ cell. read cell 0 8 known) absent (λ cell same. read_asked cell 0 8 known each) other

  counted_asked : (verdict : Verdict) (frame : FrameView) → Asked (counted_end sizes verdict frame)
  counted_asked verdict frame =
      look_asked Stats (bytes_of_number 4 (verdict_number verdict)) (λ cell. Asks (count_call cell) (λ reply. Ends verdict frame)) (Ends verdict frame)
      (λ cell same. (inr (inr (omega (arith, same))), λ reply named. tt)) tt

  noting_asked : (note : Option (List ℕ × List ℕ)) (onward : Plan) → Asked onward → Asked (noting sizes note onward)
  noting_asked None onward all = all
  noting_asked (Some note) onward all =
      let part : fnv1a64_of note.0 % sizes.shards < sizes.shards = mod-lt (fnv1a64_of note.0) some in
      (inr (inl (omega (arith, part), omega (arith, part))), λ reply named. all)

  ending_asked : (frame : FrameView) (tunnel : Option TunnelRecord) (choice : Choice) → Asked (ending sizes frame tunnel choice)
  ending_asked frame tunnel choice =
      noting_asked (flow_update frame.bytes choice) (counted_end sizes (verdict_of_choice choice) (frame_after tunnel choice frame))
      (counted_asked (verdict_of_choice choice) (frame_after tunnel choice frame))

  finish_asked : (frame : FrameView) (records : Records) → Asked (finish sizes frame records)
  finish_asked frame records = ending_asked frame records.tunnel (choice_in frame.bytes records)

  backend_asked : (number : ℕ) (on : Assigned → Plan) → ((assigned : Assigned) → Asked (on assigned)) → Asked (read_backend sizes number on)
  backend_asked number on each =
      record_asked Backends (bytes_of_number 4 number)
      (λ word. on (record { number = number; «record» = Some (backend_of (bytes_of_number 8 word)) }))
      (on (record { number = number; «record» = None }))
      (λ word. each (record { number = number; «record» = Some (backend_of (bytes_of_number 8 word)) }))
      (each (record { number = number; «record» = None }))

  owner_asked : (frame : FrameView) (records : Records) (owner : Option ℕ) → Asked (read_owner sizes frame records owner)
  owner_asked frame records None = finish_asked frame records
  owner_asked frame records (Some number) =
      backend_asked number (λ assigned. finish sizes frame (record records { slot = Some assigned }))
      (λ assigned. finish_asked frame (record records { slot = Some assigned }))

  slot_asked : (frame : FrameView) (records : Records) → Asked (read_slot sizes frame records)
  slot_asked frame records =
      look_asked Ring (bytes_of_number 4 (fnv1a64_of (flow_bytes_of frame.bytes) % sizes.size))
      (λ cell. read cell 0 4 (λ word. read_owner sizes frame records (owner_of word))) (finish sizes frame records)
      (λ cell same. read_asked cell 0 4 (λ word. read_owner sizes frame records (owner_of word)) (λ word. owner_asked frame records (owner_of word)))
      (finish_asked frame records)

  unless_asked : (frame : FrameView) (records : Records) (choice : Option Choice) → Asked (unless_tracked sizes frame records choice)
  unless_asked frame records (Some choice) = finish_asked frame records
  unless_asked frame records None = slot_asked frame records

  abbrev noted : FrameView → VipRecord → Records → ℕ → Plan
  noted frame vip records word =
      read_backend sizes (flow_record_of (bytes_of_number 8 word)).backend (λ assigned.
      unless_tracked sizes frame (record records { tracked = Some assigned }) (tracked_choice vip (record records { tracked = Some assigned })))

  noted_asked : (frame : FrameView) (vip : VipRecord) (records : Records) (word : ℕ) → Asked (noted frame vip records word)
  noted_asked frame vip records word =
      backend_asked (flow_record_of (bytes_of_number 8 word)).backend
      (λ assigned. unless_tracked sizes frame (record records { tracked = Some assigned }) (tracked_choice vip (record records { tracked = Some assigned })))
      (λ assigned. unless_asked frame (record records { tracked = Some assigned }) (tracked_choice vip (record records { tracked = Some assigned })))

  note_asked : (frame : FrameView) (vip : VipRecord) (records : Records) → Asked (read_note sizes frame vip records)
  note_asked frame vip records =
      either_asked vip.is_notrack (read_slot sizes frame records)
      (record_of sizes Flows (flow_bytes_of frame.bytes) (noted frame vip records) (read_slot sizes frame records))
      (slot_asked frame records)
      (record_asked Flows (flow_bytes_of frame.bytes) (noted frame vip records) (read_slot sizes frame records) (noted_asked frame vip records) (slot_asked frame records))

  -- the tunnel's record
  abbrev tunnel_by : ℕ → ℕ → ℕ → TunnelRecord
  tunnel_by state source macs = tunnel_of (bytes_of_number 8 source ++ (bytes_of_number 8 macs ++ bytes_of_number 8 state))

  abbrev with_tunnel : FrameView → VipRecord → Records → CellRef → ℕ → Plan
  with_tunnel frame vip records cell state =
      read cell 0 8 (λ source. read cell 8 8 (λ macs. read_note sizes frame vip (record records { tunnel = Some (tunnel_by state source macs) })))

  abbrev by_state : FrameView → VipRecord → Records → CellRef → ℕ → Plan
  by_state frame vip records cell state =
      either (tunnel_of (replicate 16 0 ++ bytes_of_number 8 state)).is_ready (with_tunnel frame vip records cell state)
      (finish sizes frame (record records { tunnel = Some (tunnel_of (replicate 16 0 ++ bytes_of_number 8 state)) }))

  with_tunnel_asked : (frame : FrameView) (vip : VipRecord) (records : Records) (cell : CellRef) (state : ℕ) → Asked (with_tunnel frame vip records cell state)
  with_tunnel_asked frame vip records cell state =
      read_asked cell 0 8 (λ source. read cell 8 8 (λ macs. read_note sizes frame vip (record records { tunnel = Some (tunnel_by state source macs) })))
      (λ source. read_asked cell 8 8 (λ macs. read_note sizes frame vip (record records { tunnel = Some (tunnel_by state source macs) }))
      (λ macs. note_asked frame vip (record records { tunnel = Some (tunnel_by state source macs) })))

  state_asked : (frame : FrameView) (vip : VipRecord) (records : Records) (cell : CellRef) (state : ℕ) → Asked (by_state frame vip records cell state)
  state_asked frame vip records cell state =
      either_asked (tunnel_of (replicate 16 0 ++ bytes_of_number 8 state)).is_ready (with_tunnel frame vip records cell state)
      (finish sizes frame (record records { tunnel = Some (tunnel_of (replicate 16 0 ++ bytes_of_number 8 state)) }))
      (with_tunnel_asked frame vip records cell state)
      (finish_asked frame (record records { tunnel = Some (tunnel_of (replicate 16 0 ++ bytes_of_number 8 state)) }))

  tunnel_asked : (frame : FrameView) (vip : VipRecord) (records : Records) → Asked (read_tunnel sizes frame vip records)
  tunnel_asked frame vip records =
      look_asked Ctl (bytes_of_number 4 0) (λ cell. read cell 16 8 (by_state frame vip records cell)) (finish sizes frame records)
      (λ cell same. read_asked cell 16 8 (by_state frame vip records cell) (state_asked frame vip records cell)) (finish_asked frame records)

  guard_asked : (frame : FrameView) (vip : VipRecord) → Asked (pass_guard sizes frame vip)
  guard_asked frame vip =
      either_asked (fits_tunnel frame.bytes) (read_tunnel sizes frame vip (record no_records { vip = Some vip })) (finish sizes frame (record no_records { vip = Some vip }))
      (tunnel_asked frame vip (record no_records { vip = Some vip })) (finish_asked frame (record no_records { vip = Some vip }))

  service_asked : (frame : FrameView) → Asked (read_service sizes frame)
  service_asked frame =
      record_asked Vips (service_bytes_of frame.bytes) (λ word. pass_guard sizes frame (vip_of (bytes_of_number 8 word))) (finish sizes frame no_records)
      (λ word. guard_asked frame (vip_of (bytes_of_number 8 word))) (finish_asked frame no_records)

  rule_asked : (frame : FrameView) → Asked (steering.steering sizes frame)
  rule_asked frame =
      either_asked (has_flow frame.bytes) (read_service sizes frame) (finish sizes frame no_records) (service_asked frame) (finish_asked frame no_records)

-- ---- what a run writes

abbrev AllQuiet : List Entry → Type 0
AllQuiet entries = AllByRecursion (λ (entry : Entry). IsQuiet entry.call) entries

-- the cells in an entry's reply are of its shard
abbrev pub NamesOwnAt : Entry → Type 0
NamesOwnAt entry = NamesOwn entry.call entry.reply

-- among the worker's own entries in a shard there is a session more, or an Enter and a Leave alone
record HasWritten (count worker : ℕ) (exchanges : List Exchange) (before after : PassView) : Type 0 where
  within : AreCallsWithin count exchanges
  written : (number : ℕ) → number < count →
      (own_at after number ≡ reverse (session_at worker number exchanges) ++ own_at before number)
      ⊎ ((exchange_entries worker number exchanges ≡ []) × (own_at after number ≡ leave_by worker number ∷ enter_by worker number ∷ own_at before number))

-- a run that is quiet outside the shards of flows and of counts
record IsQuietRun (sizes : SteeringSizes) (count worker : ℕ) (before after : PassView) : Type 0 where
  exchanges : List Exchange
  written : HasWritten count worker exchanges before after
  served : AllByRecursion NamesOwnIn exchanges → AllByRecursion (λ (exchange : Exchange). IsServed sizes exchange.call) exchanges

exit_quiet : (sizes : SteeringSizes) → 0 < sizes.shards → (count worker : ℕ) (captured : Sent) (before : PassView) (end : RunEnd) (after : PassView) →
    IsRuledExit sizes count worker captured before end after → IsQuietRun sizes count worker before after
exit_quiet sizes some count worker captured before end after exit = record {
  exchanges = exit.exchanges;
  written = record { within = exit.sessions.within; written = λ number within. inl (exit.sessions.written number within) };
  served = λ named. asked_by (IsServed sizes) (steering.steering sizes (input_frame captured.bytes.items)) exit.exchanges [] (rule_asked sizes some (input_frame captured.bytes.items)) named
      (ap (λ (outcome : RunOutcome). outcome.calls) exit.by_rule.plan ∙ sym (append-nil (calls_in exit.exchanges)));
}

stop_quiet : (plan : ℕ → ShardPlan) (sizes : SteeringSizes) → 0 < sizes.shards → (count worker : ℕ) (captured : Sent) (before after : PassView) →
    IsRuledStop plan sizes count worker captured before after → IsQuietRun sizes count worker before after
stop_quiet plan sizes some count worker captured before after stop = record {
  exchanges = stop.exchanges;
  written = record { within = stop.sessions.within; written = λ number within. by number (stop.sessions.written number within) };
  served = λ named. asked_by (IsServed sizes) (steering.steering sizes (input_frame captured.bytes.items)) stop.exchanges (stop.refused ∷ [])
      (rule_asked sizes some (input_frame captured.bytes.items)) named
      (ap (λ (outcome : RunOutcome). outcome.calls) stop.by_rule);
}
  where
    by : (number : ℕ) → (own_at after number ≡ reverse (session_at worker number stop.exchanges) ++ own_at before number)
        ⊎ IsVisitedAt worker stop.exchanges stop.refused number (own_at before number) (own_at after number) →
        (own_at after number ≡ reverse (session_at worker number stop.exchanges) ++ own_at before number)
        ⊎ ((exchange_entries worker number stop.exchanges ≡ []) × (own_at after number ≡ leave_by worker number ∷ enter_by worker number ∷ own_at before number))
    by number (inl written) = inl written
    by number (inr visited) = inr (visited.first_call, visited.written)

run_quiet : (plan : ℕ → ShardPlan) (sizes : SteeringSizes) → 0 < sizes.shards → (count worker : ℕ) (captured : Sent) (before : PassView) (end : RunEnd) (after : PassView) →
    IsRuled plan count sizes worker captured before end after → IsQuietRun sizes count worker before after
run_quiet plan sizes some count worker captured before Stopped after run = stop_quiet plan sizes some count worker captured before after run
run_quiet plan sizes some count worker captured before (Exited steps fate) after run = exit_quiet sizes some count worker captured before (Exited steps fate) after run

-- ---- own entries

module _ (P : Entry → Type 0) (count worker : ℕ) (exchanges : List Exchange) (before after : PassView) (wrote : HasWritten count worker exchanges before after)
    (number : ℕ) (within : number < count) where
  -- what holds of them after the run holds of those before it, and of those of the run
  run_parts : AllByRecursion P (own_at after number) → AllByRecursion P (exchange_entries worker number exchanges) × AllByRecursion P (own_at before number)
  run_parts all = by (wrote.written number within)
    where
      by : (own_at after number ≡ reverse (session_at worker number exchanges) ++ own_at before number)
          ⊎ ((exchange_entries worker number exchanges ≡ []) × (own_at after number ≡ leave_by worker number ∷ enter_by worker number ∷ own_at before number)) →
          AllByRecursion P (exchange_entries worker number exchanges) × AllByRecursion P (own_at before number)
      by (inl is) =
          let parts = all_parts P (reverse (session_at worker number exchanges)) (own_at before number) (subst (λ (own : List Entry). AllByRecursion P own) is all) in
          (in_session P worker number (exchange_entries worker number exchanges) (all_reversed P (session_at worker number exchanges) parts.0), parts.1)
      by (inr visited) = (
        subst (λ (own : List Entry). AllByRecursion P own) (sym visited.0) tt,
        (subst (λ (own : List Entry). AllByRecursion P own) visited.1 all).1.1,
      )

  run_whole : P (enter_by worker number) → P (leave_by worker number) → AllByRecursion P (exchange_entries worker number exchanges) →
      AllByRecursion P (own_at before number) → AllByRecursion P (own_at after number)
  run_whole enters leaves all earlier = by (wrote.written number within)
    where
      by : (own_at after number ≡ reverse (session_at worker number exchanges) ++ own_at before number)
          ⊎ ((exchange_entries worker number exchanges ≡ []) × (own_at after number ≡ leave_by worker number ∷ enter_by worker number ∷ own_at before number)) →
          AllByRecursion P (own_at after number)
      by (inl is) =
          subst (λ (own : List Entry). AllByRecursion P own) (sym is)
          (all_both P (reverse (session_at worker number exchanges)) (own_at before number)
          (all_reverse P (session_at worker number exchanges) (all_session P worker number (exchange_entries worker number exchanges) enters leaves all)) earlier)
      by (inr visited) = subst (λ (own : List Entry). AllByRecursion P own) (sym visited.1) (leaves, (enters, earlier))

if_at : (sizes : SteeringSizes) (worker number : ℕ) → (IsChanged sizes number → ⊥) → (exchange : Exchange) (rest : List Exchange) (test : Bool) →
    is_asked_of number exchange ≡ test → IsServed sizes exchange.call → AllQuiet (map (exchange_entry worker) rest) →
    AllQuiet (map (exchange_entry worker) (if test then exchange ∷ rest else rest))
if_at sizes worker number still exchange rest true is (inl quiet) all = (quiet, all)
if_at sizes worker number still exchange rest true is (inr changed) all =
    let same : shard_of_call exchange.call ≡ number = grind (arith, nat_tests) in absurd (still (subst (IsChanged sizes) same changed))
if_at sizes worker number still exchange rest false is here all = all

quiet_entries : (sizes : SteeringSizes) (worker number : ℕ) → (IsChanged sizes number → ⊥) → (exchanges : List Exchange) →
    AllByRecursion (λ (exchange : Exchange). IsServed sizes exchange.call) exchanges → AllQuiet (exchange_entries worker number exchanges)
quiet_entries sizes worker number still [] all = tt
quiet_entries sizes worker number still (exchange ∷ later) all =
    if_at sizes worker number still exchange (filter (is_asked_of number) later) (is_asked_of number exchange) refl all.0
    (quiet_entries sizes worker number still later all.1)

-- ---- a worker's runs

module _ (plan : ℕ → ShardPlan) (count : ℕ) (sizes : SteeringSizes) (some : 0 < sizes.shards) (worker : ℕ) (records : List Sent) where
  abbrev IsRun : PassView → Ran → PassView → Type 0
  IsRun before ran after = IsRunAt (IsRuled plan count sizes worker) records before ran after

  quiet_of : (before : PassView) (ran : Ran) (after : PassView) → IsRun before ran after → IsQuietRun sizes count worker before after
  quiet_of before ran after run = run_quiet plan sizes some count worker run.sent before ran.end after run.run

  chain_earlier : (P : Entry → Type 0) (before : PassView) (runs : List Ran) (after : PassView) → IsChainOfRuns IsRun before runs after →
      (number : ℕ) → number < count → AllByRecursion P (own_at after number) → AllByRecursion P (own_at before number)
  chain_earlier P before [] after chain number within all = subst (λ (pass : PassView). AllByRecursion P (own_at pass number)) (sym chain) all
  chain_earlier P before (ran ∷ later) after chain number within all =
      let run = quiet_of before ran chain.0 chain.1 in
      (run_parts P count worker run.exchanges before chain.0 run.written number within
      (chain_earlier P chain.0 later after chain.2 number within all)).1

  -- their entries in such a shard only find and read
  pub chain_quiet : (before : PassView) (runs : List Ran) (after : PassView) → IsChainOfRuns IsRun before runs after →
      ((number : ℕ) → number < count → AllByRecursion NamesOwnAt (own_at after number)) → (number : ℕ) → number < count → (IsChanged sizes number → ⊥) →
      AllQuiet (own_at before number) → AllQuiet (own_at after number)
  chain_quiet before [] after chain named number within still all = subst (λ (pass : PassView). AllQuiet (own_at pass number)) chain all
  chain_quiet before (ran ∷ later) after chain named number within still all =
      let run = quiet_of before ran chain.0 chain.1 in
      let here : (other : ℕ) → other < count → AllByRecursion NamesOwnAt (own_at chain.0 other) =
      (λ other inside. chain_earlier NamesOwnAt chain.0 later after chain.2 other inside (named other inside)) in
      let own : AllByRecursion NamesOwnIn run.exchanges =
      each_exchange (λ (shard : ℕ). NamesOwnAt) count worker run.exchanges run.written.within
      (λ other inside. (run_parts NamesOwnAt count worker run.exchanges before chain.0 run.written other inside (here other inside)).0) in
      chain_quiet chain.0 later after chain.2 named number within still
      (run_whole (λ (entry : Entry). IsQuiet entry.call) count worker run.exchanges before chain.0 run.written number within tt tt
      (quiet_entries sizes worker number still run.exchanges (run.served own)) all)

-- ---- legal histories

-- a reply with a cell is of the shard
cell_own : (plan : ShardPlan) (history : List Entry) (shard : SequentialShard) (call : Call) (cell : CellRef) → reply_of plan history shard call ≡ Cell cell →
    cell.shard ≡ plan.number
cell_own plan history shard (Lookup number key) cell is = by (cell_of_key plan shard key) is
  where
    by : (found : Option ℕ) → lookup_reply plan found ≡ Cell cell → cell.shard ≡ plan.number
    by (Some id) same = let whole : (record { shard = plan.number; id = id }) ≡ cell = cc same in ap (λ (c : CellRef). c.shard) (sym whole)
    by None same = absurd cc
cell_own plan history shard (Enter number) cell is = absurd cc
cell_own plan history shard (Leave number) cell is = absurd cc
cell_own plan history shard (Load ref offset size) cell is = absurd cc
cell_own plan history shard (Store ref offset size value) cell is = absurd cc
cell_own plan history shard (Atomic ref offset size op value expected) cell is = absurd cc
cell_own plan history shard (Update number key value flags) cell is = absurd cc
cell_own plan history shard (Delete number key) cell is = absurd cc
cell_own plan history shard (Reclaim number) cell is = absurd cc

pub all_name_own : (plan : ShardPlan) (history : List Entry) → IsLegalHistory plan history → AllByRecursion NamesOwnAt history
all_name_own plan [] legal = tt
all_name_own plan (entry ∷ older) legal = (
  λ cell is. cell_own plan older (shard_after plan older) entry.call cell (sym legal.0.step.replied ∙ is)
      ∙ sym (same_number (shard_of_call entry.call) plan.number (first_true (shard_of_call entry.call == plan.number) (meets_part plan older entry.who entry.call) legal.0.step.met)),
  all_name_own plan older legal.1,
)
