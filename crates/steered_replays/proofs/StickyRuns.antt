-- A run of a flow that is noted chooses the noted backend.
use Rattle.std.proofs.Common.{◌≡◌, ℕ, ◌/◌, ◌<◌, ◌^◌, Bool, true, false, List, [], ◌∷◌, ◌++◌, refl, sym, ap, subst, arith, ◌∙◌}
use Rattle.std.specs.Prelude.{Option, Some, None, drop, replicate}
use Rattle.std.proofs.lemmas.List.{append_assoc}
use Rattle.wire.specs.FrameView.{FrameView}
use Rattle.wire.specs.FlowForm.{flow_bytes_of}
use Rattle.semantics.specs.declared.call.Call.{Call}
use Rattle.semantics.specs.declared.call.Call.TheVariants.{Lookup, Load}
use Rattle.semantics.specs.declared.call.CellRef.{CellRef}
use Rattle.semantics.specs.declared.call.Entry.{Entry}
use Rattle.semantics.specs.declared.call.Reply.{Reply}
use Rattle.semantics.specs.declared.call.Reply.TheVariants.{Cell, Word}
use Rattle.semantics.specs.declared.plan.ShardPlan.{ShardPlan}
use Rattle.semantics.specs.declared.verdict.Verdict.{Verdict}
use Rattle.semantics.specs.declared.verdict.Verdict.TheVariants as V
use Rattle.semantics.specs.Cells.{word_in}
use Rattle.semantics.specs.History.{IsLegalHistory}
use Rattle.semantics.specs.LittleEndian.{number_of_bytes, bytes_of_number}
use Rattle.semantics.specs.SequentialShard.{shard_after, number_in_cell, reply_of}
use Rattle.map_port.specs.Exchanges.{Exchange, calls_in, replies_in}
use Rattle.block_runs.specs.Plan.{Plan, Asks, Ends, PlanEnding, Ended, Waiting, RunOutcome, either, plan_outcome, plan_after}
use Rattle.shard_port.specs.Sessions.{exchange_entry}
use Rattle.conntrack.specs.declared.choosing.Assigned.{Assigned}
use Rattle.conntrack.specs.declared.choosing.Choice.TheVariants.{Tx}
use Rattle.conntrack.specs.declared.choosing.Records.{Records}
use Rattle.conntrack.specs.declared.records.BackendRecord.{BackendRecord}
use Rattle.conntrack.specs.declared.records.TunnelRecord.{TunnelRecord}
use Rattle.conntrack.specs.declared.records.VipRecord.{VipRecord}
use Rattle.conntrack.specs.declared.steering_maps.SteeringMap.TheVariants.{Flows, Backends}
use Rattle.conntrack.specs.Layouts.{vip_of, flow_record_of, backend_of, tunnel_of}
use Rattle.conntrack.specs.Steering.{SteeringSizes, steering, ending, counted_end, count_call, found_or, steering_shard, has_flow, read_service}
use Rattle.conntrack.specs.Steering.{read_tunnel, read_note, read_slot, read_backend, unless_tracked, finish, no_records, record_of, read}
use Rattle.conntrack.specs.SteeringLaws.{FlowsStick, FindsNote}
use Rattle.conntrack.specs.SteeringRule.{fits_tunnel, tracked_choice, frame_after}
use Rattle.conntrack.proofs.shared.RuleLemmas.{passes_test}
use Rattle.steered_replays.specs.SteeredRuns.{EndsByRule}
use Rattle.steered_replays.specs.StickyFlows.{LeavesNote, AllLeaveNote, noting_entry, IsBackendNoted, RunOfNoted, ChoosesNoted, NotedFlowsStick}
use Rattle.steered_replays.proofs.CountLemmas.{lookups_find}
use Rattle.steered_replays.proofs.NoteLemmas.{legal_before, notes_are_found}

-- ---- outcomes

abbrev pub done : List Call → PlanEnding → RunOutcome
done calls at_end = record { calls = calls; ending = at_end }

rest_of : (call first : Call) (calls : List Call) (outcome : RunOutcome) (at_end : PlanEnding) →
    done (call ∷ outcome.calls) outcome.ending ≡ done (first ∷ calls) at_end →
    outcome ≡ done calls at_end
rest_of call first calls outcome at_end is = ap (λ (o : RunOutcome). record { calls = drop 1 o.calls; ending = o.ending }) is

-- after its first exchanges a plan goes on with what is left of it
pub goes_on : (plan : Plan) (asked later : List Exchange) (at_end : PlanEnding) →
    plan_outcome plan (replies_in (asked ++ later)) ≡ done (calls_in (asked ++ later)) at_end →
    plan_outcome (plan_after plan (replies_in asked)) (replies_in later) ≡ done (calls_in later) at_end
goes_on plan [] later at_end is = is
goes_on (Ends verdict frame) (one ∷ asked) later at_end is =
    (let calls : [] ≡ one.call ∷ calls_in (asked ++ later) = ap (λ (o : RunOutcome). o.calls) is in absurd cc calls)
goes_on (Asks call onward) (one ∷ asked) later at_end is =
    goes_on (onward one.reply) asked later at_end
    (rest_of call one.call (calls_in (asked ++ later)) (plan_outcome (onward one.reply) (replies_in (asked ++ later))) at_end is)

-- the exchange is of the plan's call
pub first_call : (call : Call) (onward : Reply → Plan) (one : Exchange) (later : List Exchange) (at_end : PlanEnding) →
    plan_outcome (Asks call onward) (replies_in (one ∷ later)) ≡ done (calls_in (one ∷ later)) at_end → one.call ≡ call
first_call call onward one later at_end is =
    let calls : call ∷ (plan_outcome (onward one.reply) (replies_in later)).calls ≡ one.call ∷ calls_in later = ap (λ (o : RunOutcome). o.calls) is in
    cc calls

replies_joined : (xs ys : List Exchange) → replies_in (xs ++ ys) ≡ replies_in xs ++ replies_in ys
replies_joined [] ys = refl
replies_joined (x ∷ xs) ys = ap (λ rest. x.reply ∷ rest) (replies_joined xs ys)

-- a counted verdict ends with it
pub counted_ends : (sizes : SteeringSizes) (counted : Verdict) (sent left : FrameView) (verdict : Verdict) (last : List Exchange) →
    plan_outcome (counted_end sizes counted sent) (replies_in last) ≡ done (calls_in last) (Ended verdict left) →
    (verdict ≡ counted) × (left ≡ sent)
counted_ends sizes counted sent left verdict [] is = (let ends : Waiting ≡ Ended verdict left = ap (λ (o : RunOutcome). o.ending) is in absurd cc ends)
counted_ends sizes counted sent left verdict (one ∷ rest) is = by one.reply (replies_in rest) (ap (λ (o : RunOutcome). o.ending) is)
  where
    ended : Ended counted sent ≡ Ended verdict left → (verdict ≡ counted) × (left ≡ sent)
    ended is = (cc is, cc is)

    by : (reply : Reply) (replies : List Reply) →
        (plan_outcome (found_or (λ cell. Asks (count_call cell) (λ reply. Ends counted sent)) (Ends counted sent) reply) replies).ending ≡ Ended verdict left →
        (verdict ≡ counted) × (left ≡ sent)
    by (Cell cell) [] is = absurd cc is
    by (Cell cell) (reply ∷ replies) is = ended is
    by _ replies is = ended is

-- ---- a test that is known

pub on_left : (test : Bool) (one other : Plan) (replies : List Reply) → test ≡ true → plan_after (either test one other) replies ≡ plan_after one replies
on_left test one other replies is = ap (λ t. plan_after (either t one other) replies) is

pub on_right : (test : Bool) (one other : Plan) (replies : List Reply) → test ≡ false → plan_after (either test one other) replies ≡ plan_after other replies
on_right test one other replies is = ap (λ t. plan_after (either t one other) replies) is

abbrev pub records_of : VipRecord → TunnelRecord → Option Assigned → Records
records_of vip tunnel tracked = record { vip = Some vip; tunnel = Some tunnel; tracked = tracked; slot = None }

abbrev pub on_state : SteeringSizes → FrameView → VipRecord → CellRef → ℕ → Plan
on_state sizes frame vip cell state =
    read cell 0 8 (λ source. read cell 8 8 (λ macs.
    read_note sizes frame vip (records_of vip (tunnel_of (bytes_of_number 8 source ++ (bytes_of_number 8 macs ++ bytes_of_number 8 state))) None)))

abbrev pub on_assigned : SteeringSizes → FrameView → VipRecord → TunnelRecord → Assigned → Plan
on_assigned sizes frame vip tunnel assigned =
    unless_tracked sizes frame (records_of vip tunnel (Some assigned)) (tracked_choice vip (records_of vip tunnel (Some assigned)))

abbrev pub on_backend : SteeringSizes → FrameView → VipRecord → TunnelRecord → ℕ → ℕ → Plan
on_backend sizes frame vip tunnel number word =
    on_assigned sizes frame vip tunnel (record { number = number; «record» = Some (backend_of (bytes_of_number 8 word)) })

abbrev pub on_word : SteeringSizes → FrameView → VipRecord → TunnelRecord → ℕ → Plan
on_word sizes frame vip tunnel word = read_backend sizes (flow_record_of (bytes_of_number 8 word)).backend (on_assigned sizes frame vip tunnel)

abbrev pub on_note : SteeringSizes → FrameView → VipRecord → TunnelRecord → Plan
on_note sizes frame vip tunnel =
    record_of sizes Flows (flow_bytes_of frame.bytes) (on_word sizes frame vip tunnel) (read_slot sizes frame (records_of vip tunnel None))

-- ---- the note stays from the Lookup to the Load

all_joined : (plan : ShardPlan) (key : List ℕ) (cell : ℕ) (newer older history : List Entry) → AllLeaveNote plan key cell newer (older ++ history) →
    AllLeaveNote plan key cell older history → AllLeaveNote plan key cell (newer ++ older) history
all_joined plan key cell [] older history first second = second
all_joined plan key cell (entry ∷ newer) older history first second = (
  subst (λ (h : List Entry). LeavesNote plan key cell h entry.call) (sym (append_assoc newer older history)) first.0,
  all_joined plan key cell newer older history first.1 second,
)

lookup_leaves : (plan : ShardPlan) (key asked : List ℕ) (cell shard : ℕ) (history : List Entry) (call : Call) → call ≡ Lookup shard asked →
    LeavesNote plan key cell history call
lookup_leaves plan key asked cell shard history call is = subst (LeavesNote plan key cell history) (sym is)
    (record { other_key = refl; other_cell = refl; no_eviction = λ evicts. (let same = evicts.call_is in cc same) })

-- after entries that leave it, a note is as before
noted_on : (plan : ShardPlan) (key : List ℕ) (number cell : ℕ) (newer history : List Entry) → IsBackendNoted plan key number cell history →
    AllLeaveNote plan key cell newer history → IsBackendNoted plan key number cell (newer ++ history)
noted_on plan key number cell newer history noted all =
    let put = noting_entry noted.who noted.shard key number noted.flags in
    record {
      who = noted.who;
      shard = noted.shard;
      flags = noted.flags;
      since = newer ++ noted.since;
      before = noted.before;
      history_is = ap (λ (h : List Entry). newer ++ h) noted.history_is ∙ sym (append_assoc newer noted.since (put ∷ noted.before));
      fits = noted.fits;
      put_in = noted.put_in;
      untouched = all_joined plan key cell newer noted.since (put ∷ noted.before) (subst (AllLeaveNote plan key cell newer) noted.history_is all) noted.untouched;
    }

number_back : (n : ℕ) → n < 2 ^ 32 → (flow_record_of (bytes_of_number 8 n)).backend ≡ n
number_back n small = omega arith

index_back : (n : ℕ) → n < 2 ^ 32 → number_of_bytes (bytes_of_number 4 n) ≡ n
index_back n small = omega arith

-- ---- the run

module _ (sticks : FlowsStick) (sizes : SteeringSizes) (frame : FrameView) (tunnel : TunnelRecord) (number : ℕ) (backend : BackendRecord) (worker : ℕ)
    (exchanges : List Exchange) (verdict : Verdict) (left : FrameView) (ends : EndsByRule sizes frame exchanges verdict left)
    (run : RunOfNoted frame tunnel number backend worker exchanges) where
  abbrev vip : VipRecord
  vip = vip_of (bytes_of_number 8 run.past.flags)

  abbrev key : List ℕ
  key = flow_bytes_of frame.bytes

  abbrev ready : TunnelRecord
  ready = tunnel_of (bytes_of_number 8 run.past.source ++ (bytes_of_number 8 run.past.macs ++ bytes_of_number 8 run.past.state))

  abbrev last : List Exchange
  last = run.last

  abbrev past_load : List Exchange
  past_load = run.backend_lookup ∷ run.backend_load ∷ run.last

  abbrev past_lookup : List Exchange
  past_lookup = run.flow_load ∷ past_load

  past_guards : plan_after (steering sizes frame) (replies_in run.guards) ≡ on_note sizes frame vip ready
  past_guards =
      let past = run.past in
      let ready_set : ready.is_ready ≡ true = ap (λ (t : TunnelRecord). t.is_ready) (sym past.tunnel_is) ∙ past.is_ready in
      let bare : TunnelRecord = tunnel_of (replicate 16 0 ++ bytes_of_number 8 past.state) in
      let past_state : List Reply = Word past.source ∷ Word past.macs ∷ [] in
      let past_flags : List Reply = Cell past.tunnel_cell ∷ Word past.state ∷ past_state in
      ap (plan_after (steering sizes frame)) past.replies_are
      ∙ on_left (has_flow frame.bytes) (read_service sizes frame) (finish sizes frame no_records) (Cell past.service_cell ∷ Word past.flags ∷ past_flags) (passes_test frame.bytes past.has_flow)
      ∙ on_left (fits_tunnel frame.bytes) (read_tunnel sizes frame vip (record no_records { vip = Some vip })) (finish sizes frame (record no_records { vip = Some vip })) past_flags past.fits
      ∙ on_left bare.is_ready (on_state sizes frame vip past.tunnel_cell past.state) (finish sizes frame (records_of vip bare None)) past_state ready_set
      ∙ on_right vip.is_notrack (read_slot sizes frame (records_of vip ready None)) (on_note sizes frame vip ready) [] past.is_tracked

  -- the Lookup of the flow
  from_lookup : plan_outcome (on_note sizes frame vip ready) (replies_in (run.flow_lookup ∷ past_lookup))
      ≡ done (calls_in (run.flow_lookup ∷ past_lookup)) (Ended verdict left)
  from_lookup =
      subst (λ (p : Plan). plan_outcome p (replies_in (run.flow_lookup ∷ past_lookup)) ≡ done (calls_in (run.flow_lookup ∷ past_lookup)) (Ended verdict left)) past_guards
      (goes_on (steering sizes frame) run.guards (run.flow_lookup ∷ past_lookup) (Ended verdict left)
      (subst (λ (xs : List Exchange). plan_outcome (steering sizes frame) (replies_in xs) ≡ done (calls_in xs) (Ended verdict left)) run.exchanges_are ends.plan))

  lookup_call : run.flow_lookup.call ≡ Lookup (steering_shard sizes Flows key) key
  lookup_call = first_call (Lookup (steering_shard sizes Flows key) key) (found_or (λ cell. read cell 0 8 (on_word sizes frame vip ready)) (read_slot sizes frame (records_of vip ready None)))
      run.flow_lookup past_lookup (Ended verdict left) from_lookup

  abbrev noted_cell : CellRef
  noted_cell = record { shard = run.flows.number; id = run.noted.cell }

  abbrev at_load : List Entry
  at_load = run.noted.between ++ exchange_entry worker run.flow_lookup ∷ run.noted.earlier

  legal_load : IsLegalHistory run.flows (exchange_entry worker run.flow_load ∷ at_load)
  legal_load = legal_before run.flows run.noted.later (exchange_entry worker run.flow_load ∷ at_load) (subst (IsLegalHistory run.flows) run.noted.history_is run.noted.legal)

  legal_lookup : IsLegalHistory run.flows (exchange_entry worker run.flow_lookup ∷ run.noted.earlier)
  legal_lookup = legal_before run.flows run.noted.between (exchange_entry worker run.flow_lookup ∷ run.noted.earlier) legal_load.1

  lookup_reply_is : run.flow_lookup.reply ≡ Cell noted_cell
  lookup_reply_is =
      legal_lookup.0.step.replied ∙ ap (reply_of run.flows run.noted.earlier (shard_after run.flows run.noted.earlier)) lookup_call
      ∙ (notes_are_found run.flows run.noted.earlier key number run.noted.cell run.noted.kind_is legal_lookup.1 run.noted.noted).0 (steering_shard sizes Flows key)

  -- the Load of the note
  from_load : plan_outcome (read noted_cell 0 8 (on_word sizes frame vip ready)) (replies_in past_lookup) ≡ done (calls_in past_lookup) (Ended verdict left)
  from_load =
      subst (λ (reply : Reply). plan_outcome (plan_after (on_note sizes frame vip ready) (reply ∷ [])) (replies_in past_lookup) ≡ done (calls_in past_lookup) (Ended verdict left)) lookup_reply_is
      (goes_on (on_note sizes frame vip ready) (run.flow_lookup ∷ []) past_lookup (Ended verdict left) from_lookup)

  load_call : run.flow_load.call ≡ Load noted_cell 0 8
  load_call = first_call (Load noted_cell 0 8) (λ reply. on_word sizes frame vip ready (word_in reply)) run.flow_load past_load (Ended verdict left) from_load

  noted_at_load : IsBackendNoted run.flows key number run.noted.cell at_load
  noted_at_load =
      noted_on run.flows key number run.noted.cell run.noted.between (exchange_entry worker run.flow_lookup ∷ run.noted.earlier)
      (noted_on run.flows key number run.noted.cell (exchange_entry worker run.flow_lookup ∷ []) run.noted.earlier run.noted.noted
      (lookup_leaves run.flows key key run.noted.cell (steering_shard sizes Flows key) run.noted.earlier run.flow_lookup.call lookup_call, tt))
      run.noted.untouched

  load_reply_is : run.flow_load.reply ≡ Word number
  load_reply_is =
      legal_load.0.step.replied ∙ ap (reply_of run.flows at_load (shard_after run.flows at_load)) load_call
      ∙ ap Word (notes_are_found run.flows at_load key number run.noted.cell run.noted.kind_is legal_load.1 noted_at_load).1

  small : number < 2 ^ 32
  small = run.noted.noted.fits

  noted_number : (flow_record_of (bytes_of_number 8 number)).backend ≡ number
  noted_number = number_back number small

  -- the Lookup of the backend
  abbrev backend_key : List ℕ
  backend_key = bytes_of_number 4 (flow_record_of (bytes_of_number 8 number)).backend

  from_backend : plan_outcome (on_word sizes frame vip ready number) (replies_in past_load) ≡ done (calls_in past_load) (Ended verdict left)
  from_backend =
      subst (λ (reply : Reply). plan_outcome (plan_after (read noted_cell 0 8 (on_word sizes frame vip ready)) (reply ∷ [])) (replies_in past_load) ≡ done (calls_in past_load) (Ended verdict left)) load_reply_is
      (goes_on (read noted_cell 0 8 (on_word sizes frame vip ready)) (run.flow_load ∷ []) past_load (Ended verdict left) from_load)

  backend_call : run.backend_lookup.call ≡ Lookup (steering_shard sizes Backends backend_key) backend_key
  backend_call = first_call (Lookup (steering_shard sizes Backends backend_key) backend_key)
      (found_or (λ cell. read cell 0 8 (on_backend sizes frame vip ready (flow_record_of (bytes_of_number 8 number)).backend))
      (on_assigned sizes frame vip ready (record { number = (flow_record_of (bytes_of_number 8 number)).backend; «record» = None })))
      run.backend_lookup (run.backend_load ∷ last) (Ended verdict left) from_backend

  abbrev at_record : List Entry
  at_record = run.up.between ++ exchange_entry worker run.backend_lookup ∷ run.up.earlier

  legal_record : IsLegalHistory run.backends (exchange_entry worker run.backend_load ∷ at_record)
  legal_record = legal_before run.backends run.up.later (exchange_entry worker run.backend_load ∷ at_record) (subst (IsLegalHistory run.backends) run.up.history_is run.up.legal)

  legal_backend : IsLegalHistory run.backends (exchange_entry worker run.backend_lookup ∷ run.up.earlier)
  legal_backend = legal_before run.backends run.up.between (exchange_entry worker run.backend_lookup ∷ run.up.earlier) legal_record.1

  abbrev backend_cell : CellRef
  backend_cell = record { shard = run.backends.number; id = number / run.backends.parts }

  index_is : number_of_bytes backend_key ≡ number
  index_is = ap (λ n. number_of_bytes (bytes_of_number 4 n)) noted_number ∙ index_back number small

  backend_reply_is : run.backend_lookup.reply ≡ Cell backend_cell
  backend_reply_is =
      legal_backend.0.step.replied ∙ ap (reply_of run.backends run.up.earlier (shard_after run.backends run.up.earlier)) backend_call
      ∙ lookups_find run.backends run.up.earlier (shard_after run.backends run.up.earlier) (steering_shard sizes Backends backend_key) backend_key run.up.kind_is
      (subst (λ n. n < run.backends.definition.max_entries) (sym index_is) run.up.is_index)
      ∙ ap (λ n. Cell (record { shard = run.backends.number; id = n / run.backends.parts })) index_is

  abbrev word : ℕ
  word = number_in_cell (shard_after run.backends at_record) (number / run.backends.parts) 0 8

  from_record :
      plan_outcome (plan_after (on_word sizes frame vip ready number) (Cell backend_cell ∷ [])) (replies_in (run.backend_load ∷ last))
      ≡ done (calls_in (run.backend_load ∷ last)) (Ended verdict left)
  from_record =
      subst (λ (reply : Reply). plan_outcome (plan_after (on_word sizes frame vip ready number) (reply ∷ [])) (replies_in (run.backend_load ∷ last)) ≡ done (calls_in (run.backend_load ∷ last)) (Ended verdict left)) backend_reply_is
      (goes_on (on_word sizes frame vip ready number) (run.backend_lookup ∷ []) (run.backend_load ∷ last) (Ended verdict left) from_backend)

  record_call : run.backend_load.call ≡ Load backend_cell 0 8
  record_call = first_call (Load backend_cell 0 8) (λ reply. on_backend sizes frame vip ready (flow_record_of (bytes_of_number 8 number)).backend (word_in reply)) run.backend_load last (Ended verdict left) from_record

  record_reply_is : run.backend_load.reply ≡ Word word
  record_reply_is =
      legal_record.0.step.replied ∙ ap (reply_of run.backends at_record (shard_after run.backends at_record)) record_call

  -- so the run finds its note, and the backend up
  abbrev asked : List Exchange
  asked = run.guards ++ run.flow_lookup ∷ run.flow_load ∷ run.backend_lookup ∷ run.backend_load ∷ []

  finds : FindsNote tunnel number backend (replies_in asked)
  finds = record {
    service_cell = run.past.service_cell;
    flags = run.past.flags;
    tunnel_cell = run.past.tunnel_cell;
    state = run.past.state;
    source = run.past.source;
    macs = run.past.macs;
    note_cell = noted_cell;
    note = number;
    backend_cell = backend_cell;
    word = word;
    replies_are = replies_joined run.guards (run.flow_lookup ∷ run.flow_load ∷ run.backend_lookup ∷ run.backend_load ∷ [])
        ∙ (λ i. run.past.replies_are i ++ lookup_reply_is i ∷ load_reply_is i ∷ backend_reply_is i ∷ record_reply_is i ∷ []);
    is_tracked = run.past.is_tracked;
    tunnel_is = run.past.tunnel_is;
    number_is = sym noted_number;
    backend_is = run.up.record_is;
  }

  all_asked : exchanges ≡ asked ++ last
  all_asked = run.exchanges_are ∙ sym (append_assoc run.guards (run.flow_lookup ∷ run.flow_load ∷ run.backend_lookup ∷ run.backend_load ∷ []) last)

  chosen : plan_after (steering sizes frame) (replies_in asked) ≡ ending sizes frame (Some tunnel) (Tx number backend.address false)
  chosen = sticks sizes frame tunnel number backend (replies_in asked) run.past.has_flow run.past.fits run.past.is_ready run.up.is_up finds

  ended : (verdict ≡ V.Tx) × (left ≡ frame_after (Some tunnel) (Tx number backend.address false) frame)
  ended =
      counted_ends sizes V.Tx (frame_after (Some tunnel) (Tx number backend.address false) frame) left verdict last
      (subst (λ (p : Plan). plan_outcome p (replies_in last) ≡ done (calls_in last) (Ended verdict left)) chosen
      (goes_on (steering sizes frame) asked last (Ended verdict left)
      (subst (λ (xs : List Exchange). plan_outcome (steering sizes frame) (replies_in xs) ≡ done (calls_in xs) (Ended verdict left)) all_asked ends.plan)))

  chooses : ChoosesNoted sizes frame tunnel number backend exchanges verdict left
  chooses = record { asked = asked; last = last; exchanges_are = all_asked; chosen = chosen; verdict_is = ended.0; left_is = ended.1 }

pub noted_flows_stick : FlowsStick → NotedFlowsStick
noted_flows_stick sticks sizes frame tunnel number backend worker exchanges verdict left ends run =
    chooses sticks sizes frame tunnel number backend worker exchanges verdict left ends run
