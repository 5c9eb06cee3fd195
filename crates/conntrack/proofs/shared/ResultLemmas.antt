-- Every end of the rule's plan is a result of the rule.
use Rattle.std.proofs.Common.{◌≡◌, inl, inr, ℕ, ◌+◌, ◌++◌, ◌%◌, ◌&&◌, Bool, true, false, not, List, [], ◌∷◌, refl, sym, ap, subst, arith}
use Rattle.std.proofs.Common.{◌∙◌}
use Rattle.std.specs.Prelude.{Option, Some, None, replicate, if◌then◌else◌, ◌⊎◌}
use Rattle.wire.specs.FrameView.{FrameView}
use Rattle.wire.specs.Fnv.{fnv1a64_of}
use Rattle.wire.specs.FlowForm.{flow_bytes_of}
use Rattle.semantics.specs.declared.call.Call.{Call}
use Rattle.semantics.specs.declared.call.CellRef.{CellRef}
use Rattle.semantics.specs.declared.call.Reply.{Reply}
use Rattle.semantics.specs.declared.call.Call.TheVariants.{Lookup, Load, Update}
use Rattle.semantics.specs.declared.call.Reply.TheVariants.{Entered, Left, Cell, Null, Word, Done, Answer, Freed}
use Rattle.semantics.specs.declared.verdict.Verdict.{Verdict}
use Rattle.semantics.specs.Cells.{word_in}
use Rattle.semantics.specs.LittleEndian.{bytes_of_number}
use Rattle.map_port.specs.Exchanges.{Exchange}
use Rattle.block_runs.specs.Plan.{Plan, either}
use Rattle.block_runs.proofs.shared.PlanEnds.{AtEnds, at_end, weaker, at_either}
use Rattle.conntrack.specs.declared.steering_maps.SteeringMap.{SteeringMap}
use Rattle.conntrack.specs.declared.steering_maps.SteeringMap.TheVariants.{Vips, Flows, Ring, Backends, Ctl}
use Rattle.conntrack.specs.declared.records.VipRecord.{VipRecord}
use Rattle.conntrack.specs.declared.records.TunnelRecord.{TunnelRecord}
use Rattle.conntrack.specs.declared.choosing.Assigned.{Assigned}
use Rattle.conntrack.specs.declared.choosing.Records.{Records}
use Rattle.conntrack.specs.declared.choosing.Choice.{Choice}
use Rattle.conntrack.specs.Layouts.{vip_of, flow_record_of, backend_of, tunnel_of, owner_of}
use Rattle.conntrack.specs.SteeringRule.{IsSteered, tracked_choice, fits_tunnel, flow_update, frame_after, verdict_of_choice}
use Rattle.conntrack.specs.Steering.{SteeringSizes, steering_shard, look, read, found_or, counted_end, has_flow, service_bytes_of, steering, finish}
use Rattle.conntrack.specs.Steering.{noting, choice_in, no_records, read_service, read_tunnel, read_note, read_slot, read_owner}
use Rattle.conntrack.specs.Steering.{read_backend, unless_tracked}
use Rattle.conntrack.specs.Results.{change_of, changes_in, note_call, IsRaised, IsNotFound, flow_lookups, lookups_of_flows}
use Rattle.conntrack.specs.Results.{flow_lookups_due, IsResult}
use Rattle.conntrack.specs.SteeringLaws.{FinishedRunsAreResults}
use Rattle.conntrack.proofs.shared.RuleLemmas.{follows_rule}

-- ---- whether a frame gets to the note

abbrev due : Bool → Bool → Bool → Bool → ℕ
due tracked ready fits flow = if tracked && (ready && (fits && flow)) then 1 else 0

without_tunnel : (tracked fits flow : Bool) → 0 ≡ due tracked false fits flow
without_tunnel false fits flow = refl
without_tunnel true fits flow = refl

-- ---- the ends of the plan

module _ (sizes : SteeringSizes) (frame : FrameView) where
  abbrev due_of : Records → ℕ
  due_of records = flow_lookups_due frame.bytes records

  -- the run chose this by these records and made these changes before the count; the flows were looked up so often before
  record Shown (looked : ℕ) (records : Records) (choice : Choice) (changed : List Call) (exchanges : List Exchange) (verdict : Verdict) (left : FrameView) : Type 0 where
    steered : IsSteered frame.bytes records choice
    verdict_is : verdict ≡ verdict_of_choice choice
    left_is : left ≡ frame_after records.tunnel choice frame
    before : List Exchange
    last : List Exchange
    all : exchanges ≡ before ++ last
    changes : changes_in before ≡ changed
    counted_last : IsRaised sizes verdict last ⊎ IsNotFound sizes verdict last
    lookups : looked + lookups_of_flows exchanges ≡ due_of records

  record Result (looked : ℕ) (exchanges : List Exchange) (verdict : Verdict) (left : FrameView) : Type 0 where
    records : Records
    choice : Choice
    shown : Shown looked records choice (note_call sizes (flow_update frame.bytes choice)) exchanges verdict left

  -- only the count is left
  count_shown : (looked : ℕ) (records : Records) (choice : Choice) → IsSteered frame.bytes records choice → looked ≡ due_of records →
      (last : List Exchange) → 0 ≡ lookups_of_flows last →
      (IsRaised sizes (verdict_of_choice choice) last ⊎ IsNotFound sizes (verdict_of_choice choice) last) →
      Shown looked records choice [] last (verdict_of_choice choice) (frame_after records.tunnel choice frame)
  count_shown looked records choice steered is last quiet counted_last = record {
    steered = steered;
    verdict_is = refl;
    left_is = refl;
    before = [];
    last = last;
    all = refl;
    changes = refl;
    counted_last = counted_last;
    lookups = (let same : looked + lookups_of_flows last ≡ looked = omega arith in same) ∙ is;
  }

  counted_ends : (looked : ℕ) (records : Records) (choice : Choice) → IsSteered frame.bytes records choice → looked ≡ due_of records →
      AtEnds (Shown looked records choice []) (counted_end sizes (verdict_of_choice choice) (frame_after records.tunnel choice frame))
  counted_ends looked records choice steered is (Cell cell) = λ old. count_shown looked records choice steered is _ refl (inl (record { cell = cell; old = old; calls = refl }))
  counted_ends looked records choice steered is Entered = count_shown looked records choice steered is _ refl (inr (record { absent = Entered; no_cell = tt; calls = refl }))
  counted_ends looked records choice steered is Left = count_shown looked records choice steered is _ refl (inr (record { absent = Left; no_cell = tt; calls = refl }))
  counted_ends looked records choice steered is Null = count_shown looked records choice steered is _ refl (inr (record { absent = Null; no_cell = tt; calls = refl }))
  counted_ends looked records choice steered is (Word word) = count_shown looked records choice steered is _ refl (inr (record { absent = Word word; no_cell = tt; calls = refl }))
  counted_ends looked records choice steered is Done = count_shown looked records choice steered is _ refl (inr (record { absent = Done; no_cell = tt; calls = refl }))
  counted_ends looked records choice steered is (Answer code) = count_shown looked records choice steered is _ refl (inr (record { absent = Answer code; no_cell = tt; calls = refl }))
  counted_ends looked records choice steered is (Freed count) = count_shown looked records choice steered is _ refl (inr (record { absent = Freed count; no_cell = tt; calls = refl }))

  one_before : (looked next : ℕ) (records : Records) (choice : Choice) (changed : List Call) (exchange : Exchange) (exchanges : List Exchange)
      (verdict : Verdict) (left : FrameView) → next ≡ looked + flow_lookups exchange.call → Shown next records choice changed exchanges verdict left →
      Shown looked records choice (change_of exchange.call ++ changed) (exchange ∷ exchanges) verdict left
  one_before looked next records choice changed exchange exchanges verdict left is at = record {
    steered = at.steered;
    verdict_is = at.verdict_is;
    left_is = at.left_is;
    before = exchange ∷ at.before;
    last = at.last;
    all = ap (λ (later : List Exchange). exchange ∷ later) at.all;
    changes = ap (λ (later : List Call). change_of exchange.call ++ later) at.changes;
    counted_last = at.counted_last;
    lookups = (let same : looked + (flow_lookups exchange.call + lookups_of_flows exchanges) ≡ next + lookups_of_flows exchanges = omega arith in same) ∙ at.lookups;
  }

  noted_ends : (looked : ℕ) (records : Records) (choice : Choice) → IsSteered frame.bytes records choice → looked ≡ due_of records → (note : Option (List ℕ × List ℕ)) →
      AtEnds (Shown looked records choice (note_call sizes note)) (noting sizes note (counted_end sizes (verdict_of_choice choice) (frame_after records.tunnel choice frame)))
  noted_ends looked records choice steered is None = counted_ends looked records choice steered is
  noted_ends looked records choice steered is (Some note) = λ answer.
      weaker (Shown looked records choice []) (λ later v f. Shown looked records choice (note_call sizes (Some note)) ((record { call = Update (steering_shard sizes Flows note.0) note.0 note.1 0; reply = answer }) ∷ later) v f)
      (λ later v f at. one_before looked looked records choice [] (record { call = Update (steering_shard sizes Flows note.0) note.0 note.1 0; reply = answer }) later v f
      (let same : looked ≡ looked + 0 = omega arith in same) at)
      (counted_end sizes (verdict_of_choice choice) (frame_after records.tunnel choice frame)) (counted_ends looked records choice steered is)

  -- a call that changes nothing comes before
  quiet_before : (looked next : ℕ) (call : Call) → change_of call ≡ [] → next ≡ looked + flow_lookups call → (reply : Reply) (plan : Plan) → AtEnds (Result next) plan →
      AtEnds (λ later v f. Result looked ((record { call = call; reply = reply }) ∷ later) v f) plan
  quiet_before looked next call quiet is reply plan =
      weaker (Result next) (λ later v f. Result looked ((record { call = call; reply = reply }) ∷ later) v f)
      (λ later v f at. record {
        records = at.records;
        choice = at.choice;
        shown = subst (λ (changed : List Call). Shown looked at.records at.choice (changed ++ note_call sizes (flow_update frame.bytes at.choice)) ((record { call = call; reply = reply }) ∷ later) v f) quiet
            (one_before looked next at.records at.choice (note_call sizes (flow_update frame.bytes at.choice)) (record { call = call; reply = reply }) later v f is at.shown);
      }) plan

  looked_up : (looked next : ℕ) (map : SteeringMap) (key : List ℕ) (found : CellRef → Plan) (absent : Plan) → next ≡ looked + flow_lookups (Lookup (steering_shard sizes map key) key) →
      ((cell : CellRef) → AtEnds (Result next) (found cell)) → AtEnds (Result next) absent → AtEnds (Result looked) (look sizes map key found absent)
  looked_up looked next map key found absent is on_found on_absent reply =
      quiet_before looked next (Lookup (steering_shard sizes map key) key) refl is reply (found_or found absent reply) (by reply)
    where
      by : (reply : Reply) → AtEnds (Result next) (found_or found absent reply)
      by (Cell cell) = on_found cell
      by _ = on_absent

  loaded : (looked : ℕ) (cell : CellRef) (offset size : ℕ) (on : ℕ → Plan) → ((word : ℕ) → AtEnds (Result looked) (on word)) → AtEnds (Result looked) (read cell offset size on)
  loaded looked cell offset size on each reply =
      quiet_before looked looked (Load cell offset size) refl (let same : looked ≡ looked + 0 = omega arith in same) reply (on (word_in reply)) (each (word_in reply))

  none_more : (looked : ℕ) → looked ≡ looked + 0
  none_more looked = omega arith

  finishes : (looked : ℕ) (records : Records) → looked ≡ due_of records → AtEnds (Result looked) (finish sizes frame records)
  finishes looked records is =
      weaker (Shown looked records (choice_in frame.bytes records) (note_call sizes (flow_update frame.bytes (choice_in frame.bytes records)))) (Result looked)
      (λ exchanges v f at. record { records = records; choice = choice_in frame.bytes records; shown = at })
      (finish sizes frame records)
      (noted_ends looked records (choice_in frame.bytes records) (follows_rule frame.bytes records) is (flow_update frame.bytes (choice_in frame.bytes records)))

  backend_read : (looked number : ℕ) (on : Assigned → Plan) → ((assigned : Assigned) → AtEnds (Result looked) (on assigned)) →
      AtEnds (Result looked) (read_backend sizes number on)
  backend_read looked number on each =
      looked_up looked looked Backends (bytes_of_number 4 number) (λ cell. read cell 0 8 (λ word. on (record { number = number; «record» = Some (backend_of (bytes_of_number 8 word)) })))
      (on (record { number = number; «record» = None })) (none_more looked)
      (λ cell. loaded looked cell 0 8 (λ word. on (record { number = number; «record» = Some (backend_of (bytes_of_number 8 word)) })) (λ word. each _)) (each _)

  owner_read : (looked : ℕ) (records : Records) → looked ≡ due_of records → (owner : Option ℕ) → AtEnds (Result looked) (read_owner sizes frame records owner)
  owner_read looked records is None = finishes looked records is
  owner_read looked records is (Some number) =
      backend_read looked number (λ assigned. finish sizes frame (record records { slot = Some assigned })) (λ assigned. finishes looked (record records { slot = Some assigned }) is)

  slot_read : (looked : ℕ) (records : Records) → looked ≡ due_of records → AtEnds (Result looked) (read_slot sizes frame records)
  slot_read looked records is =
      looked_up looked looked Ring (bytes_of_number 4 (fnv1a64_of (flow_bytes_of frame.bytes) % sizes.size)) (λ cell. read cell 0 4 (λ word. read_owner sizes frame records (owner_of word)))
      (finish sizes frame records) (none_more looked)
      (λ cell. loaded looked cell 0 4 (λ word. read_owner sizes frame records (owner_of word)) (λ word. owner_read looked records is (owner_of word))) (finishes looked records is)

  unless_read : (looked : ℕ) (records : Records) → looked ≡ due_of records → (choice : Option Choice) →
      AtEnds (Result looked) (unless_tracked sizes frame records choice)
  unless_read looked records is None = slot_read looked records is
  unless_read looked records is (Some choice) = finishes looked records is

  abbrev noted_backend : VipRecord → Records → Assigned → Plan
  noted_backend vip records assigned =
      unless_tracked sizes frame (record records { tracked = Some assigned }) (tracked_choice vip (record records { tracked = Some assigned }))

  abbrev after_note : VipRecord → Records → ℕ → Plan
  after_note vip records word = read_backend sizes (flow_record_of (bytes_of_number 8 word)).backend (noted_backend vip records)

  -- past the guards: the flows are looked up unless the service says not to
  note_read : (vip : VipRecord) (records : Records) → ((notrack : Bool) → vip.is_notrack ≡ notrack → (if notrack then 0 else 1) ≡ due_of records) →
      AtEnds (Result 0) (read_note sizes frame vip records)
  note_read vip records is =
      at_either (Result 0) vip.is_notrack (read_slot sizes frame records)
      (look sizes Flows (flow_bytes_of frame.bytes) (λ cell. read cell 0 8 (after_note vip records)) (read_slot sizes frame records))
      (λ notrack. slot_read 0 records (is true notrack))
      (λ tracks. looked_up 0 1 Flows (flow_bytes_of frame.bytes) (λ cell. read cell 0 8 (after_note vip records)) (read_slot sizes frame records) refl
      (λ cell. loaded 1 cell 0 8 (after_note vip records) (λ word. backend_read 1 (flow_record_of (bytes_of_number 8 word)).backend (noted_backend vip records)
      (λ assigned. unless_read 1 (record records { tracked = Some assigned }) (is false tracks) (tracked_choice vip (record records { tracked = Some assigned })))))
      (slot_read 1 records (is false tracks)))

  abbrev with_vip : VipRecord → Records
  with_vip vip = record no_records { vip = Some vip }

  abbrev with_tunnel : VipRecord → TunnelRecord → Records
  with_tunnel vip tunnel = record (with_vip vip) { tunnel = Some tunnel }

  abbrev ready_tunnel : ℕ → ℕ → ℕ → TunnelRecord
  ready_tunnel source macs state = tunnel_of (bytes_of_number 8 source ++ (bytes_of_number 8 macs ++ bytes_of_number 8 state))

  abbrev bare_tunnel : ℕ → TunnelRecord
  bare_tunnel state = tunnel_of (replicate 16 0 ++ bytes_of_number 8 state)

  abbrev on_macs : VipRecord → ℕ → ℕ → ℕ → Plan
  on_macs vip state source macs = read_note sizes frame vip (with_tunnel vip (ready_tunnel source macs state))

  abbrev on_source : VipRecord → CellRef → ℕ → ℕ → Plan
  on_source vip cell state source = read cell 8 8 (on_macs vip state source)

  abbrev on_state : VipRecord → CellRef → ℕ → Plan
  on_state vip cell state =
      either (bare_tunnel state).is_ready (read cell 0 8 (on_source vip cell state)) (finish sizes frame (with_tunnel vip (bare_tunnel state)))

  state_read : has_flow frame.bytes ≡ true → fits_tunnel frame.bytes ≡ true → (vip : VipRecord) (cell : CellRef) (state : ℕ) → AtEnds (Result 0) (on_state vip cell state)
  state_read flow fits vip cell state =
      at_either (Result 0) (bare_tunnel state).is_ready (read cell 0 8 (on_source vip cell state)) (finish sizes frame (with_tunnel vip (bare_tunnel state)))
      (λ ready. loaded 0 cell 0 8 (on_source vip cell state) (λ source. loaded 0 cell 8 8 (on_macs vip state source) (λ macs.
      note_read vip (with_tunnel vip (ready_tunnel source macs state)) (λ notrack is. (by_notrack notrack ∙ sym (λ i. due (not (is i)) (ready i) (fits i) (flow i)))))))
      (λ bare. finishes 0 (with_tunnel vip (bare_tunnel state))
      (without_tunnel (not vip.is_notrack) (fits_tunnel frame.bytes) (has_flow frame.bytes) ∙ sym (λ i. due (not vip.is_notrack) (bare i) (fits_tunnel frame.bytes) (has_flow frame.bytes))))
    where
      by_notrack : (notrack : Bool) → (if notrack then 0 else 1) ≡ due (not notrack) true true true
      by_notrack true = refl
      by_notrack false = refl

  tunnel_read : has_flow frame.bytes ≡ true → fits_tunnel frame.bytes ≡ true → (vip : VipRecord) → AtEnds (Result 0) (read_tunnel sizes frame vip (with_vip vip))
  tunnel_read flow fits vip =
      looked_up 0 0 Ctl (bytes_of_number 4 0) (λ cell. read cell 16 8 (on_state vip cell)) (finish sizes frame (with_vip vip)) refl
      (λ cell. loaded 0 cell 16 8 (on_state vip cell) (state_read flow fits vip cell))
      (finishes 0 (with_vip vip) (without_tunnel (not vip.is_notrack) (fits_tunnel frame.bytes) (has_flow frame.bytes)))

  abbrev vip_by : ℕ → VipRecord
  vip_by word = vip_of (bytes_of_number 8 word)

  abbrev on_flags : ℕ → Plan
  on_flags word = either (fits_tunnel frame.bytes) (read_tunnel sizes frame (vip_by word) (with_vip (vip_by word))) (finish sizes frame (with_vip (vip_by word)))

  service_read : has_flow frame.bytes ≡ true → (word : ℕ) → AtEnds (Result 0) (on_flags word)
  service_read flow word =
      at_either (Result 0) (fits_tunnel frame.bytes) (read_tunnel sizes frame (vip_by word) (with_vip (vip_by word))) (finish sizes frame (with_vip (vip_by word)))
      (λ fits. tunnel_read flow fits (vip_by word))
      (λ unfit. finishes 0 (with_vip (vip_by word)) (without_tunnel (not (vip_by word).is_notrack) (fits_tunnel frame.bytes) (has_flow frame.bytes)))

  whole : AtEnds (Result 0) (steering sizes frame)
  whole =
      at_either (Result 0) (has_flow frame.bytes) (read_service sizes frame) (finish sizes frame no_records)
      (λ flow. looked_up 0 0 Vips (service_bytes_of frame.bytes) (λ cell. read cell 0 8 on_flags) (finish sizes frame no_records) refl
      (λ cell. loaded 0 cell 0 8 on_flags (service_read flow)) (finishes 0 no_records refl))
      (λ none. finishes 0 no_records refl)

  as_result : (exchanges : List Exchange) (verdict : Verdict) (left : FrameView) → Result 0 exchanges verdict left → IsResult sizes frame exchanges verdict left
  as_result exchanges verdict left at = record {
    records = at.records;
    choice = at.choice;
    steered = at.shown.steered;
    verdict_is = at.shown.verdict_is;
    left_is = at.shown.left_is;
    before = at.shown.before;
    last = at.shown.last;
    all = at.shown.all;
    noted = at.shown.changes;
    counted = at.shown.counted_last;
    flows_looked_up = (let same : lookups_of_flows exchanges ≡ 0 + lookups_of_flows exchanges = omega arith in same) ∙ at.shown.lookups;
  }

pub finished_runs : FinishedRunsAreResults
finished_runs sizes frame exchanges verdict left is =
    as_result sizes frame exchanges verdict left (at_end (Result sizes frame 0) (steering sizes frame) (whole sizes frame) exchanges verdict left is)
