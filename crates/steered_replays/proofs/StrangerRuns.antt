-- A run of a replay that finds no note sends its frame to the owner of its flow's slot.
use Rattle.std.proofs.Common.{◌≡◌, ℕ, zero, suc, ◌+◌, ◌*◌, ◌%◌, ◌/◌, ◌^◌, ◌<◌, Bool, true, false, List, [], ◌∷◌, ◌++◌, length, refl, sym, ◌∙◌, ap, subst, arith}
use Rattle.std.specs.Prelude.{Option, Some, None, option_map, slice_get, if◌then◌else◌, take, drop, replicate, slice_index_or}
use Rattle.std.specs.List.{AllByRecursion}
use Rattle.std.proofs.Math.Nat.{mod-lt}
use Rattle.std.proofs.lemmas.Bool.{eqb-true}
use Rattle.std.proofs.lemmas.List.Elements.{All-contains, All-from_recursion}
use Rattle.std.proofs.lemmas.List.{length-append, take_all}
use Rattle.ebpf_decode.specs.declared.map.MapDef.{MapDef}
use Rattle.ebpf_decode.specs.declared.map.MapKind.{MapKind}
use Rattle.ebpf_decode.specs.declared.map.MapKind.TheVariants.{Array}
use Rattle.wire.specs.Fnv.{fnv1a64_of}
use Rattle.wire.specs.FrameView.{FrameView}
use Rattle.wire.specs.declared.records.Sent.{Sent}
use Rattle.semantics.specs.ByteCells.{AreBytes}
use Rattle.semantics.specs.declared.call.Call.TheVariants.{Load, Lookup}
use Rattle.semantics.specs.declared.call.CellRef.{CellRef}
use Rattle.semantics.specs.declared.call.Entry.{Entry}
use Rattle.semantics.specs.declared.call.Reply.{Reply}
use Rattle.semantics.specs.declared.call.Reply.TheVariants.{Cell, Null, Word}
use Rattle.semantics.specs.declared.options.Options.{Options}
use Rattle.semantics.specs.declared.plan.ShardPlan.{ShardPlan}
use Rattle.semantics.specs.declared.verdict.Verdict.{Verdict}
use Rattle.semantics.specs.Cells.{word_in}
use Rattle.semantics.specs.History.{IsLegalHistory}
use Rattle.semantics.specs.LittleEndian.{bytes_of_number, number_of_bytes}
use Rattle.semantics.specs.Program.{Program, shard_of_key}
use Rattle.semantics.specs.SequentialShard.{SequentialShard, cell_bytes, cell_of_key, cell_of_kind, lookup_reply, reply_of, shard_after}
use Rattle.semantics.specs.ShardPlan.{plan_at, plan_for_map}
use Rattle.semantics.specs.System.{input_frame}
use Rattle.semantics.proofs.shared.CellBytes.{legal_bytes}
use Rattle.semantics.proofs.shared.LittleEndianLemmas.{number_of_bytes-cons}
use Rattle.maglev.specs.declared.backend.Backend.{Backend as Server}
use Rattle.maglev.specs.RingSize.{IsRingSize, ring_sizes}
use Rattle.map_port.specs.Exchanges.{Exchange, calls_in, replies_in}
use Rattle.block_runs.specs.Plan.{Ended, Plan, PlanEnding, Waiting, plan_after, plan_outcome}
use Rattle.shard_port.specs.Sessions.{exchange_entry}
use Rattle.conntrack.specs.declared.choosing.Assigned.{Assigned}
use Rattle.conntrack.specs.declared.choosing.Choice.{Choice}
use Rattle.conntrack.specs.declared.choosing.Choice.TheVariants.{Tx}
use Rattle.conntrack.specs.declared.choosing.Records.{Records}
use Rattle.conntrack.specs.declared.records.TunnelRecord.{TunnelRecord}
use Rattle.conntrack.specs.declared.records.VipRecord.{VipRecord}
use Rattle.conntrack.specs.declared.steering_maps.SteeringMap.{SteeringMap}
use Rattle.conntrack.specs.declared.steering_maps.SteeringMap.TheVariants.{Backends, Ring}
use Rattle.conntrack.specs.Layouts.{backend_bytes, backend_of, flow_record_of, owner_of, ring_bytes, tunnel_of, vip_of}
use Rattle.conntrack.specs.Steering.{SteeringSizes, choice_in, counted_end, finish, found_or, has_flow, no_records, noting, read, read_backend, read_note, read_owner, read_service, read_slot, read_tunnel, steering, steering_shard, unless_tracked}
use Rattle.conntrack.specs.SteeringMaps.{defined, map_kind, map_place, ring_entries, sized_maps}
use Rattle.conntrack.specs.SteeringRule.{choice_of, fits_tunnel, flow_update, frame_after, tracked_choice, verdict_of_choice}
use Rattle.conntrack.proofs.shared.RuleLemmas.{follows_rule, passes_test}
use Rattle.steer.specs.SteeringLaws.{of_size, shipped_program}
use Rattle.shards.specs.Passes.{PassView}
use Rattle.control.specs.declared.command.Action.{Action}
use Rattle.control.specs.declared.command.Action.TheVariants.{Down}
use Rattle.control.specs.declared.command.Command.{Command}
use Rattle.control.specs.Controlling.{IsTable, has_number, without_backend}
use Rattle.actors.specs.declared.outcome.Outcome.{Outcome}
use Rattle.actors.specs.declared.runner.RunEnd.{RunEnd}
use Rattle.actors.specs.declared.runner.RunEnd.TheVariants.{Exited, Stopped}
use Rattle.actors.specs.Accounted.{PlacedRun, runs_in_work, IsAccounted}
use Rattle.actors.specs.RunsOverShards.{IsRunIn}
use Rattle.semantics.proofs.shared.HoldingLemmas.{each_weaker}
use Rattle.steered_replays.specs.SteeredRuns.{EndsByRule, IsSteeredRun}
use Rattle.steered_replays.specs.TablesAtEnd.{AreTablesAtEnd, IsMoment, IsPlainReplay, IsRecordedUp, MapsAt, TablesFollow, carried_out, is_refused, last_histories, no_record, record_left, up_left, value_at, value_in_shard}
use Rattle.steered_replays.specs.Fleets.{IsSentByTable, OwnersAreSentTo, assigned_in, owner_in, owner_of_flow, sent_to, server_of, slot_of_flow}
use Rattle.steered_replays.specs.StrangerRuns.{FindsNoNote, IsReadAt, ReachesNote, ReadsOwner, RunOfStranger, SentIfStranger, StrangersAreSent, StrangersMoveBetweenRuns, nobody, none_noted, noted_is_down, somebody, untracked}
use Rattle.steered_replays.proofs.FleetLemmas.{IsOwned, flow_slot, is_owned, left_both, owner_back, owner_up, same_owner, same_server}
use Rattle.steered_replays.proofs.MovingStrangers.{from_zero, one_more, some_slots}
use Rattle.steered_replays.proofs.NoteLemmas.{legal_before}
use Rattle.steered_replays.proofs.PlaceLemmas.{part_place, some_shard}
use Rattle.steered_replays.proofs.StickyReplays.{told_as}
use Rattle.steered_replays.proofs.StickyRuns.{counted_ends, done, first_call, goes_on, on_left, on_note, on_right, on_state, records_of}
use Rattle.steered_replays.proofs.TableLemmas.{IsPlanOf, below_all, planned_of}
use Rattle.steered_replays.proofs.CommandTables.{found_one}

-- ---- bytes

-- the number of some bytes has these bytes
bytes_again : (bytes : List ℕ) → AreBytes bytes → bytes_of_number (length bytes) (number_of_bytes bytes) ≡ bytes
bytes_again [] each = refl
bytes_again (byte ∷ higher) each =
    let small : byte < 256 = each.0 in
    let number : number_of_bytes (byte ∷ higher) ≡ number_of_bytes higher * 256 + byte = number_of_bytes-cons byte higher in
    let low : number_of_bytes (byte ∷ higher) % 256 ≡ byte = omega (arith, small, number) in
    let rest : number_of_bytes (byte ∷ higher) / 256 ≡ number_of_bytes higher = omega (arith, small, number) in
    ap (λ (n : ℕ). n ∷ bytes_of_number (length higher) (number_of_bytes (byte ∷ higher) / 256)) low
    ∙ ap (λ (n : ℕ). byte ∷ bytes_of_number (length higher) n) rest
    ∙ ap (λ (l : List ℕ). byte ∷ l) (bytes_again higher each.1)

each_at : (cells : List (List ℕ)) (cell : ℕ) → AllByRecursion AreBytes cells → AreBytes (slice_index_or cells cell [])
each_at [] cell each = tt
each_at (bytes ∷ cells) zero each = each.0
each_at (bytes ∷ cells) (suc cell) each = each_at cells cell each.1

mapped : {A B : Type 0} (f : A → B) (one : Option A) (other : B) → option_map f one ≡ Some other → (it : A) × (one ≡ Some it) × (f it ≡ other)
mapped f None other is = absurd cc
mapped f (Some it) other is = (it, refl, cc)

-- ---- the plan up to the slot

module _ (sizes : SteeringSizes) (frame : FrameView) where
  reached : (vip : VipRecord) (tunnel : TunnelRecord) (replies : List Reply) → ReachesNote frame.bytes vip tunnel replies →
      plan_after (steering sizes frame) replies ≡ read_note sizes frame vip (records_of vip tunnel None)
  reached vip tunnel replies past =
      let its : VipRecord = vip_of (bytes_of_number 8 past.flags) in
      let ready : TunnelRecord = tunnel_of (bytes_of_number 8 past.source ++ (bytes_of_number 8 past.macs ++ bytes_of_number 8 past.state)) in
      let ready_set : ready.is_ready ≡ true = ap (λ (t : TunnelRecord). t.is_ready) (sym past.tunnel_is) ∙ past.is_ready in
      let bare : TunnelRecord = tunnel_of (replicate 16 0 ++ bytes_of_number 8 past.state) in
      let past_state : List Reply = Word past.source ∷ Word past.macs ∷ [] in
      let past_flags : List Reply = Cell past.tunnel_cell ∷ Word past.state ∷ past_state in
      ap (plan_after (steering sizes frame)) past.replies_are
      ∙ on_left (has_flow frame.bytes) (read_service sizes frame) (finish sizes frame no_records) (Cell past.service_cell ∷ Word past.flags ∷ past_flags) (passes_test frame.bytes past.has_flow)
      ∙ on_left (fits_tunnel frame.bytes) (read_tunnel sizes frame its (record no_records { vip = Some its })) (finish sizes frame (record no_records { vip = Some its })) past_flags past.fits
      ∙ on_left bare.is_ready (on_state sizes frame its past.tunnel_cell past.state) (finish sizes frame (records_of its bare None)) past_state ready_set
      ∙ ap (λ (v : VipRecord). read_note sizes frame v (records_of v ready None)) (sym past.vip_is)
      ∙ ap (λ (t : TunnelRecord). read_note sizes frame vip (records_of vip t None)) (sym past.tunnel_is)

  -- past the note the slot is read, and no note decides
  record PastNote (vip : VipRecord) (tunnel : TunnelRecord) (replies : List Reply) : Type 0 where
    tracked : Option Assigned
    goes : plan_after (read_note sizes frame vip (records_of vip tunnel None)) replies ≡ read_slot sizes frame (records_of vip tunnel tracked)
    none : tracked_choice vip (records_of vip tunnel tracked) ≡ None

  past_note : (vip : VipRecord) (tunnel : TunnelRecord) (replies : List Reply) → FindsNoNote vip replies → PastNote vip tunnel replies
  past_note vip tunnel replies (untracked is empty) = record {
    tracked = None;
    goes = ap (plan_after (read_note sizes frame vip (records_of vip tunnel None))) empty
        ∙ on_left vip.is_notrack (read_slot sizes frame (records_of vip tunnel None)) (on_note sizes frame vip tunnel) [] is;
    none = ap (λ (t : Bool). if t then None else choice_of false None) is;
  }
  past_note vip tunnel replies (none_noted is are) = record {
    tracked = None;
    goes = ap (plan_after (read_note sizes frame vip (records_of vip tunnel None))) are
        ∙ on_right vip.is_notrack (read_slot sizes frame (records_of vip tunnel None)) (on_note sizes frame vip tunnel) (Null ∷ []) is;
    none = ap (λ (t : Bool). if t then None else choice_of false None) is;
  }
  past_note vip tunnel replies (noted_is_down is note_cell backend_cell note word down are) =
      let number : ℕ = (flow_record_of (bytes_of_number 8 note)).backend in
      let assigned : Assigned = record { number = number; «record» = Some (backend_of (bytes_of_number 8 word)) } in
      let all : List Reply = Cell note_cell ∷ Word note ∷ Cell backend_cell ∷ Word word ∷ [] in
      let none : tracked_choice vip (records_of vip tunnel (Some assigned)) ≡ None =
      ap (λ (t : Bool). if t then None else choice_of false (Some assigned)) is
      ∙ ap (λ (t : Bool). if t then Some (Tx number (backend_of (bytes_of_number 8 word)).address false) else None) down in
      record {
        tracked = Some assigned;
        goes = ap (plan_after (read_note sizes frame vip (records_of vip tunnel None))) are
            ∙ on_right vip.is_notrack (read_slot sizes frame (records_of vip tunnel None)) (on_note sizes frame vip tunnel) all is
            ∙ ap (unless_tracked sizes frame (records_of vip tunnel (Some assigned))) none;
        none = none;
      }

  -- what is carried out at the end is the choice
  noted_ends : (note : Option (List ℕ × List ℕ)) (counted : Verdict) (sent left : FrameView) (verdict : Verdict) (last : List Exchange) →
      plan_outcome (noting sizes note (counted_end sizes counted sent)) (replies_in last) ≡ done (calls_in last) (Ended verdict left) →
      (verdict ≡ counted) × (left ≡ sent)
  noted_ends None counted sent left verdict last is = counted_ends sizes counted sent left verdict last is
  noted_ends (Some note) counted sent left verdict [] is = (let ends : Waiting ≡ Ended verdict left = ap (λ o. o.ending) is in absurd cc ends)
  noted_ends (Some note) counted sent left verdict (one ∷ last) is =
      counted_ends sizes counted sent left verdict last
      (goes_on (noting sizes (Some note) (counted_end sizes counted sent)) (one ∷ []) last (Ended verdict left) is)

  record IsChosen (records : Records) (verdict : Verdict) (left : FrameView) : Type 0 where
    verdict_is : verdict ≡ verdict_of_choice (choice_in frame.bytes records)
    left_is : left ≡ frame_after records.tunnel (choice_in frame.bytes records) frame

  finish_ends : (records : Records) (left : FrameView) (verdict : Verdict) (last : List Exchange) →
      plan_outcome (finish sizes frame records) (replies_in last) ≡ done (calls_in last) (Ended verdict left) → IsChosen records verdict left
  finish_ends records left verdict last is =
      let choice : Choice = choice_in frame.bytes records in
      let ended = noted_ends (flow_update frame.bytes choice) (verdict_of_choice choice) (frame_after records.tunnel choice frame) left verdict last is in
      record { verdict_is = ended.0; left_is = ended.1 }

record IsChosenByTable (size : ℕ) (now : MapsAt) (frame : FrameView) (vip : VipRecord) (tunnel : TunnelRecord) (verdict : Verdict) (left : FrameView) : Type 0 where
  choice : Choice
  by_table : IsSentByTable size now frame.bytes vip choice
  verdict_is : verdict ≡ verdict_of_choice choice
  left_is : left ≡ frame_after (Some tunnel) choice frame

-- ---- what is read at a moment

record IsKeyRead (key bytes : List ℕ) (lookup load : Exchange) : Type 0 where
  cell : CellRef
  found : (shard : ℕ) → lookup.call ≡ Lookup shard key → lookup.reply ≡ Cell cell
  word : (offset count : ℕ) → load.call ≡ Load cell offset count → load.reply ≡ Word (number_of_bytes (take count (drop offset bytes)))
  are_bytes : AreBytes bytes

module _ (notes size : ℕ) (script : List Command) (options : Options) (records : List Sent) (outcome : Outcome)
    (plain : IsPlainReplay notes size script options records outcome) (histories : ℕ → List Entry) (worker : ℕ) where
  abbrev accounted : IsAccounted (shipped_program notes (of_size options.shards size)) script options records outcome
  accounted = plain.accounted

  abbrev now : MapsAt
  now = record { journals = outcome.journals; histories = histories }

  some : 0 < options.shards
  some = some_shard options.shards plain.fit.power_of_two

  module _ (map : SteeringMap) (entries : ℕ) (known : slice_get (sized_maps notes size) (map_place map) ≡ Some (defined Array 4 8 entries))
      (is_array : map_kind map ≡ Array) (low : map_place map < 5) (index : ℕ) (small : index < 2 ^ 32) where
    abbrev key : List ℕ
    key = bytes_of_number 4 index

    back : number_of_bytes key ≡ index
    back = omega (arith, small)

    abbrev number : ℕ
    number = map_place map * options.shards + index % options.shards

    abbrev shard_of_it : ℕ
    shard_of_it = shard_of_key (map_place map) (map_kind map) outcome.journals.options.shards key

    number_is : shard_of_it ≡ number
    number_is =
        ap (λ (k : MapKind). shard_of_key (map_place map) k outcome.journals.options.shards key) is_array
        ∙ ap (λ (o : Options). shard_of_key (map_place map) Array o.shards key) accounted.options_are
        ∙ ap (λ (n : ℕ). map_place map * options.shards + n % options.shards) back

    high : (place part shards : ℕ) → place < 5 → part < shards → place * shards + part < 5 * shards
    high zero part shards few less = omega (arith, less)
    high (suc zero) part shards few less = omega (arith, less)
    high (suc (suc zero)) part shards few less = omega (arith, less)
    high (suc (suc (suc zero))) part shards few less = omega (arith, less)
    high (suc (suc (suc (suc zero)))) part shards few less = omega (arith, less)
    high (suc (suc (suc (suc (suc place))))) part shards few less = absurd (omega (arith, few))

    within : number < accounted.count
    within = below_all number options.shards accounted.count (high (map_place map) (index % options.shards) options.shards low (mod-lt index some)) accounted.plans.count_is

    abbrev plan : ShardPlan
    plan = accounted.plan number

    is_plan : IsPlanOf options (defined Array 4 8 entries) plan
    is_plan =
        planned_of options number (defined Array 4 8 entries) plan
        (sym (ap (plan_for_map options number) (ap (slice_get (sized_maps notes size)) (part_place options.shards (map_place map) (index % options.shards) (mod-lt index some)) ∙ known))
        ∙ accounted.plans.each number within)

    array : plan.definition.kind ≡ Array
    array = ap (λ (d : MapDef). d.kind) is_plan.definition_is

    abbrev shard : SequentialShard
    shard = shard_after plan (histories number)

    own_value : value_at now map key ≡ option_map (cell_bytes shard) (cell_of_key plan shard key)
    own_value =
        ap (λ (n : ℕ). value_in_shard (histories n) (plan_at outcome.journals.maps outcome.journals.options n) key) number_is
        ∙ ap (λ (o : Options). value_in_shard (histories number) (plan_at outcome.journals.maps o number) key) accounted.options_are
        ∙ ap (λ (maps : List MapDef). value_in_shard (histories number) (plan_at maps options number) key) accounted.maps
        ∙ ap (λ (p : Option ShardPlan). value_in_shard (histories number) p key) (accounted.plans.each number within)

    same_cell : (one other : SequentialShard) → cell_of_key plan one key ≡ cell_of_key plan other key
    same_cell one other = ap (λ (k : MapKind). cell_of_kind k plan one key) array ∙ sym (ap (λ (k : MapKind). cell_of_kind k plan other key) array)

    key_read : (bytes : List ℕ) (lookup load : Exchange) → value_at now map key ≡ Some bytes → IsReadAt now map key worker lookup load → IsKeyRead key bytes lookup load
    key_read bytes lookup load value read =
        let held = mapped (cell_bytes shard) (cell_of_key plan shard key) bytes (sym own_value ∙ value) in
        let history : last_histories outcome.journals number ≡ read.later ++ exchange_entry worker load ∷ histories number =
        subst (λ (n : ℕ). last_histories outcome.journals n ≡ read.later ++ exchange_entry worker load ∷ histories n) number_is read.history_is in
        let moment : histories number ≡ read.between ++ exchange_entry worker lookup ∷ read.earlier =
        subst (λ (n : ℕ). histories n ≡ read.between ++ exchange_entry worker lookup ∷ read.earlier) number_is read.moment_is in
        let legal_load : IsLegalHistory plan (exchange_entry worker load ∷ histories number) =
        legal_before plan read.later (exchange_entry worker load ∷ histories number) (subst (IsLegalHistory plan) history (accounted.legal number within)) in
        let legal_lookup : IsLegalHistory plan (exchange_entry worker lookup ∷ read.earlier) =
        legal_before plan read.between (exchange_entry worker lookup ∷ read.earlier) (subst (IsLegalHistory plan) moment legal_load.1) in
        record {
          cell = record { shard = plan.number; id = held.0 };
          found = λ asked call.
              legal_lookup.0.step.replied ∙ ap (reply_of plan read.earlier (shard_after plan read.earlier)) call
              ∙ ap (lookup_reply plan) (same_cell (shard_after plan read.earlier) shard ∙ held.1);
          word = λ offset count call.
              legal_load.0.step.replied ∙ ap (reply_of plan (histories number) shard) call
              ∙ ap (λ (b : List ℕ). Word (number_of_bytes (take count (drop offset b)))) held.2;
          are_bytes = subst AreBytes held.2 (each_at shard.cells held.0 (legal_bytes plan (histories number) legal_load.1));
        }

  -- ---- the owner

  module _ (acts : List Action) (tables : AreTablesAtEnd size acts now) (is : IsRingSize size) (few_slots : size < 2 ^ 32) where
    -- the record of an owner has eight bytes
    record IsOwnersRecord (number : ℕ) : Type 0 where
      few : number < 256
      eight : length (backend_bytes (record_left number no_record acts)) ≡ 8

    owners_record : (up : List Server) → IsTable size up tables.owners → AllByRecursion (IsRecordedUp acts) up → (slot : ℕ) → slot < size → (number : ℕ) →
        owner_in (value_at now Ring (bytes_of_number 4 slot)) ≡ Some number → IsOwnersRecord number
    owners_record [] table all slot below number owner =
        let nobody_owns : owner_in (value_at now Ring (bytes_of_number 4 slot)) ≡ None =
        ap owner_in (tables.ring slot below ∙ ap (λ (l : List ℕ). Some (ring_bytes (record { owner = slice_get l slot }))) table) in
        absurd (let both : None ≡ Some number = sym nobody_owns ∙ owner in cc)
    owners_record (first ∷ up) table all slot below number owner =
        let has = owner_up size first up tables.owners table slot below in
        let one = found_one (IsRecordedUp acts) (has_number has.number) (first ∷ up) has.server has.found all in
        let at : has.server.number ≡ has.number = eqb-true has.server.number has.number one.0 in
        let few : has.number < 256 = subst (λ n. n < 256) at one.1.few in
        let owner_is : owner_in (value_at now Ring (bytes_of_number 4 slot)) ≡ Some has.number =
        ap owner_in (tables.ring slot below ∙ ap (λ (o : Option ℕ). Some (ring_bytes (record { owner = o }))) has.owner_is) ∙ owner_back has.number (omega (arith, few)) in
        let both : Some has.number ≡ Some number = sym owner_is ∙ owner in
        let same : has.number ≡ number = cc both in
        let address : length has.server.address.0 ≡ 4 = one.1.address in
        let whole : length (has.server.address.0 ++ bytes_of_number 4 1) ≡ length has.server.address.0 + 4 = length-append has.server.address.0 (bytes_of_number 4 1) in
        subst IsOwnersRecord same (record {
          few = few;
          eight = ap (λ (n : ℕ). length (backend_bytes (record_left n no_record acts))) (sym at)
              ∙ ap (λ r. length (backend_bytes r)) one.1.recorded
              ∙ omega (arith, whole, address);
        })

    module _ (captured : Sent) (vip : VipRecord) (tunnel : TunnelRecord) (exchanges : List Exchange) (verdict : Verdict) (left : FrameView)
        (ends : EndsByRule (of_size options.shards size) (input_frame captured.bytes.items) exchanges verdict left)
        (run : RunOfStranger size now (input_frame captured.bytes.items) vip tunnel worker exchanges) where
      abbrev sizes : SteeringSizes
      sizes = of_size options.shards size

      abbrev frame : FrameView
      frame = input_frame captured.bytes.items

      abbrev slot : ℕ
      slot = slot_of_flow size frame.bytes

      slot_below : slot < size
      slot_below = flow_slot size frame.bytes (some_slots size is)

      past : PastNote sizes frame vip tunnel (replies_in run.note)
      past = past_note sizes frame vip tunnel (replies_in run.note) run.no_note

      abbrev known_records : Records
      known_records = records_of vip tunnel past.tracked

      abbrev end_is : PlanEnding
      end_is = Ended verdict left

      abbrev past_lookup : List Exchange
      past_lookup = run.slot_load ∷ run.rest

      from_slot : plan_outcome (read_slot sizes frame known_records) (replies_in (run.slot_lookup ∷ past_lookup)) ≡ done (calls_in (run.slot_lookup ∷ past_lookup)) end_is
      from_slot =
          subst (λ (p : Plan). plan_outcome p (replies_in (run.slot_lookup ∷ past_lookup)) ≡ done (calls_in (run.slot_lookup ∷ past_lookup)) end_is) past.goes
          (goes_on (read_note sizes frame vip (records_of vip tunnel None)) run.note (run.slot_lookup ∷ past_lookup) end_is
          (subst (λ (p : Plan). plan_outcome p (replies_in (run.note ++ run.slot_lookup ∷ past_lookup)) ≡ done (calls_in (run.note ++ run.slot_lookup ∷ past_lookup)) end_is)
          (reached sizes frame vip tunnel (replies_in run.guards) run.reaches)
          (goes_on (steering sizes frame) run.guards (run.note ++ run.slot_lookup ∷ past_lookup) end_is
          (subst (λ (xs : List Exchange). plan_outcome (steering sizes frame) (replies_in xs) ≡ done (calls_in xs) end_is) run.exchanges_are ends.plan))))

      abbrev slot_bytes : List ℕ
      slot_bytes = ring_bytes (record { owner = slice_get tables.owners slot })

      slot_value : value_at now Ring (bytes_of_number 4 slot) ≡ Some slot_bytes
      slot_value = tables.ring slot slot_below

      slot_read : IsKeyRead (bytes_of_number 4 slot) slot_bytes run.slot_lookup run.slot_load
      slot_read =
          key_read Ring (ring_entries size) refl refl (omega arith) slot (omega (arith, few_slots, slot_below)) slot_bytes run.slot_lookup run.slot_load slot_value run.slot

      abbrev on_slot : ℕ → Plan
      on_slot word = read_owner sizes frame known_records (owner_of word)

      slot_found : run.slot_lookup.reply ≡ Cell slot_read.cell
      slot_found =
          slot_read.found (steering_shard sizes Ring (bytes_of_number 4 slot))
          (first_call (Lookup (steering_shard sizes Ring (bytes_of_number 4 slot)) (bytes_of_number 4 slot))
          (found_or (λ cell. read cell 0 4 on_slot) (finish sizes frame known_records)) run.slot_lookup past_lookup end_is from_slot)

      from_load : plan_outcome (read slot_read.cell 0 4 on_slot) (replies_in past_lookup) ≡ done (calls_in past_lookup) end_is
      from_load =
          subst (λ (reply : Reply). plan_outcome (plan_after (read_slot sizes frame known_records) (reply ∷ [])) (replies_in past_lookup) ≡ done (calls_in past_lookup) end_is) slot_found
          (goes_on (read_slot sizes frame known_records) (run.slot_lookup ∷ []) past_lookup end_is from_slot)

      slot_word : run.slot_load.reply ≡ Word (number_of_bytes (take 4 (drop 0 slot_bytes)))
      slot_word = slot_read.word 0 4 (first_call (Load slot_read.cell 0 4) (λ reply. on_slot (word_in reply)) run.slot_load run.rest end_is from_load)

      abbrev owner : Option ℕ
      owner = owner_in (value_at now Ring (bytes_of_number 4 slot))

      from_owner : plan_outcome (read_owner sizes frame known_records owner) (replies_in run.rest) ≡ done (calls_in run.rest) end_is
      from_owner =
          subst (λ (o : Option ℕ). plan_outcome (read_owner sizes frame known_records o) (replies_in run.rest) ≡ done (calls_in run.rest) end_is) (sym (ap owner_in slot_value))
          (subst (λ (reply : Reply). plan_outcome (plan_after (read slot_read.cell 0 4 on_slot) (reply ∷ [])) (replies_in run.rest) ≡ done (calls_in run.rest) end_is) slot_word
          (goes_on (read slot_read.cell 0 4 on_slot) (run.slot_load ∷ []) run.rest end_is from_load))

      -- what the run has read, and chooses
      record IsRead : Type 0 where
        owner_read : Option Assigned
        is_owner : owner_read ≡ owner_of_flow size now frame.bytes
        chosen : IsChosen sizes frame (record known_records { slot = owner_read }) verdict left

      read_by : ReadsOwner now worker owner run.rest → IsRead
      read_by (nobody none) = record {
        owner_read = None;
        is_owner = sym (ap (assigned_in now) none);
        chosen = finish_ends sizes frame known_records left verdict run.rest
            (subst (λ (o : Option ℕ). plan_outcome (read_owner sizes frame known_records o) (replies_in run.rest) ≡ done (calls_in run.rest) end_is) none from_owner);
      }
      read_by (somebody number owner_is lookup load last rest_is its_read) =
          let backend = owners_record (up_left [] acts) tables.table tables.up slot slot_below number owner_is in
          let few = backend.few in
          let bytes : List ℕ = backend_bytes (record_left number no_record acts) in
          let backend_key : List ℕ = bytes_of_number 4 number in
          let value : value_at now Backends backend_key ≡ Some bytes = tables.backends number few in
          let one = key_read Backends 256 refl refl (omega arith) number (omega (arith, few)) bytes lookup load value its_read in
          let on_assigned : Option _ → Plan = λ r. finish sizes frame (record known_records { slot = Some (record { number = number; «record» = r }) }) in
          let on_record : ℕ → Plan = λ word. on_assigned (Some (backend_of (bytes_of_number 8 word))) in
          let plan : Plan = read_backend sizes number (λ assigned. finish sizes frame (record known_records { slot = Some assigned })) in
          let from_backend : plan_outcome plan (replies_in (lookup ∷ load ∷ last)) ≡ done (calls_in (lookup ∷ load ∷ last)) end_is =
          subst (λ (xs : List Exchange). plan_outcome plan (replies_in xs) ≡ done (calls_in xs) end_is) rest_is
          (subst (λ (o : Option ℕ). plan_outcome (read_owner sizes frame known_records o) (replies_in run.rest) ≡ done (calls_in run.rest) end_is) owner_is from_owner) in
          let found : lookup.reply ≡ Cell one.cell =
          one.found (steering_shard sizes Backends backend_key)
          (first_call (Lookup (steering_shard sizes Backends backend_key) backend_key) (found_or (λ cell. read cell 0 8 on_record) (on_assigned None)) lookup (load ∷ last) end_is from_backend) in
          let from_record : plan_outcome (read one.cell 0 8 on_record) (replies_in (load ∷ last)) ≡ done (calls_in (load ∷ last)) end_is =
          subst (λ (reply : Reply). plan_outcome (plan_after plan (reply ∷ [])) (replies_in (load ∷ last)) ≡ done (calls_in (load ∷ last)) end_is) found
          (goes_on plan (lookup ∷ []) (load ∷ last) end_is from_backend) in
          let all_eight : take 8 (drop 0 bytes) ≡ bytes = (let eight = backend.eight in take_all 8 bytes (omega (arith, eight))) in
          let load_call : load.call ≡ Load one.cell 0 8 = first_call (Load one.cell 0 8) (λ reply. on_record (word_in reply)) load last end_is from_record in
          let first_word : load.reply ≡ Word (number_of_bytes (take 8 (drop 0 bytes))) = one.word 0 8 load_call in
          let word : load.reply ≡ Word (number_of_bytes bytes) = first_word ∙ ap (λ (l : List ℕ). Word (number_of_bytes l)) all_eight in
          let again : bytes_of_number 8 (number_of_bytes bytes) ≡ bytes =
          ap (λ (n : ℕ). bytes_of_number n (number_of_bytes bytes)) (sym backend.eight) ∙ bytes_again bytes one.are_bytes in
          let at_end : plan_outcome (on_assigned (Some (backend_of bytes))) (replies_in last) ≡ done (calls_in last) end_is =
          subst (λ (l : List ℕ). plan_outcome (on_assigned (Some (backend_of l))) (replies_in last) ≡ done (calls_in last) end_is) again
          (subst (λ (reply : Reply). plan_outcome (plan_after (read one.cell 0 8 on_record) (reply ∷ [])) (replies_in last) ≡ done (calls_in last) end_is) word
          (goes_on (read one.cell 0 8 on_record) (load ∷ []) last end_is from_record)) in
          record {
            owner_read = Some (record { number = number; «record» = Some (backend_of bytes) });
            is_owner =
                ◌∙◌ {b = assigned_in now (Some number)}
                (ap (λ (v : Option (List ℕ)). Some (record { number = number; «record» = option_map backend_of v })) (sym value))
                (sym (ap (assigned_in now) owner_is));
            chosen = finish_ends sizes frame (record known_records { slot = Some (record { number = number; «record» = Some (backend_of bytes) }) }) left verdict last at_end;
          }

      reads : IsRead
      reads = read_by run.owner

      abbrev all_records : Records
      all_records = record known_records { slot = reads.owner_read }

      -- the choice is that of a frame that is sent by no note, and the run ends with it
      chosen_by_table : IsChosenByTable size now frame vip tunnel verdict left
      chosen_by_table = record {
        choice = choice_in frame.bytes all_records;
        by_table = record {
          records = all_records;
          steered = follows_rule frame.bytes all_records;
          has_flow = run.reaches.has_flow;
          fits = run.reaches.fits;
          service = refl;
          set_up = run.reaches.is_ready;
          no_note = past.none;
          slot_read = reads.is_owner;
        };
        verdict_is = reads.chosen.verdict_is;
        left_is = reads.chosen.left_is;
      }

-- ---- all runs

module _ (follow : TablesFollow) (owners : OwnersAreSentTo) (notes size : ℕ) (is : IsRingSize size) (script : List Command) (options : Options) (records : List Sent)
    (outcome : Outcome) (plain : IsPlainReplay notes size script options records outcome) (commands : ℕ) (histories : ℕ → List Entry)
    (moment : IsMoment notes size script options records outcome plain commands histories) (worker : ℕ) where
  abbrev acts_then : List Action
  acts_then = carried_out outcome.refused.items 0 (take commands script)

  abbrev maps_then : MapsAt
  maps_then = record { journals = outcome.journals; histories = histories }

  tables_then : AreTablesAtEnd size acts_then maps_then
  tables_then = follow notes size is script options records outcome plain commands histories moment

  few_slots_then : size < 2 ^ 32
  few_slots_then =
      All-contains (λ n. n < 2 ^ 32) ring_sizes size (All-from_recursion (λ n. n < 2 ^ 32) ring_sizes (omega arith, (omega arith, (omega arith, (omega arith, tt))))) is

  abbrev shipped : Program
  shipped = shipped_program notes (of_size options.shards size)

  sent : (captured : Sent) (before : PassView) (end : RunEnd) (after : PassView)
      (run : IsRunIn plain.accounted.plan plain.accounted.count shipped worker outcome.journals captured before end after) →
      IsSteeredRun (of_size options.shards size) plain.accounted.plan plain.accounted.count shipped worker outcome.journals captured before end after run →
      SentIfStranger size (up_left [] acts_then) maps_then plain.accounted.plan plain.accounted.count shipped worker outcome.journals captured before end after run
  sent captured before Stopped after run steered = tt
  sent captured before (Exited steps fate) after run steered = λ vip tunnel stranger.
      let chosen = chosen_by_table notes size script options records outcome plain histories worker acts_then tables_then is few_slots_then captured vip tunnel
      run.run.exchanges run.verdict run.frame steered stranger in
      record {
        owners = tables_then.owners;
        table = tables_then.table;
        choice = chosen.choice;
        by_table = chosen.by_table;
        choice_is = owners size acts_then maps_then tables_then captured.bytes.items vip chosen.choice (some_slots size is) chosen.by_table;
        told = told_as captured run.verdict _ run.frame _ (Exited steps fate) chosen.verdict_is chosen.left_is run.told;
      }

pub strangers_are_sent : TablesFollow → OwnersAreSentTo → StrangersAreSent
strangers_are_sent follow owners notes size is script options records outcome plain steered commands histories moment worker below =
    let shipped : Program = shipped_program notes (of_size options.shards size) in
    each_weaker
    (λ (one : PlacedRun plain.accounted.plan plain.accounted.count shipped worker outcome.journals records).
    IsSteeredRun (of_size options.shards size) plain.accounted.plan plain.accounted.count shipped worker outcome.journals one.run.sent one.before
    one.ran.end one.after one.run.run)
    (λ (one : PlacedRun plain.accounted.plan plain.accounted.count shipped worker outcome.journals records).
    SentIfStranger size (up_left [] (carried_out outcome.refused.items 0 (take commands script)))
    (record { journals = outcome.journals; histories = histories }) plain.accounted.plan plain.accounted.count shipped worker outcome.journals
    one.run.sent one.before one.ran.end one.after one.run.run)
    (λ one is_steered. sent follow owners notes size is script options records outcome plain commands histories moment worker one.run.sent one.before
    one.ran.end one.after one.run.run is_steered)
    (runs_in_work (plain.accounted.work worker below)) (steered.by_rule worker below)

-- ---- two runs, before a `down` and behind it

pub strangers_move_between_runs : StrangersMoveBetweenRuns
strangers_move_between_runs size is script refused commands command number known down kept before after captured other vip tunnel its_tunnel end its_end one two same =
    let up : List Server = up_left [] (carried_out refused 0 (take commands script)) in
    let left : List Server = without_backend up number in
    let slot : ℕ = slot_of_flow size captured.bytes.items in
    let within : slot < size = flow_slot size captured.bytes.items (some_slots size is) in
    let next : commands + 1 ≡ suc commands = omega arith in
    let more : up_left [] (carried_out refused 0 (take (commands + 1) script)) ≡ left =
    ap (λ (count : ℕ). up_left [] (carried_out refused 0 (take count script))) next
    ∙ ap (up_left []) (one_more refused 0 script commands command known (ap (is_refused refused) (from_zero commands) ∙ kept))
    ∙ ap (λ (action : Action). up_left [] (carried_out refused 0 (take commands script) ++ action ∷ [])) down
    ∙ left_both [] (carried_out refused 0 (take commands script)) (Down number) in
    let table : IsTable size left two.owners = subst (λ (servers : List Server). IsTable size servers two.owners) more two.table in
    let owned = is_owned size up one.owners one.table slot within in
    let also = is_owned size left two.owners table slot within in
    let first : one.choice ≡ sent_to vip (server_of up (slice_get one.owners slot)) = one.choice_is in
    let second : two.choice ≡ sent_to vip (server_of left (slice_get two.owners slot)) =
    two.choice_is
    ∙ ap (λ (servers : List Server). sent_to vip (server_of servers (slice_get two.owners (slot_of_flow size other.bytes.items)))) more
    ∙ ap (λ (n : ℕ). sent_to vip (server_of left (slice_get two.owners n))) (ap (λ (flow : List ℕ). fnv1a64_of flow % size) same) in (
      λ equal. same_owner vip up left (slice_get one.owners slot) (slice_get two.owners slot) owned also (sym second ∙ equal ∙ first),
      λ equal.
          second ∙ ap (λ (o : Option ℕ). sent_to vip (server_of left o)) equal
          ∙ ap (sent_to vip) (same_server vip up number (slice_get one.owners slot) owned (subst (λ (o : Option ℕ). IsOwned left o (server_of left o)) equal also))
          ∙ sym first,
    )
