-- The conversation that the blocks carry out agrees with what the steering rule makes of the records that were read.
use Rattle.std.proofs.Common.{◌≡◌, ℕ, zero, suc, ◌-◌, ◌^◌, ◌<◌, ◌==◌, ◌++◌, ◌&&◌, not, Bool, true, false, List, refl, sym, ap, subst}
use Rattle.std.proofs.Common.{arith, ◌∙◌, replicate}
use Rattle.std.specs.Prelude.{Option, Some, None, if◌then◌else◌, nat_lt}
use Rattle.std.specs.Option.{unwrap_or}
use Rattle.std.proofs.lemmas.Bool.Decides.{nat_tests}
use Rattle.ebpf_decode.specs.declared.map.MapKind.TheVariants.{Array, LruHash}
use Rattle.wire.specs.FrameView.{FrameView}
use Rattle.wire.specs.FlowForm.{flow_bytes_of}
use Rattle.wire.specs.PlainIpv4.{total_length, time_to_live}
use Rattle.semantics.specs.declared.call.Call.TheVariants.{Lookup, Update}
use Rattle.semantics.specs.declared.verdict.Verdict.TheVariants as V
use Rattle.semantics.specs.LittleEndian.{bytes_of_number}
use Rattle.semantics.specs.Program.{Program, shard_of_key}
use Rattle.ipip.specs.Encapsulation.{encapsulated_frame}
use Rattle.conntrack.specs.declared.records.VipRecord.{VipRecord}
use Rattle.conntrack.specs.declared.records.BackendRecord.{BackendRecord}
use Rattle.conntrack.specs.declared.records.TunnelRecord.{TunnelRecord}
use Rattle.conntrack.specs.declared.choosing.Assigned.{Assigned}
use Rattle.conntrack.specs.declared.choosing.Records.{Records}
use Rattle.conntrack.specs.declared.choosing.Choice.{Choice}
use Rattle.conntrack.specs.declared.choosing.Choice.TheVariants as C
use Rattle.conntrack.specs.Layouts.{vip_of, flow_record_of, backend_of, tunnel_of, owner_of}
use Rattle.conntrack.specs.SteeringRule.{fits_tunnel, tracked_choice, ring_choice, tunnel_to}
use Rattle.conntrack.specs.declared.steering_maps.SteeringMap.TheVariants as M
use Rattle.block_runs.specs.Plan.{Plan, Asks, either}
use Rattle.conntrack.specs.Steering.{SteeringSizes, look, read, record_of, counted_end, has_flow, steering, finish, ending, choice_in}
use Rattle.conntrack.specs.Steering.{no_records, read_service, pass_guard, read_tunnel, read_note, read_slot, read_owner, unless_tracked}
use Rattle.steer.proofs.Conversation.{dropped, sent, noted, by_ring, by_note, by_service, by_tunnel, steered, is_up, is_ready, is_notrack}
use Rattle.block_runs.proofs.shared.Agreement.{Agrees, agrees_same, agree_forks}
use Rattle.steer.proofs.RecordLemmas.{notrack_is, up_is, ready_is, note_key, fits_is, same_frame, note_bytes}

-- ---- the rule, where the flow is for a service, fits, and the tunnel is ready

all_of : Option VipRecord → Option TunnelRecord → Option Assigned → Option Assigned → Records
all_of vip tunnel tracked slot = record { vip = vip; tunnel = tunnel; tracked = tracked; slot = slot }

finish_is : (setting : SteeringSizes) (frame : FrameView) (records : Records) (choice : Choice) → choice_in frame.bytes records ≡ choice →
    finish setting frame records ≡ ending setting frame records.tunnel choice
finish_is setting frame records choice is = ap (ending setting frame records.tunnel) is

leaf : (program : Program) (setting : SteeringSizes) (frame : FrameView) (plan : Plan) (records : Records) (choice : Choice) → choice_in frame.bytes records ≡ choice →
    plan ≡ ending setting frame records.tunnel choice → Agrees program plan (finish setting frame records)
leaf program setting frame plan records choice is same = agrees_same program plan (finish setting frame records) (same ∙ sym (finish_is setting frame records choice is))

module _ (setting : SteeringSizes) (frame : FrameView) (program : Program) where
  -- what holds from the tunnel on
  pub record Served (vip : VipRecord) (tunnel : TunnelRecord) : Type 0 where
    pub flow : has_flow frame.bytes ≡ true
    pub fits : fits_tunnel frame.bytes ≡ true
    pub ready : tunnel.is_ready ≡ true

  abbrev by_rule : VipRecord → Records → Choice
  by_rule vip records = unwrap_or (tracked_choice vip records) (unwrap_or (ring_choice vip records) C.Drop)

  served_choice : (vip : VipRecord) (tunnel : TunnelRecord) (tracked slot : Option Assigned) → Served vip tunnel →
      choice_in frame.bytes (record { vip = Some vip; tunnel = Some tunnel; tracked = tracked; slot = slot })
      ≡ by_rule vip (record { vip = Some vip; tunnel = Some tunnel; tracked = tracked; slot = slot })
  served_choice vip tunnel tracked slot served =
      (λ i. if served.flow i then (if not (served.fits i) then C.Drop
      else (if not (served.ready i) then C.Drop else by_rule vip (record { vip = Some vip; tunnel = Some tunnel; tracked = tracked; slot = slot }))) else C.Pass)

  -- ---- the owner of the slot

  module _ (flags source macs state : ℕ) where
    abbrev pub vip : VipRecord
    vip = vip_of (bytes_of_number 8 flags)

    abbrev pub tunnel : TunnelRecord
    tunnel = tunnel_of (bytes_of_number 8 source ++ (bytes_of_number 8 macs ++ bytes_of_number 8 state))

    abbrev pub with_slot : Option Assigned → Option Assigned → Records
    with_slot tracked slot = record { vip = Some vip; tunnel = Some tunnel; tracked = tracked; slot = slot }

    -- nobody was noted who is up
    abbrev pub NotTracked : Option Assigned → Type 0
    NotTracked tracked = (slot : Option Assigned) → tracked_choice vip (with_slot tracked slot) ≡ None

    ring_rule : (tracked slot : Option Assigned) → Served vip tunnel → NotTracked tracked →
        choice_in frame.bytes (with_slot tracked slot) ≡ unwrap_or (ring_choice vip (with_slot tracked slot)) C.Drop
    ring_rule tracked slot served none =
        served_choice vip tunnel tracked slot served ∙ ap (λ c. unwrap_or c (unwrap_or (ring_choice vip (with_slot tracked slot)) C.Drop)) (none slot)

    abbrev owner_of_slot : ℕ → ℕ → Option Assigned
    owner_of_slot owner backend = Some (record { number = owner; «record» = Some (backend_of (bytes_of_number 8 backend)) })

    abbrev chosen : ℕ → ℕ → Bool → Bool → Choice
    chosen owner backend up updates = unwrap_or (if up then Some (C.Tx owner (backend_of (bytes_of_number 8 backend)).address updates) else None) C.Drop

    abbrev noted_as : List ℕ → Plan → Plan
    noted_as note onward = Asks (Update (shard_of_key 1 LruHash setting.shards (flow_bytes_of frame.bytes)) (flow_bytes_of frame.bytes) note 0) (λ reply. onward)

    pub sent_is : (backend : ℕ) → sent setting source macs backend frame ≡
        counted_end setting V.Tx (encapsulated_frame (tunnel_to tunnel (backend_of (bytes_of_number 8 backend)).address) frame)
    sent_is backend = ap (counted_end setting V.Tx) (sym (same_frame frame source macs state backend))

    ends_by : (tracked : Option Assigned) (owner backend : ℕ) → owner < 4294967296 → (up notrack : Bool) →
        choice_in frame.bytes (with_slot tracked (owner_of_slot owner backend)) ≡ unwrap_or (ring_choice vip (with_slot tracked (owner_of_slot owner backend))) C.Drop →
        (backend_of (bytes_of_number 8 backend)).is_up ≡ up → vip.is_notrack ≡ notrack →
        Agrees program
        (either up (either notrack (sent setting source macs backend frame) (noted setting owner frame (sent setting source macs backend frame))) (dropped setting frame))
        (finish setting frame (with_slot tracked (owner_of_slot owner backend)))
    ends_by tracked owner backend owner_small true true rule up notrack =
        leaf program setting frame _ (with_slot tracked (owner_of_slot owner backend)) _ (rule ∙ (λ i. chosen owner backend (up i) (not (notrack i)))) (sent_is backend)
    ends_by tracked owner backend owner_small true false rule up notrack =
        leaf program setting frame _ (with_slot tracked (owner_of_slot owner backend)) _ (rule ∙ (λ i. chosen owner backend (up i) (not (notrack i))))
        (λ i. noted_as (note_bytes owner owner_small i) (sent_is backend i))
    ends_by tracked owner backend owner_small false notrack rule up is =
        leaf program setting frame _ (with_slot tracked (owner_of_slot owner backend)) _ (rule ∙ (λ i. chosen owner backend (up i) (not vip.is_notrack))) refl

    -- the ends that a backend's record decides
    backend_ends : (tracked : Option Assigned) (owner backend : ℕ) → Served vip tunnel → NotTracked tracked → owner < 4294967296 → backend < 256 ^ 8 →
        Agrees program
        (either (is_up backend)
        (either (is_notrack flags) (sent setting source macs backend frame) (noted setting owner frame (sent setting source macs backend frame)))
        (dropped setting frame))
        (finish setting frame (with_slot tracked (owner_of_slot owner backend)))
    backend_ends tracked owner backend served none owner_small small =
        ends_by tracked owner backend owner_small (is_up backend) (is_notrack flags) (ring_rule tracked (owner_of_slot owner backend) served none)
        (sym (up_is backend small)) (sym (notrack_is flags))

    -- the slot's owner has no record
    no_backend : (tracked : Option Assigned) (owner : ℕ) → Served vip tunnel → NotTracked tracked →
        Agrees program (dropped setting frame) (finish setting frame (with_slot tracked (Some (record { number = owner; «record» = None }))))
    no_backend tracked owner served none = leaf program setting frame _ (with_slot tracked (Some (record { number = owner; «record» = None }))) _ (ring_rule tracked (Some (record { number = owner; «record» = None })) served none) refl

    no_owner : (tracked : Option Assigned) → Served vip tunnel → NotTracked tracked → Agrees program (dropped setting frame) (finish setting frame (with_slot tracked None))
    no_owner tracked served none = leaf program setting frame _ (with_slot tracked None) _ (ring_rule tracked None served none) refl

    -- the slot's word
    after_slot : (tracked : Option Assigned) (word : ℕ) → Served vip tunnel → NotTracked tracked → word < 256 ^ 4 →
        Agrees program
        (either (word == 0) (dropped setting frame)
        (record_of setting M.Backends (bytes_of_number 4 (word - 1)) (λ backend.
        either (is_up backend)
        (either (is_notrack flags) (sent setting source macs backend frame) (noted setting (word - 1) frame (sent setting source macs backend frame)))
        (dropped setting frame))
        (dropped setting frame)))
        (read_owner setting frame (with_slot tracked None) (owner_of word))
    after_slot tracked zero served none small = no_owner tracked served none
    after_slot tracked (suc owner) served none small =
        let some : (suc owner == 0) ≡ false = grind (arith, nat_tests) in
        let less : owner ≡ suc owner - 1 = omega arith in
        let owner_small : owner < 4294967296 = omega arith in
        subst (λ (t : Bool). Agrees program (either t (dropped setting frame) (owned (suc owner - 1))) (read_owner setting frame (with_slot tracked None) (Some owner))) (sym some)
        (subst (λ n. Agrees program (owned n) (read_owner setting frame (with_slot tracked None) (Some owner))) less
        (refl, ((λ id. (refl, λ backend fits. backend_ends tracked owner backend served none owner_small fits)), no_backend tracked owner served none)))
      where
        owned : ℕ → Plan
        owned number = record_of setting M.Backends (bytes_of_number 4 number) (λ backend.
            either (is_up backend)
            (either (is_notrack flags) (sent setting source macs backend frame) (noted setting number frame (sent setting source macs backend frame)))
            (dropped setting frame))
            (dropped setting frame)

    pub ring_agrees : (tracked : Option Assigned) → Served vip tunnel → NotTracked tracked →
        Agrees program (by_ring setting flags source macs frame) (read_slot setting frame (with_slot tracked None))
    ring_agrees tracked served none =
        (refl, ((λ id. (refl, λ word fits. after_slot tracked word served none fits)), no_owner tracked served none))

    -- ---- the backend that was noted

    abbrev as_noted : ℕ → Option BackendRecord → Option Assigned
    as_noted note backend = Some (record { number = (flow_record_of (bytes_of_number 8 note)).backend; «record» = backend })

    abbrev if_tracked : Bool → Option Choice → Option Choice
    if_tracked notrack choice = if notrack then None else choice

    -- where nobody is up there, the slot's owner is asked
    to_ring : (tracked : Option Assigned) → Served vip tunnel → NotTracked tracked →
        Agrees program (by_ring setting flags source macs frame)
        (unless_tracked setting frame (with_slot tracked None) (tracked_choice vip (with_slot tracked None)))
    to_ring tracked served none =
        subst (λ (c : Option Choice). Agrees program (by_ring setting flags source macs frame) (unless_tracked setting frame (with_slot tracked None) c)) (sym (none None))
        (ring_agrees tracked served none)

    noted_by : (note backend : ℕ) → Served vip tunnel → vip.is_notrack ≡ false → (up : Bool) → (backend_of (bytes_of_number 8 backend)).is_up ≡ up →
        Agrees program (either up (sent setting source macs backend frame) (by_ring setting flags source macs frame))
        (unless_tracked setting frame (with_slot (as_noted note (Some (backend_of (bytes_of_number 8 backend)))) None)
        (tracked_choice vip (with_slot (as_noted note (Some (backend_of (bytes_of_number 8 backend)))) None)))
    noted_by note backend served tracks false up =
        to_ring (as_noted note (Some (backend_of (bytes_of_number 8 backend)))) served
        (λ slot. (λ i. if_tracked (tracks i) (if up i then Some (C.Tx (flow_record_of (bytes_of_number 8 note)).backend (backend_of (bytes_of_number 8 backend)).address false) else None)))
    noted_by note backend served tracks true up =
        let tracked : tracked_choice vip (with_slot (as_noted note (Some (backend_of (bytes_of_number 8 backend)))) None)
        ≡ Some (C.Tx (flow_record_of (bytes_of_number 8 note)).backend (backend_of (bytes_of_number 8 backend)).address false) =
        (λ i. if_tracked (tracks i) (if up i then Some (C.Tx (flow_record_of (bytes_of_number 8 note)).backend (backend_of (bytes_of_number 8 backend)).address false) else None)) in
        subst (λ (c : Option Choice). Agrees program (sent setting source macs backend frame)
        (unless_tracked setting frame (with_slot (as_noted note (Some (backend_of (bytes_of_number 8 backend)))) None) c)) (sym tracked)
        (leaf program setting frame _ (with_slot (as_noted note (Some (backend_of (bytes_of_number 8 backend)))) None) _
        (served_choice vip tunnel (as_noted note (Some (backend_of (bytes_of_number 8 backend)))) None served
        ∙ ap (λ c. unwrap_or c (unwrap_or (ring_choice vip (with_slot (as_noted note (Some (backend_of (bytes_of_number 8 backend)))) None)) C.Drop)) tracked)
        (sent_is backend))

    pub note_agrees : Served vip tunnel → Agrees program (by_note setting flags source macs frame) (read_note setting frame vip (with_slot None None))
    note_agrees served =
        agree_forks program (is_notrack flags) vip.is_notrack _ _ _ _ (notrack_is flags)
        (λ notrack. ring_agrees None served (λ slot. ap (λ t. if_tracked t None) notrack))
        (λ tracks. (
          refl,
          (
            (λ id. (
              refl,
              λ note fits. (
                ap (λ key. Lookup (shard_of_key 3 Array setting.shards key) key) (note_key note),
                (
                  (λ id. (refl, λ backend fits. noted_ends note backend served tracks fits)),
                  to_ring (as_noted note None) served (λ slot. ap (λ t. if_tracked t None) tracks),
                ),
              ),
            )),
            ring_agrees None served (λ slot. ap (λ t. if_tracked t None) tracks),
          ),
        ))
      where
        noted_ends : (note backend : ℕ) → Served vip tunnel → vip.is_notrack ≡ false → backend < 256 ^ 8 →
            Agrees program (either (is_up backend) (sent setting source macs backend frame) (by_ring setting flags source macs frame))
            (unless_tracked setting frame (with_slot (as_noted note (Some (backend_of (bytes_of_number 8 backend)))) None)
            (tracked_choice vip (with_slot (as_noted note (Some (backend_of (bytes_of_number 8 backend)))) None)))
        noted_ends note backend served tracks small = noted_by note backend served tracks (is_up backend) (sym (up_is backend small))

  -- ---- the tunnel

  abbrev pub vip_by : ℕ → VipRecord
  vip_by flags = vip_of (bytes_of_number 8 flags)

  abbrev with_vip : ℕ → Option TunnelRecord → Records
  with_vip flags tunnel = record { vip = Some (vip_by flags); tunnel = tunnel; tracked = None; slot = None }

  abbrev by_guards : Bool → Bool → Bool → Choice → Choice
  by_guards flow fits ready choice = if flow then (if not fits then C.Drop else (if not ready then C.Drop else choice)) else C.Pass

  tunnel_agrees : (flags : ℕ) → has_flow frame.bytes ≡ true → fits_tunnel frame.bytes ≡ true →
      Agrees program
      (look setting M.Ctl (bytes_of_number 4 0) (λ cell. read cell 16 8 (λ state.
      either (is_ready state)
      (read cell 0 8 (λ source. read cell 8 8 (λ macs. by_note setting flags source macs frame)))
      (dropped setting frame)))
      (dropped setting frame))
      (read_tunnel setting frame (vip_by flags) (with_vip flags None))
  tunnel_agrees flags flow fits = (
    refl,
    (
      (λ id. (
        refl,
        λ state state_fits. agree_forks program (is_ready state) (tunnel_of (replicate 16 0 ++ bytes_of_number 8 state)).is_ready _ _ _ _
            (ready_is (replicate 16 0) state refl)
            (λ ready. (refl, λ source source_fits. (refl, λ macs macs_fits. note_agrees flags source macs state (record { flow = flow; fits = fits; ready = ready }))))
            (λ not_ready. leaf program setting frame _ (with_vip flags (Some (tunnel_of (replicate 16 0 ++ bytes_of_number 8 state)))) C.Drop
            (λ i. by_guards (flow i) (fits i) (not_ready i)
            (by_rule (vip_by flags) (with_vip flags (Some (tunnel_of (replicate 16 0 ++ bytes_of_number 8 state)))))) refl),
      )),
      leaf program setting frame _ (with_vip flags None) C.Drop (λ i. by_guards (flow i) (fits i) false (by_rule (vip_by flags) (with_vip flags None))) refl,
    ),
  )

  -- ---- the service, and the whole

  guards_by : (dead long fits : Bool) (drop go other_drop other_go : Plan) → fits ≡ (not dead && not long) →
      (fits ≡ true → Agrees program go other_go) → (fits ≡ false → Agrees program drop other_drop) →
      Agrees program (either dead drop (either long drop go)) (either fits other_go other_drop)
  guards_by true long true drop go other_drop other_go is on_fit on_none = absurd cc
  guards_by true long false drop go other_drop other_go is on_fit on_none = on_none refl
  guards_by false true true drop go other_drop other_go is on_fit on_none = absurd cc
  guards_by false true false drop go other_drop other_go is on_fit on_none = on_none refl
  guards_by false false true drop go other_drop other_go is on_fit on_none = on_fit refl
  guards_by false false false drop go other_drop other_go is on_fit on_none = absurd cc

  pub guard_agrees : (flags : ℕ) → has_flow frame.bytes ≡ true → Agrees program (by_tunnel setting flags frame) (pass_guard setting frame (vip_by flags))
  guard_agrees flags flow =
      guards_by (time_to_live frame.bytes == 0) (nat_lt 1480 (total_length frame.bytes)) (fits_tunnel frame.bytes) _ _ _ _ (fits_is frame.bytes)
      (λ fits. tunnel_agrees flags flow fits)
      (λ unfit. leaf program setting frame _ (with_vip flags None) C.Drop (λ i. by_guards (flow i) (unfit i) false (by_rule (vip_by flags) (with_vip flags None))) refl)

  pub service_agrees : has_flow frame.bytes ≡ true → Agrees program (by_service setting frame) (read_service setting frame)
  service_agrees flow = (
    refl,
    (
      (λ id. (refl, λ flags flags_fit. guard_agrees flags flow)),
      leaf program setting frame _ no_records C.Pass (ap (λ t. if t then C.Pass else C.Pass) flow) refl,
    ),
  )

  pub steering_agrees : Agrees program (steered setting frame) (steering setting frame)
  steering_agrees =
      agree_forks program (has_flow frame.bytes) (has_flow frame.bytes) _ _ _ _ refl
      (λ flow. service_agrees flow)
      (λ none. leaf program setting frame _ no_records C.Pass (ap (λ t. if t then C.Pass else C.Pass) none) refl)
