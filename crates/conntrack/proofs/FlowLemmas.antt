-- A flow stays with the backend that was noted for it; and the service is looked up under the flow's key.
use Rattle.std.proofs.Common.{◌≡◌, ℕ, ◌++◌, Bool, true, false, not, List, [], ◌∷◌, sym, ap, ◌∙◌, length}
use Rattle.std.specs.Prelude.{Option, Some, None, if◌then◌else◌, replicate, take, drop}
use Rattle.std.specs.Option.{unwrap_or}
use Rattle.wire.specs.declared.flow.FlowKey.{FlowKey}
use Rattle.wire.specs.FlowBytes.{flow_key_bytes}
use Rattle.wire.specs.FlowForm.{flow_bytes_of}
use Rattle.wire.specs.FrameView.{FrameView}
use Rattle.semantics.specs.declared.call.CellRef.{CellRef}
use Rattle.semantics.specs.declared.call.Reply.{Reply}
use Rattle.semantics.specs.declared.call.Reply.TheVariants.{Cell, Word}
use Rattle.semantics.specs.LittleEndian.{bytes_of_number}
use Rattle.block_runs.specs.Plan.{Plan, either, plan_after}
use Rattle.conntrack.specs.declared.records.VipRecord.{VipRecord}
use Rattle.conntrack.specs.declared.records.BackendRecord.{BackendRecord}
use Rattle.conntrack.specs.declared.records.TunnelRecord.{TunnelRecord}
use Rattle.conntrack.specs.declared.choosing.Assigned.{Assigned}
use Rattle.conntrack.specs.declared.choosing.Records.{Records}
use Rattle.conntrack.specs.declared.choosing.Choice.{Choice}
use Rattle.conntrack.specs.declared.choosing.Choice.TheVariants as C
use Rattle.conntrack.specs.Layouts.{vip_of, flow_record_of, backend_of, tunnel_of, service_of, service_key}
use Rattle.conntrack.specs.SteeringRule.{fits_tunnel, tracked_choice, ring_choice}
use Rattle.conntrack.specs.Steering.{SteeringSizes, steering, ending, choice_in, has_flow, service_bytes_of, read_service, read_tunnel}
use Rattle.conntrack.specs.Steering.{read_note, read_slot, read_backend, unless_tracked, finish, no_records, record_of, read}
use Rattle.conntrack.specs.declared.steering_maps.SteeringMap.TheVariants.{Flows}
use Rattle.conntrack.specs.SteeringLaws.{FlowsStick, FindsNote, AsksForTheService}
use Rattle.conntrack.proofs.shared.RuleLemmas.{passes_test}

-- a test that is known
on_left : (test : Bool) (one other : Plan) (replies : List Reply) → test ≡ true → plan_after (either test one other) replies ≡ plan_after one replies
on_left test one other replies is = ap (λ t. plan_after (either t one other) replies) is

on_right : (test : Bool) (one other : Plan) (replies : List Reply) → test ≡ false → plan_after (either test one other) replies ≡ plan_after other replies
on_right test one other replies is = ap (λ t. plan_after (either t one other) replies) is

abbrev records_of : VipRecord → TunnelRecord → Option Assigned → Records
records_of vip tunnel tracked = record { vip = Some vip; tunnel = Some tunnel; tracked = tracked; slot = None }

abbrev assigned_to : ℕ → BackendRecord → Assigned
assigned_to number backend = record { number = number; «record» = Some backend }

abbrev noted : Bool → Bool → ℕ → BackendRecord → Option Choice
noted notrack up number backend = if notrack then None else (if up then Some (C.Tx number backend.address false) else None)

abbrev chosen : Bool → Bool → Bool → Option Choice → Choice → Choice
chosen flow fits ready tracked other = if flow then (if not fits then C.Drop else (if not ready then C.Drop else unwrap_or tracked other)) else C.Pass

tracked_is : (vip : VipRecord) (tunnel : TunnelRecord) (number : ℕ) (backend : BackendRecord) → vip.is_notrack ≡ false → backend.is_up ≡ true →
    tracked_choice vip (records_of vip tunnel (Some (assigned_to number backend))) ≡ Some (C.Tx number backend.address false)
tracked_is vip tunnel number backend tracks up = (λ i. noted (tracks i) (up i) number backend)

choice_is : (frame : List ℕ) (vip : VipRecord) (tunnel : TunnelRecord) (number : ℕ) (backend : BackendRecord) →
    has_flow frame ≡ true → fits_tunnel frame ≡ true → tunnel.is_ready ≡ true → vip.is_notrack ≡ false → backend.is_up ≡ true →
    choice_in frame (records_of vip tunnel (Some (assigned_to number backend))) ≡ C.Tx number backend.address false
choice_is frame vip tunnel number backend flow fits ready tracks up =
    (λ i. chosen (flow i) (fits i) (ready i) (noted (tracks i) (up i) number backend)
    (unwrap_or (ring_choice vip (records_of vip tunnel (Some (assigned_to number backend)))) C.Drop))

-- what is left once the tunnel is known to be ready, and once the flows are to be looked up
abbrev on_state : SteeringSizes → FrameView → VipRecord → CellRef → ℕ → Plan
on_state sizes frame vip cell state =
    read cell 0 8 (λ source. read cell 8 8 (λ macs.
    read_note sizes frame vip (records_of vip (tunnel_of (bytes_of_number 8 source ++ (bytes_of_number 8 macs ++ bytes_of_number 8 state))) None)))

abbrev on_note : SteeringSizes → FrameView → VipRecord → TunnelRecord → Plan
on_note sizes frame vip tunnel =
    record_of sizes Flows (flow_bytes_of frame.bytes)
    (λ word. read_backend sizes (flow_record_of (bytes_of_number 8 word)).backend (λ assigned.
    unless_tracked sizes frame (records_of vip tunnel (Some assigned)) (tracked_choice vip (records_of vip tunnel (Some assigned)))))
    (read_slot sizes frame (records_of vip tunnel None))

goes_on : (sizes : SteeringSizes) (frame : FrameView) (number : ℕ) (backend : BackendRecord) (tunnel : TunnelRecord) (replies : List Reply) →
    has_flow frame.bytes ≡ true → fits_tunnel frame.bytes ≡ true → tunnel.is_ready ≡ true → backend.is_up ≡ true →
    FindsNote tunnel number backend replies →
    plan_after (steering sizes frame) replies ≡ ending sizes frame (Some tunnel) (C.Tx number backend.address false)
goes_on sizes frame number backend tunnel replies flow fits ready up finds =
    let vip : VipRecord = vip_of (bytes_of_number 8 finds.flags) in
    let set : TunnelRecord = tunnel_of (bytes_of_number 8 finds.source ++ (bytes_of_number 8 finds.macs ++ bytes_of_number 8 finds.state)) in
    let note : ℕ = (flow_record_of (bytes_of_number 8 finds.note)).backend in
    let target : BackendRecord = backend_of (bytes_of_number 8 finds.word) in
    let ready_set : set.is_ready ≡ true = ap (λ (t : TunnelRecord). t.is_ready) (sym finds.tunnel_is) ∙ ready in
    let up_target : target.is_up ≡ true = ap (λ (b : BackendRecord). b.is_up) (sym finds.backend_is) ∙ up in
    let at_end : Records = records_of vip set (Some (assigned_to note target)) in
    let bare : TunnelRecord = tunnel_of (replicate 16 0 ++ bytes_of_number 8 finds.state) in
    let past_note : List Reply = Cell finds.note_cell ∷ Word finds.note ∷ Cell finds.backend_cell ∷ Word finds.word ∷ [] in
    let past_state : List Reply = Word finds.source ∷ Word finds.macs ∷ past_note in
    let past_flags : List Reply = Cell finds.tunnel_cell ∷ Word finds.state ∷ past_state in
    ap (plan_after (steering sizes frame)) finds.replies_are
    ∙ on_left (has_flow frame.bytes) (read_service sizes frame) (finish sizes frame no_records) (Cell finds.service_cell ∷ Word finds.flags ∷ past_flags) flow
    ∙ on_left (fits_tunnel frame.bytes) (read_tunnel sizes frame vip (record no_records { vip = Some vip })) (finish sizes frame (record no_records { vip = Some vip })) past_flags fits
    ∙ on_left bare.is_ready (on_state sizes frame vip finds.tunnel_cell finds.state) (finish sizes frame (records_of vip bare None)) past_state ready_set
    ∙ on_right vip.is_notrack (read_slot sizes frame (records_of vip set None)) (on_note sizes frame vip set) past_note finds.is_tracked
    ∙ ap (unless_tracked sizes frame at_end) (tracked_is vip set note target finds.is_tracked up_target)
    ∙ ap (ending sizes frame (Some set)) (choice_is frame.bytes vip set note target flow fits ready_set finds.is_tracked up_target)
    ∙ (λ i. ending sizes frame (Some (sym finds.tunnel_is i)) (C.Tx (sym finds.number_is i) (sym finds.backend_is i).address false))

pub flows_stick : FlowsStick
flows_stick sizes frame tunnel number backend replies flow fits ready up found_note =
    goes_on sizes frame number backend tunnel replies (passes_test frame.bytes flow) fits ready up found_note

-- ---- the service's key

abbrev key_bytes : List ℕ → List ℕ → FlowKey → List ℕ
key_bytes source destination flow = flow_key_bytes (record flow { source = record { 0 = source }; destination = record { 0 = destination } })

pub asks_for_the_service : AsksForTheService
asks_for_the_service frame flow four_source four_destination is = by flow.source.0 four_source flow.destination.0 four_destination is
  where
    by : (source : List ℕ) → length source ≡ 4 → (destination : List ℕ) → length destination ≡ 4 → key_bytes source destination flow ≡ flow_bytes_of frame →
        service_bytes_of frame ≡ service_key (service_of (record flow { destination = record { 0 = destination } }))
    by (a ∷ b ∷ c ∷ d ∷ []) long (e ∷ f ∷ g ∷ h ∷ []) short same =
        sym (ap (λ (bytes : List ℕ). take 4 (drop 4 bytes) ++ (take 2 (drop 10 bytes) ++ (take 1 (drop 12 bytes) ++ 0 ∷ []))) same)
    by _ long _ short same = absurd cc
