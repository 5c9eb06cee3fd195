-- The steering rule: what becomes of a frame, by the records that are in the maps. In this order: a frame without a flow, or for no
-- service, passes; one whose packet cannot go through the tunnel is dropped, as is any frame before the tunnel is set up; else the
-- backend that was noted for the flow gets it if that backend is up, and otherwise the owner of the flow's slot in the lookup table,
-- which is then noted; where that is not up either, the frame is dropped. The flows of a service without tracking are neither looked up
-- nor noted.
use Rattle.std.specs.Prelude.{◌≡◌, ℕ, Bool, true, false, not, ◌&&◌, nat_lt, nat_le, List, Option, Some, None, if◌then◌else◌}
use Rattle.std.specs.Option.{unwrap_or}
use Rattle.wire.specs.FrameView.{FrameView}
use Rattle.wire.specs.FlowForm.{HasFlow, flow_bytes_of}
use Rattle.semantics.specs.declared.verdict.Verdict.{Verdict}
use Rattle.semantics.specs.declared.verdict.Verdict.TheVariants as V
use Rattle.wire.specs.PlainIpv4.{total_length, time_to_live}
use Rattle.ipip.specs.Encapsulation.{encapsulated_frame}
use Rattle.wire.specs.declared.ethernet.Ipv4Address.{Ipv4Address}
use Rattle.ipip.specs.declared.ends.Tunnel.{Tunnel}
use Rattle.conntrack.specs.declared.records.VipRecord.{VipRecord}
use Rattle.conntrack.specs.declared.records.BackendRecord.{BackendRecord}
use Rattle.conntrack.specs.declared.records.TunnelRecord.{TunnelRecord}
use Rattle.conntrack.specs.declared.choosing.Assigned.{Assigned}
use Rattle.conntrack.specs.declared.choosing.Records.{Records}
use Rattle.conntrack.specs.declared.choosing.Choice.{Choice}
use Rattle.conntrack.specs.declared.choosing.Choice.TheVariants.{Pass, Drop, Tx}
use Rattle.conntrack.specs.Layouts.{flow_bytes}

-- ---- what can be chosen

-- the packet can go through the tunnel: it lives, and with the outer header it fits into 1500 bytes
abbrev pub fits_tunnel : List ℕ → Bool
fits_tunnel frame = nat_lt 0 (time_to_live frame) && nat_le (total_length frame) 1480

abbrev pub is_set_up : Option TunnelRecord → Bool
is_set_up (Some tunnel) = tunnel.is_ready
is_set_up None = false

-- this backend, where its record says that it is up
abbrev pub choice_if_up : ℕ → Bool → Option BackendRecord → Option Choice
choice_if_up number updates_flows (Some backend) = if backend.is_up then Some (Tx number backend.address updates_flows) else None
choice_if_up number updates_flows None = None

abbrev pub choice_of : Bool → Option Assigned → Option Choice
choice_of updates_flows (Some assigned) = choice_if_up assigned.number updates_flows assigned.record
choice_of updates_flows None = None

-- the backend that was noted for the flow
abbrev pub tracked_choice : VipRecord → Records → Option Choice
tracked_choice vip records = if vip.is_notrack then None else choice_of false records.tracked

-- the owner of the flow's slot in the lookup table, which is then noted
abbrev pub ring_choice : VipRecord → Records → Option Choice
ring_choice vip records = choice_of (not vip.is_notrack) records.slot

-- ---- the rule

abbrev pub choice_for_service : Bool → Records → Option VipRecord → Choice
choice_for_service fits records None = Pass
choice_for_service fits records (Some vip) =
    if not fits then Drop
    else (if not (is_set_up records.tunnel) then Drop
    else unwrap_or (tracked_choice vip records) (unwrap_or (ring_choice vip records) Drop))

pub record IsSteered (frame : List ℕ) (records : Records) (choice : Choice) : Type 0 where
  pub without_flow : ¬ HasFlow frame → choice ≡ Pass
  pub with_flow : HasFlow frame → choice ≡ choice_for_service (fits_tunnel frame) records records.vip

-- ---- what a choice comes to

abbrev pub verdict_of_choice : Choice → Verdict
verdict_of_choice Pass = V.Pass
verdict_of_choice Drop = V.Drop
verdict_of_choice (Tx number address updates_flows) = V.Tx

-- the tunnel to an address
abbrev pub tunnel_to : TunnelRecord → Ipv4Address → Tunnel
tunnel_to tunnel address =
    record { source = tunnel.source; target = address; source_mac = tunnel.source_mac; destination_mac = tunnel.destination_mac }

-- the frame that is sent or passed on: in the tunnel to the chosen backend, or as it came
abbrev pub steered_frame : TunnelRecord → Choice → FrameView → FrameView
steered_frame tunnel (Tx number address updates_flows) frame = encapsulated_frame (tunnel_to tunnel address) frame
steered_frame tunnel choice frame = frame

-- the same by the tunnel's record; without one nothing is sent
abbrev pub frame_after : Option TunnelRecord → Choice → FrameView → FrameView
frame_after (Some tunnel) choice frame = steered_frame tunnel choice frame
frame_after None choice frame = frame

-- what is put into the map of flows: under the flow's key, the chosen backend
abbrev pub flow_update : List ℕ → Choice → Option (List ℕ × List ℕ)
flow_update frame (Tx number address true) = Some (flow_bytes_of frame, flow_bytes (record { backend = number }))
flow_update frame choice = None

-- whose count is raised by one: the verdict's, by Linux's number of it
abbrev pub counted_verdict : Choice → ℕ
counted_verdict Drop = 1
counted_verdict Pass = 2
counted_verdict (Tx number address updates_flows) = 3
