-- The shares of the program's seven parts in the steering rule: from a part's start on, the program does what is left there of the rule's
-- plan. So a part's own share is what its plan asks and decides before it comes to the plan of the next part.
use Rattle.std.specs.Prelude.{◌≡◌, ℕ, ◌<◌, ◌^◌, ◌++◌, true, List, Option, Some, None}
use Rattle.ebpf_decode.specs.InstructionEncoding.{total_slots}
use Rattle.wire.specs.FlowForm.{HasFlow}
use Rattle.maglev.specs.RingSize.{IsRingSize}
use Rattle.semantics.specs.declared.verdict.Verdict.{Verdict}
use Rattle.semantics.specs.declared.verdict.Verdict.TheVariants as V
use Rattle.semantics.specs.LittleEndian.{bytes_of_number}
use Rattle.semantics.specs.MachineState.{MachineState}
use Rattle.ipip.specs.Encapsulation.{encapsulated_frame}
use Rattle.block_runs.specs.Plan.{Plan, Does}
use Rattle.conntrack.specs.declared.records.VipRecord.{VipRecord}
use Rattle.conntrack.specs.declared.records.TunnelRecord.{TunnelRecord}
use Rattle.conntrack.specs.declared.choosing.Assigned.{Assigned}
use Rattle.conntrack.specs.declared.choosing.Records.{Records}
use Rattle.conntrack.specs.Layouts.{vip_of, backend_of, tunnel_of}
use Rattle.conntrack.specs.SteeringRule.{fits_tunnel, tracked_choice, tunnel_to}
use Rattle.conntrack.specs.Steering.{SteeringSizes, steering, read_service, pass_guard, read_note, read_slot, counted_end}
use Rattle.steer.specs.SteeringLaws.{shipped_program}
use Rattle.steer.specs.PartStarts.{FlowStart, VipStart, GuardsStart, TrackingStart, RingStart, TunnelStart, VerdictStart, CountStart}

-- from this state the shipped program, over a flow table of so many notes, does the plan, in at most as many instructions as it has slots
abbrev pub DoesFrom : ℕ → SteeringSizes → MachineState → Plan → Type 0
DoesFrom notes setting state plan = Does (total_slots (shipped_program notes setting).code) (shipped_program notes setting) state plan

-- ---- the records, by the words in which they were read

abbrev pub vip_in : ℕ → VipRecord
vip_in flags = vip_of (bytes_of_number 8 flags)

abbrev pub tunnel_in : ℕ → ℕ → ℕ → TunnelRecord
tunnel_in source macs word = tunnel_of (bytes_of_number 8 source ++ (bytes_of_number 8 macs ++ bytes_of_number 8 word))

abbrev pub records_of_words : ℕ → ℕ → ℕ → ℕ → Option Assigned → Records
records_of_words flags source macs word tracked =
    record { vip = Some (vip_in flags); tunnel = Some (tunnel_in source macs word); tracked = tracked; slot = None }

-- the frame has a flow and can go through the tunnel, which is set up
pub record IsPastGuards (frame : List ℕ) (tunnel : TunnelRecord) : Type 0 where
  pub flow : HasFlow frame
  pub fits : fits_tunnel frame ≡ true
  pub ready : tunnel.is_ready ≡ true

-- ---- the parts

-- flow: does the frame have one? Else it passes
abbrev pub FlowDoesItsPart : Type 0
FlowDoesItsPart =
    (notes : ℕ) (setting : SteeringSizes) → IsRingSize setting.size → (state : MachineState) → FlowStart state →
    DoesFrom notes setting state (steering setting state.frame)

-- vip: is the flow for a service? Else it passes
abbrev pub VipDoesItsPart : Type 0
VipDoesItsPart =
    (notes : ℕ) (setting : SteeringSizes) → IsRingSize setting.size → (state : MachineState) → VipStart state → HasFlow state.frame.bytes →
    DoesFrom notes setting state (read_service setting state.frame)

-- guards: can the packet be tunnelled, and is the tunnel set up? Else it is dropped
abbrev pub GuardsDoTheirPart : Type 0
GuardsDoTheirPart =
    (notes : ℕ) (setting : SteeringSizes) → IsRingSize setting.size → (flags : ℕ) (state : MachineState) → GuardsStart flags state →
    HasFlow state.frame.bytes →
    DoesFrom notes setting state (pass_guard setting state.frame (vip_in flags))

-- tracking: the backend that was noted for the flow, if it is up and the service is tracked
abbrev pub TrackingDoesItsPart : Type 0
TrackingDoesItsPart =
    (notes : ℕ) (setting : SteeringSizes) → IsRingSize setting.size → (flags source macs word : ℕ) (state : MachineState) →
    TrackingStart flags source macs state → IsPastGuards state.frame.bytes (tunnel_in source macs word) →
    DoesFrom notes setting state (read_note setting state.frame (vip_in flags) (records_of_words flags source macs word None))

-- ring: the owner of the flow's slot, where no noted backend gets the frame
abbrev pub RingDoesItsPart : Type 0
RingDoesItsPart =
    (notes : ℕ) (setting : SteeringSizes) → IsRingSize setting.size → (flags source macs word : ℕ) (tracked : Option Assigned)
    (state : MachineState) →
    RingStart flags source macs state → IsPastGuards state.frame.bytes (tunnel_in source macs word) →
    tracked_choice (vip_in flags) (records_of_words flags source macs word tracked) ≡ None →
    DoesFrom notes setting state (read_slot setting state.frame (records_of_words flags source macs word tracked))

-- tunnel: the frame goes into the tunnel to the chosen backend, and is sent
abbrev pub TunnelDoesItsPart : Type 0
TunnelDoesItsPart =
    (notes : ℕ) (setting : SteeringSizes) → IsRingSize setting.size → (source macs word backend : ℕ) → backend < 2 ^ 64 →
    (state : MachineState) →
    TunnelStart source macs backend state →
    DoesFrom notes setting state (counted_end setting V.Tx
    (encapsulated_frame (tunnel_to (tunnel_in source macs word) (backend_of (bytes_of_number 8 backend)).address) state.frame))

-- count: the verdict's count is raised, and the run ends with it
abbrev pub CountDoesItsPart : Type 0
CountDoesItsPart =
    (notes : ℕ) (setting : SteeringSizes) → IsRingSize setting.size → (verdict : Verdict) (state : MachineState) →
    CountStart verdict state →
    DoesFrom notes setting state (counted_end setting verdict state.frame)

-- count, at the block for frames that pass
abbrev pub PassIsCounted : Type 0
PassIsCounted =
    (notes : ℕ) (setting : SteeringSizes) → IsRingSize setting.size → (state : MachineState) → VerdictStart 205 state →
    DoesFrom notes setting state (counted_end setting V.Pass state.frame)

-- count, at the block for frames that are dropped
abbrev pub DropIsCounted : Type 0
DropIsCounted =
    (notes : ℕ) (setting : SteeringSizes) → IsRingSize setting.size → (state : MachineState) → VerdictStart 207 state →
    DoesFrom notes setting state (counted_end setting V.Drop state.frame)
