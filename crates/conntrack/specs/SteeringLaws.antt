-- Laws of the steering rule as a plan: its choice is the rule's, its finished runs are results of the rule, and a flow stays with its
-- backend.
use Rattle.std.specs.Prelude.{◌≡◌, ℕ, true, false, List, [], ◌∷◌, ◌++◌, length, Some}
use Rattle.wire.specs.declared.flow.FlowKey.{FlowKey}
use Rattle.wire.specs.FlowBytes.{flow_key_bytes}
use Rattle.wire.specs.FlowForm.{HasFlow, flow_bytes_of}
use Rattle.wire.specs.FrameView.{FrameView}
use Rattle.semantics.specs.declared.call.Call.{Call}
use Rattle.semantics.specs.declared.call.Call.TheVariants.{Store}
use Rattle.semantics.specs.declared.call.CellRef.{CellRef}
use Rattle.semantics.specs.declared.call.Reply.{Reply}
use Rattle.semantics.specs.declared.call.Reply.TheVariants.{Cell, Word}
use Rattle.semantics.specs.declared.verdict.Verdict.{Verdict}
use Rattle.semantics.specs.LittleEndian.{bytes_of_number}
use Rattle.map_port.specs.Exchanges.{Exchange, calls_in, replies_in}
use Rattle.block_runs.specs.Plan.{Ended, plan_outcome, plan_after}
use Rattle.conntrack.specs.declared.records.BackendRecord.{BackendRecord}
use Rattle.conntrack.specs.declared.records.TunnelRecord.{TunnelRecord}
use Rattle.conntrack.specs.declared.choosing.Records.{Records}
use Rattle.conntrack.specs.declared.choosing.Choice.TheVariants.{Tx}
use Rattle.conntrack.specs.Layouts.{service_of, service_key, vip_of, flow_record_of, backend_of, tunnel_of}
use Rattle.conntrack.specs.SteeringRule.{IsSteered, fits_tunnel}
use Rattle.conntrack.specs.Steering.{SteeringSizes, steering, ending, choice_in, service_bytes_of}
use Rattle.conntrack.specs.Results.{IsResult, count_lookup}

-- the plan chooses by the records that it has read as the rule does, for every frame and all records
abbrev pub PlanFollowsRule : Type 0
PlanFollowsRule = (frame : List ℕ) (records : Records) → IsSteered frame records (choice_in frame records)

-- the service is looked up under the key of the frame's flow
abbrev pub AsksForTheService : Type 0
AsksForTheService =
    (frame : List ℕ) (flow : FlowKey) → length flow.source.0 ≡ 4 → length flow.destination.0 ≡ 4 →
    flow_key_bytes flow ≡ flow_bytes_of frame → service_bytes_of frame ≡ service_key (service_of flow)

-- a run of the plan that is over is a result of the rule
abbrev pub FinishedRunsAreResults : Type 0
FinishedRunsAreResults =
    (sizes : SteeringSizes) (frame : FrameView) (exchanges : List Exchange) (verdict : Verdict) (left : FrameView) →
    plan_outcome (steering sizes frame) (replies_in exchanges) ≡ record { calls = calls_in exchanges; ending = Ended verdict left } →
    IsResult sizes frame exchanges verdict left

-- ---- wrong counts

-- the call is among the exchanges
pub record IsAskedAmong (call : Call) (exchanges : List Exchange) : Type 0 where
  pub front : List Exchange
  pub reply : Reply
  pub back : List Exchange
  pub place : exchanges ≡ front ++ (record { call = call; reply = reply }) ∷ back

-- a run that does not look its verdict's count up, as one that counts nothing where it drops, is no result of the rule
abbrev pub UncountedRunsAreNoResults : Type 0
UncountedRunsAreNoResults =
    (sizes : SteeringSizes) (frame : FrameView) (exchanges : List Exchange) (verdict : Verdict) (left : FrameView) →
    ¬ IsAskedAmong (count_lookup sizes verdict) exchanges → ¬ IsResult sizes frame exchanges verdict left

-- nor is a run that stores, as one that counts by a Load and a Store
abbrev pub StoringRunsAreNoResults : Type 0
StoringRunsAreNoResults =
    (sizes : SteeringSizes) (frame : FrameView) (exchanges : List Exchange) (verdict : Verdict) (left : FrameView)
    (cell : CellRef) (offset size value : ℕ) →
    IsAskedAmong (Store cell offset size value) exchanges → ¬ IsResult sizes frame exchanges verdict left

-- ---- sticky flows

-- by these replies a run has found its service, which is tracked, the tunnel's record, a backend noted for the flow, and that backend's
-- record
pub record FindsNote (tunnel : TunnelRecord) (number : ℕ) (backend : BackendRecord) (replies : List Reply) : Type 0 where
  pub service_cell : CellRef
  pub flags : ℕ
  pub tunnel_cell : CellRef
  pub state : ℕ
  pub source : ℕ
  pub macs : ℕ
  pub note_cell : CellRef
  pub note : ℕ
  pub backend_cell : CellRef
  pub word : ℕ
  pub replies_are :
      replies ≡
      Cell service_cell ∷ Word flags
      ∷ Cell tunnel_cell ∷ Word state ∷ Word source ∷ Word macs
      ∷ Cell note_cell ∷ Word note
      ∷ Cell backend_cell ∷ Word word ∷ []
  pub is_tracked : (vip_of (bytes_of_number 8 flags)).is_notrack ≡ false
  pub tunnel_is : tunnel ≡ tunnel_of (bytes_of_number 8 source ++ (bytes_of_number 8 macs ++ bytes_of_number 8 state))
  pub number_is : number ≡ (flow_record_of (bytes_of_number 8 note)).backend
  pub backend_is : backend ≡ backend_of (bytes_of_number 8 word)

-- a run that gets past the guards and finds a backend that is up noted for its flow sends the frame to that backend, and does not change
-- the note
abbrev pub FlowsStick : Type 0
FlowsStick =
    (sizes : SteeringSizes) (frame : FrameView) (tunnel : TunnelRecord) (number : ℕ) (backend : BackendRecord) (replies : List Reply) →
    HasFlow frame.bytes → fits_tunnel frame.bytes ≡ true → tunnel.is_ready ≡ true → backend.is_up ≡ true →
    FindsNote tunnel number backend replies →
    plan_after (steering sizes frame) replies ≡ ending sizes frame (Some tunnel) (Tx number backend.address false)
