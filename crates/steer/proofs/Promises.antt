-- What is promised where the blocks of the shipped program begin: what a state is there, and what is still to be done.
use Rattle.std.proofs.Common.{◌≡◌, ℕ, ◌+◌, ◌*◌, ◌<◌, List, [], ◌∷◌, drop, pos}
use Rattle.std.specs.Prelude.{slice_index}
use Rattle.ebpf_decode.specs.declared.insn.Insn.{Insn}
use Rattle.wire.specs.FrameView.{FrameView}
use Rattle.wire.specs.Fnv.{fnv1a64_of}
use Rattle.wire.specs.FlowForm.{flow_bytes_of}
use Rattle.wire.specs.FlowBytes.{be_bytes}
use Rattle.wire.specs.PlainIpv4.{total_length, type_of_service}
use Rattle.steer.proofs.Tunnelling.{tunnelled_with}
use Rattle.block_runs.specs.Plan.{Plan, Ends}
use Rattle.steer.specs.PartStarts.{place, reg, with_r6, packet_start, any_stack, tunnel_stack, long_frame, IsLong, IsAtPart, FlowStart}
use Rattle.steer.specs.PartStarts.{VipStart, GuardsStart, TrackingStart, RingStart, TunnelStart, VerdictStart, CountStart}
use Rattle.block_runs.proofs.shared.Blocks.{Promise, Named, Arrives}
use Rattle.conntrack.specs.Steering.{SteeringSizes, counted_end}
use Rattle.steer.proofs.Conversation.{sent, by_ring, by_note, by_tunnel, by_service, steered}
use Rattle.semantics.specs.declared.verdict.Verdict.{Verdict}
use Rattle.semantics.specs.declared.verdict.Verdict.TheVariants as V
use Rattle.semantics.specs.LittleEndian.{bytes_of_number, number_of_bytes}
use Rattle.semantics.specs.RegisterValue.{Number, StackPointer, ContextPointer, PacketPointer}
use Rattle.semantics.specs.MachineState.{MachineState}
use Rattle.semantics.specs.Program.{Program}
use Rattle.semantics.specs.Semantics.{verdict_number}
use Rattle.conntrack.specs.SteeringMaps.{sized_maps}
use Rattle.steer.specs.ShippedProgram as B

-- ---- the program

abbrev pub program : ℕ → SteeringSizes → List Insn → Program
program notes setting code = record { code = code; maps = sized_maps notes setting.size; shards = setting.shards }

pub record AtEnd (setting : SteeringSizes) (state : MachineState) (plan : Plan) : Type 0 where
  pub verdict : Verdict
  pub slot : state.slot ≡ 217
  pub registers : state.registers ≡ with_r6 (Number (verdict_number verdict)) (reg state.registers 7) (reg state.registers 8) (reg state.registers 9) (reg state.registers)
  pub plan_is : plan ≡ Ends verdict state.frame

pub record AtCount (setting : SteeringSizes) (state : MachineState) (plan : Plan) : Type 0 where
  pub verdict : Verdict
  pub here : CountStart verdict state
  pub plan_is : plan ≡ counted_end setting verdict state.frame

-- the verdicts of frames that are not sent
pub record AtVerdict (start : ℕ) (verdict : Verdict) (setting : SteeringSizes) (state : MachineState) (plan : Plan) : Type 0 where
  pub here : VerdictStart start state
  pub plan_is : plan ≡ counted_end setting verdict state.frame

pub record AtTunnel (setting : SteeringSizes) (state : MachineState) (plan : Plan) : Type 0 where
  pub source : ℕ
  pub macs : ℕ
  pub backend : ℕ
  pub backend_fits : backend < 18446744073709551616
  pub here : TunnelStart source macs backend state
  pub plan_is : plan ≡ sent setting source macs backend state.frame

-- the new headers are written, all but the checksum
pub record AtChecksum (setting : SteeringSizes) (state : MachineState) (plan : Plan) : Type 0 where
  pub source : ℕ
  pub macs : ℕ
  pub backend : ℕ
  pub old : FrameView
  pub slot : state.slot ≡ 185
  pub registers : state.registers ≡ reg state.registers 0 ∷ PacketPointer 1 (pos 0) ∷ reg state.registers 2 ∷ reg state.registers 3
      ∷ Number (number_of_bytes (bytes_of_number 4 source)) ∷ reg state.registers 5 ∷ reg state.registers 6
      ∷ Number (number_of_bytes (be_bytes (total_length old.bytes + 20))) ∷ Number (69 + 256 * type_of_service old.bytes)
      ∷ Number (number_of_bytes (bytes_of_number 4 backend)) ∷ StackPointer (pos 0) ∷ []
  pub stack : state.stack ≡ any_stack (place state.stack)
  pub generation : state.generation ≡ 1
  pub frame : IsLong old
  pub first : ℕ
  pub second : ℕ
  pub frame_is : state.frame ≡ tunnelled_with (first ∷ second ∷ []) old source macs backend
  pub plan_is : plan ≡ sent setting source macs backend old

pub record AtRing (setting : SteeringSizes) (state : MachineState) (plan : Plan) : Type 0 where
  pub flags : ℕ
  pub source : ℕ
  pub macs : ℕ
  pub here :
      IsAtPart 122 (Number (fnv1a64_of (flow_bytes_of state.frame.bytes))
      ∷ drop 1 (with_r6 ContextPointer packet_start (Number flags) (reg state.registers 9) (reg state.registers)))
      (tunnel_stack (place state.stack) source macs (flow_bytes_of state.frame.bytes)) state
  pub plan_is : plan ≡ by_ring setting flags source macs state.frame

pub record AtHash (setting : SteeringSizes) (state : MachineState) (plan : Plan) : Type 0 where
  pub flags : ℕ
  pub source : ℕ
  pub macs : ℕ
  pub here : RingStart flags source macs state
  pub plan_is : plan ≡ by_ring setting flags source macs state.frame

pub record AtTracking (setting : SteeringSizes) (state : MachineState) (plan : Plan) : Type 0 where
  pub flags : ℕ
  pub source : ℕ
  pub macs : ℕ
  pub here : TrackingStart flags source macs state
  pub plan_is : plan ≡ by_note setting flags source macs state.frame

pub record AtGuards (setting : SteeringSizes) (state : MachineState) (plan : Plan) : Type 0 where
  pub flags : ℕ
  pub here : GuardsStart flags state
  pub plan_is : plan ≡ by_tunnel setting flags state.frame

pub record AtVip (setting : SteeringSizes) (state : MachineState) (plan : Plan) : Type 0 where
  pub here : VipStart state
  pub plan_is : plan ≡ by_service setting state.frame

pub record AtKey (setting : SteeringSizes) (state : MachineState) (plan : Plan) : Type 0 where
  pub here :
      IsAtPart 23 (reg state.registers 0 ∷ reg state.registers 1 ∷ reg state.registers 2 ∷ reg state.registers 3 ∷ Number (slice_index state.frame.bytes 23)
      ∷ reg state.registers 5 ∷ ContextPointer ∷ packet_start ∷ reg state.registers 8 ∷ Number (total_length state.frame.bytes) ∷ StackPointer (pos 0) ∷ [])
      (any_stack (place state.stack)) state
  pub plan_is : plan ≡ by_service setting state.frame

-- ---- the beginning

pub record AtFlow (setting : SteeringSizes) (state : MachineState) (plan : Plan) : Type 0 where
  pub here : FlowStart state
  pub plan_is : plan ≡ steered setting state.frame

-- ---- the blocks

pub data Part : Type 0 where
  Flow Key Vip Guards Tracking Hash Ring Tunnel Checksum Pass Drop Count End : Part

abbrev pub promise : SteeringSizes → Part → Promise
promise setting Flow = AtFlow setting
promise setting Key = AtKey setting
promise setting Vip = AtVip setting
promise setting Guards = AtGuards setting
promise setting Tracking = AtTracking setting
promise setting Hash = AtHash setting
promise setting Ring = AtRing setting
promise setting Tunnel = AtTunnel setting
promise setting Checksum = AtChecksum setting
promise setting Pass = AtVerdict 205 V.Pass setting
promise setting Drop = AtVerdict 207 V.Drop setting
promise setting Count = AtCount setting
promise setting End = AtEnd setting

-- by which slot a part begins
abbrev pub after_count : SteeringSizes → Promise
after_count setting = Arrives (promise setting) 217 ((End, B.end_block) ∷ [])

abbrev pub from_pass : SteeringSizes → List (Named Part)
from_pass setting = (Pass, B.pass_block) ∷ (Drop, B.drop_block) ∷ (Count, B.count_block) ∷ (End, B.end_block) ∷ []

abbrev pub from_checksum : SteeringSizes → List (Named Part)
from_checksum setting = (Checksum, B.checksum_block) ∷ from_pass setting

abbrev pub from_tunnel : SteeringSizes → List (Named Part)
from_tunnel setting = (Tunnel, B.tunnel_block) ∷ from_checksum setting

abbrev pub from_ring : SteeringSizes → List (Named Part)
from_ring setting = (Ring, B.ring_block setting.size) ∷ from_tunnel setting

abbrev pub from_hash : SteeringSizes → List (Named Part)
from_hash setting = (Hash, B.hash_block) ∷ from_ring setting

abbrev pub from_tracking : SteeringSizes → List (Named Part)
from_tracking setting = (Tracking, B.tracking_block) ∷ from_hash setting

abbrev pub from_guards : SteeringSizes → List (Named Part)
from_guards setting = (Guards, B.guards_block) ∷ from_tracking setting

abbrev pub from_vip : SteeringSizes → List (Named Part)
from_vip setting = (Vip, B.vip_block) ∷ from_guards setting

abbrev pub from_key : SteeringSizes → List (Named Part)
from_key setting = (Key, B.key_block) ∷ from_vip setting

abbrev pub from_flow : SteeringSizes → List (Named Part)
from_flow setting = (Flow, B.flow_block) ∷ from_key setting

abbrev pub came_in : (ℕ → ℕ) → List ℕ → FrameView
came_in byte rest = record { bytes = long_frame byte rest; headroom = 256 }

pub is_came_in : (frame : FrameView) → IsLong frame → frame ≡ came_in (slice_index frame.bytes) (drop 42 frame.bytes)
is_came_in frame long i = record { bytes = long.bytes i; headroom = long.headroom i }
