-- Where the seven parts of the shipped program begin, and what the state is there: the slot, the registers, the stack and the frame. A
-- register or a byte of the stack that a part does not read may be anything. R6 has the context, R7 the packet's start, R8 the service's
-- flags, R9 the packet's length and later the chosen backend's record, R10 the stack's upper end. The stack's last sixteen bytes have the
-- flow's key.
use Rattle.std.specs.Prelude.{◌≡◌, ◌≤◌, ◌<◌, ℕ, zero, suc, ◌+◌, ◌++◌, List, [], ◌∷◌, drop, length, pos, replicate, slice_index}
use Rattle.std.specs.Prelude.{slice_index_or}
use Rattle.wire.specs.FrameView.{FrameView}
use Rattle.wire.specs.FlowForm.{flow_bytes_of}
use Rattle.wire.specs.PlainIpv4.{total_length}
use Rattle.semantics.specs.declared.verdict.Verdict.{Verdict}
use Rattle.semantics.specs.LittleEndian.{bytes_of_number}
use Rattle.semantics.specs.RegisterValue.{RegisterValue, Uninitialized, Number, StackPointer, ContextPointer, PacketPointer}
use Rattle.semantics.specs.MachineState.{MachineState, StackByte, Unwritten, initial_registers}
use Rattle.semantics.specs.Memory.{as_written}
use Rattle.semantics.specs.Semantics.{verdict_number}
use Rattle.conntrack.specs.Steering.{service_bytes_of}

-- ---- lists whose places are named

-- N places, from a number on
abbrev pub cells : {A : Type 0} → ℕ → ℕ → (ℕ → A) → List A
cells from zero cell = []
cells from (suc count) cell = cell from ∷ cells (from + 1) count cell

abbrev pub place : List StackByte → ℕ → StackByte
place stack n = slice_index_or stack n Unwritten

abbrev pub reg : List RegisterValue → ℕ → RegisterValue
reg registers n = slice_index_or registers n Uninitialized

-- ---- registers

-- R6 to R9 are these, and R10 is the stack's upper end
abbrev pub with_r6 : RegisterValue → RegisterValue → RegisterValue → RegisterValue → (ℕ → RegisterValue) → List RegisterValue
with_r6 six seven eight nine r = r 0 ∷ r 1 ∷ r 2 ∷ r 3 ∷ r 4 ∷ r 5 ∷ six ∷ seven ∷ eight ∷ nine ∷ StackPointer (pos 0) ∷ []

abbrev pub packet_start : RegisterValue
packet_start = PacketPointer 0 (pos 0)

-- ---- stacks

abbrev pub any_stack : (ℕ → StackByte) → List StackByte
any_stack place = cells 0 512 place

-- at -16 the flow's key
abbrev pub flow_stack : (ℕ → StackByte) → List ℕ → List StackByte
flow_stack place flow = cells 0 496 place ++ as_written flow

-- at -24 the service's key
abbrev pub service_stack : (ℕ → StackByte) → List ℕ → List ℕ → List StackByte
service_stack place service flow = cells 0 488 place ++ (as_written service ++ as_written flow)

-- at -48 the first two words of the tunnel's record
abbrev pub tunnel_stack : (ℕ → StackByte) → ℕ → ℕ → List ℕ → List StackByte
tunnel_stack place source macs flow =
    cells 0 464 place
    ++ (as_written (bytes_of_number 8 source) ++ (as_written (bytes_of_number 8 macs) ++ (cells 480 16 place ++ as_written flow)))

-- ---- frames

abbrev pub long_frame : (ℕ → ℕ) → List ℕ → List ℕ
long_frame byte rest = cells 0 42 byte ++ rest

-- the frame is as it came in, of at least 42 bytes
pub record IsLong (frame : FrameView) : Type 0 where
  pub bytes : frame.bytes ≡ long_frame (slice_index frame.bytes) (drop 42 frame.bytes)
  pub headroom : frame.headroom ≡ 256
  pub are_bytes : (n : ℕ) → slice_index frame.bytes n < 256
  pub short : total_length frame.bytes ≤ 2034

-- ---- states

-- a run that has read the frame's headers, and has not moved it
pub record IsAtPart (start : ℕ) (known : List RegisterValue) (written : List StackByte) (state : MachineState) : Type 0 where
  pub slot : state.slot ≡ start
  pub registers : state.registers ≡ known
  pub stack : state.stack ≡ written
  pub generation : state.generation ≡ 0
  pub frame : IsLong state.frame

-- a run that has its verdict
pub record IsDecided (start : ℕ) (known : List RegisterValue) (state : MachineState) : Type 0 where
  pub slot : state.slot ≡ start
  pub registers : state.registers ≡ known
  pub stack : state.stack ≡ any_stack (place state.stack)

-- ---- the parts

-- the beginning of a run, on a frame that came in
pub record FlowStart (state : MachineState) : Type 0 where
  pub slot : state.slot ≡ 0
  pub registers : state.registers ≡ initial_registers
  pub stack : state.stack ≡ replicate 512 Unwritten
  pub generation : state.generation ≡ 0
  pub headroom : state.frame.headroom ≡ 256
  pub most : length state.frame.bytes ≤ 2048
  pub are_bytes : (n : ℕ) → slice_index state.frame.bytes n < 256

abbrev pub VipStart : MachineState → Type 0
VipStart state =
    IsAtPart 34 (with_r6 ContextPointer packet_start (reg state.registers 8) (Number (total_length state.frame.bytes)) (reg state.registers))
    (service_stack (place state.stack) (service_bytes_of state.frame.bytes) (flow_bytes_of state.frame.bytes)) state

-- with the service's flags
abbrev pub GuardsStart : ℕ → MachineState → Type 0
GuardsStart flags state =
    IsAtPart 41 (with_r6 ContextPointer packet_start (Number flags) (Number (total_length state.frame.bytes)) (reg state.registers))
    (flow_stack (place state.stack) (flow_bytes_of state.frame.bytes)) state

-- with the service's flags and the tunnel's record too
abbrev pub RecordsStart : ℕ → ℕ → ℕ → ℕ → MachineState → Type 0
RecordsStart start flags source macs state =
    IsAtPart start (with_r6 ContextPointer packet_start (Number flags) (reg state.registers 9) (reg state.registers))
    (tunnel_stack (place state.stack) source macs (flow_bytes_of state.frame.bytes)) state

abbrev pub TrackingStart : ℕ → ℕ → ℕ → MachineState → Type 0
TrackingStart = RecordsStart 57

abbrev pub RingStart : ℕ → ℕ → ℕ → MachineState → Type 0
RingStart = RecordsStart 76

-- with the tunnel's record and the chosen backend's
abbrev pub TunnelStart : ℕ → ℕ → ℕ → MachineState → Type 0
TunnelStart source macs backend state =
    IsAtPart 153 (with_r6 ContextPointer packet_start (reg state.registers 8) (Number backend) (reg state.registers))
    (tunnel_stack (place state.stack) source macs (flow_bytes_of state.frame.bytes)) state

-- at one of the two blocks that fix a verdict, whatever R6 to R9 are
abbrev pub VerdictStart : ℕ → MachineState → Type 0
VerdictStart start state =
    IsDecided start
    (with_r6 (reg state.registers 6) (reg state.registers 7) (reg state.registers 8) (reg state.registers 9) (reg state.registers)) state

-- with the verdict in R6
abbrev pub CountStart : Verdict → MachineState → Type 0
CountStart verdict state =
    IsDecided 208
    (with_r6 (Number (verdict_number verdict)) (reg state.registers 7) (reg state.registers 8) (reg state.registers 9)
    (reg state.registers)) state
