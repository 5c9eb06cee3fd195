-- What single instructions ask of a map and make of its reply, by computation: each row is an instruction with R0 and R2 before it
-- and after it, R1 being the first byte of a cell of eight bytes; an exit follows.
use Rattle.std.specs.Prelude.{◌≡◌, ℕ, Bool, true, false, ℤ, pos, negsuc, List, [], ◌∷◌, ◌++◌, replicate, Option, Some, None, IsTrue}
use Rattle.isa.specs.declared.operation.Width.TheVariants.{Bits32, Bits64}
use Rattle.isa.specs.declared.operation.Size.TheVariants.{U8, U16, U32, U64}
use Rattle.isa.specs.declared.operation.SourceOperand.TheVariants.{Imm, Reg}
use Rattle.isa.specs.declared.operation.AluOp.TheVariants.{Add, Mov}
use Rattle.isa.specs.declared.operation.AtomicOp.TheVariants.{AtomicAdd, AtomicOr, AtomicAnd, AtomicXor, FetchAdd, FetchOr, FetchAnd}
use Rattle.isa.specs.declared.operation.AtomicOp.TheVariants.{FetchXor, Exchange, CompareExchange}
use Rattle.isa.specs.declared.operation.Register.TheVariants.{R0, R1, R2, R3, R10}
use Rattle.ebpf_decode.specs.declared.insn.Insn.{Insn}
use Rattle.ebpf_decode.specs.declared.insn.Insn.TheVariants.{Alu, Ldx, St, Stx, AtomicUpdate, Ldmap, Ldval, CallHelper, Exit}
use Rattle.ebpf_decode.specs.declared.map.MapKind.TheVariants.{Hash, Array}
use Rattle.wire.specs.FrameView.{FrameView}
use Rattle.semantics.specs.declared.call.Call.{Call}
use Rattle.semantics.specs.declared.call.Call.TheVariants.{Lookup, Store, Atomic, Delete}
use Rattle.semantics.specs.declared.call.Reply.{Reply}
use Rattle.semantics.specs.declared.call.Reply.TheVariants.{Cell, Word, Done, Answer}
use Rattle.semantics.specs.declared.verdict.Verdict.{Verdict}
use Rattle.semantics.specs.declared.verdict.Verdict.TheVariants.{Aborted, Drop, Pass, Tx}
use Rattle.semantics.specs.RegisterValue.{RegisterValue, Uninitialized, Number, StackPointer, CellPointer}
use Rattle.semantics.specs.MachineState.{MachineState, register_value, initial_state}
use Rattle.semantics.specs.Program.{Program}
use Rattle.semantics.specs.RunTrace.{RunStand, HasExited, RunTrace, trace_of}
use Rattle.semantics.specs.SystemRows.{one_map, cell_at, key_of_byte, frame_of}
use Rattle.semantics.specs.System.{input_frame}

abbrev pub program_of_code : List Insn → Program
program_of_code code = record { code = code; maps = one_map Hash; shards = 1 }

-- a run with these registers R0 and R2, and a cell's first byte in R1
abbrev pub run_with : RegisterValue → RegisterValue → MachineState
run_with first third = record (initial_state (input_frame (frame_of 0)) 0 0) {
  registers = first ∷ CellPointer 0 0 0 (pos 0) ∷ third ∷ replicate 7 Uninitialized ++ StackPointer (pos 0) ∷ [];
}

-- the instruction makes the call; by its reply R0 and R2 become these numbers, and the run ends by R0
abbrev pub Asks : Insn → ℕ → ℕ → Call → Reply → ℕ → ℕ → Verdict → Type 0
Asks insn first third call reply first_after third_after verdict =
    trace_of 2 (program_of_code (insn ∷ Exit ∷ [])) (run_with (Number first) (Number third)) (reply ∷ []) ≡
    record {
      calls = call ∷ [];
      stand = HasExited verdict (record (run_with (Number first_after) (Number third_after)) { slot = 1; steps = 2 });
    }

-- ---- stores: the low bytes of a register, or of the immediate

pub record StoresAsk : Type 0 where
  pub one_byte : Asks (Stx U8 R1 R2 (pos 0)) 2 511 (Store (cell_at 0) 0 1 255) Done 2 511 Pass
  pub two_bytes : Asks (Stx U16 R1 R2 (pos 6)) 2 65537 (Store (cell_at 0) 6 2 1) Done 2 65537 Pass
  pub four_bytes : Asks (Stx U32 R1 R2 (pos 1)) 2 4294967301 (Store (cell_at 0) 1 4 5) Done 2 4294967301 Pass
  pub eight_bytes : Asks (Stx U64 R1 R2 (pos 0)) 2 4294967301 (Store (cell_at 0) 0 8 4294967301) Done 2 4294967301 Pass
  pub immediate : Asks (St U32 R1 (pos 4) (negsuc 0)) 1 0 (Store (cell_at 0) 4 4 4294967295) Done 1 0 Drop
  pub long_immediate : Asks (St U64 R1 (pos 0) (negsuc 1)) 1 0 (Store (cell_at 0) 0 8 18446744073709551614) Done 1 0 Drop

-- ---- atomic operations: both sizes; the old number goes to R2, to R0 by compare-and-exchange, or nowhere

-- of 64 bits
pub record AtomicsAsk : Type 0 where
  pub add : Asks (AtomicUpdate Bits64 AtomicAdd R1 R2 (pos 0)) 2 5 (Atomic (cell_at 0) 0 8 0 5 0) (Word 9) 2 5 Pass
  pub or : Asks (AtomicUpdate Bits64 AtomicOr R1 R2 (pos 0)) 2 5 (Atomic (cell_at 0) 0 8 0x40 5 0) (Word 9) 2 5 Pass
  pub and : Asks (AtomicUpdate Bits64 AtomicAnd R1 R2 (pos 0)) 2 5 (Atomic (cell_at 0) 0 8 0x50 5 0) (Word 9) 2 5 Pass
  pub xor : Asks (AtomicUpdate Bits64 AtomicXor R1 R2 (pos 0)) 2 5 (Atomic (cell_at 0) 0 8 0xa0 5 0) (Word 9) 2 5 Pass
  pub fetch_add : Asks (AtomicUpdate Bits64 FetchAdd R1 R2 (pos 0)) 2 5 (Atomic (cell_at 0) 0 8 0x01 5 0) (Word 9) 2 9 Pass
  pub fetch_or : Asks (AtomicUpdate Bits64 FetchOr R1 R2 (pos 0)) 2 5 (Atomic (cell_at 0) 0 8 0x41 5 0) (Word 9) 2 9 Pass
  pub fetch_and : Asks (AtomicUpdate Bits64 FetchAnd R1 R2 (pos 0)) 2 5 (Atomic (cell_at 0) 0 8 0x51 5 0) (Word 9) 2 9 Pass
  pub fetch_xor : Asks (AtomicUpdate Bits64 FetchXor R1 R2 (pos 0)) 2 5 (Atomic (cell_at 0) 0 8 0xa1 5 0) (Word 9) 2 9 Pass
  pub exchange : Asks (AtomicUpdate Bits64 Exchange R1 R2 (pos 0)) 2 5 (Atomic (cell_at 0) 0 8 0xe1 5 0) (Word 9) 2 9 Pass
  pub compare_equal : Asks (AtomicUpdate Bits64 CompareExchange R1 R2 (pos 0)) 2 5 (Atomic (cell_at 0) 0 8 0xf1 5 2) (Word 2) 2 5 Pass
  pub compare_unequal : Asks (AtomicUpdate Bits64 CompareExchange R1 R2 (pos 0)) 2 5 (Atomic (cell_at 0) 0 8 0xf1 5 2) (Word 3) 3 5 Tx

-- of 32 bits: what is stored, and what is compared, is cut; what comes back is zero-extended
pub record ShortAtomicsAsk : Type 0 where
  pub add : Asks (AtomicUpdate Bits32 AtomicAdd R1 R2 (pos 4)) 2 4294967301 (Atomic (cell_at 0) 4 4 0 5 0) (Word 9) 2 4294967301 Pass
  pub or : Asks (AtomicUpdate Bits32 AtomicOr R1 R2 (pos 4)) 2 4294967301 (Atomic (cell_at 0) 4 4 0x40 5 0) (Word 9) 2 4294967301 Pass
  pub and : Asks (AtomicUpdate Bits32 AtomicAnd R1 R2 (pos 4)) 2 4294967301 (Atomic (cell_at 0) 4 4 0x50 5 0) (Word 9) 2 4294967301 Pass
  pub xor : Asks (AtomicUpdate Bits32 AtomicXor R1 R2 (pos 4)) 2 4294967301 (Atomic (cell_at 0) 4 4 0xa0 5 0) (Word 9) 2 4294967301 Pass
  pub fetch_add : Asks (AtomicUpdate Bits32 FetchAdd R1 R2 (pos 4)) 2 4294967301 (Atomic (cell_at 0) 4 4 0x01 5 0) (Word 9) 2 9 Pass
  pub fetch_or : Asks (AtomicUpdate Bits32 FetchOr R1 R2 (pos 4)) 2 4294967301 (Atomic (cell_at 0) 4 4 0x41 5 0) (Word 9) 2 9 Pass
  pub fetch_and : Asks (AtomicUpdate Bits32 FetchAnd R1 R2 (pos 4)) 2 4294967301 (Atomic (cell_at 0) 4 4 0x51 5 0) (Word 9) 2 9 Pass
  pub fetch_xor : Asks (AtomicUpdate Bits32 FetchXor R1 R2 (pos 4)) 2 4294967301 (Atomic (cell_at 0) 4 4 0xa1 5 0) (Word 9) 2 9 Pass
  pub exchange : Asks (AtomicUpdate Bits32 Exchange R1 R2 (pos 4)) 2 4294967301 (Atomic (cell_at 0) 4 4 0xe1 5 0) (Word 9) 2 9 Pass
  pub compare_equal : Asks (AtomicUpdate Bits32 CompareExchange R1 R2 (pos 4)) 4294967298 4294967301 (Atomic (cell_at 0) 4 4 0xf1 5 2)
      (Word 2) 2 4294967301 Pass
  pub compare_unequal : Asks (AtomicUpdate Bits32 CompareExchange R1 R2 (pos 4)) 4294967298 4294967301 (Atomic (cell_at 0) 4 4 0xf1 5 2)
      (Word 3) 3 4294967301 Tx

-- what a run leaves in R2
abbrev pub second_left : RunStand → Option RegisterValue
second_left (HasExited verdict last) = Some (register_value last R2)
second_left stand = None

-- ---- helpers

-- what a run ends with
abbrev pub verdict_left : RunStand → Option Verdict
verdict_left (HasExited verdict last) = Some verdict
verdict_left stand = None

abbrev pub frame_left : RunStand → Option FrameView
frame_left (HasExited verdict last) = Some last.frame
frame_left stand = None

abbrev pub trace_from_start : ℕ → List Insn → List Reply → RunTrace
trace_from_start count code replies = trace_of count (program_of_code code) (initial_state (input_frame (frame_of 0)) 0 0) replies

-- a key of 7 at R10 - 4 in R2, and the map in R1
abbrev pub key_prepared : List Insn
key_prepared = St U32 R10 (negsuc 3) (pos 7) ∷ Alu Bits64 Mov R2 (Reg R10) ∷ Alu Bits64 Add R2 (Imm (negsuc 3)) ∷ Ldmap R1 (pos 0) ∷ []

-- map_delete_elem: R0 is the answer, as a number of 64 bits
abbrev pub deleting : List Insn
deleting = key_prepared ++ CallHelper (pos 3) ∷ Exit ∷ []

-- xdp_adjust_head with -20 opens twenty bytes of zeros, and moves nothing by -257
abbrev pub moving_head : ℤ → List Insn
moving_head delta = Alu Bits64 Mov R2 (Imm delta) ∷ CallHelper (pos 44) ∷ Alu Bits64 Mov R0 (Imm (pos 3)) ∷ Exit ∷ []

pub record HelpersAsk : Type 0 where
  pub delete_calls : (trace_from_start 6 deleting (Answer (negsuc 1) ∷ [])).calls ≡ Delete 0 (key_of_byte 7) ∷ []
  pub delete_absent : verdict_left (trace_from_start 6 deleting (Answer (negsuc 1) ∷ [])).stand ≡ Some Aborted
  pub delete_done : verdict_left (trace_from_start 6 deleting (Answer (pos 0) ∷ [])).stand ≡ Some Aborted
  pub head_moved : frame_left (trace_from_start 4 (moving_head (negsuc 19)) []).stand ≡
      Some (record { bytes = replicate 20 0 ++ frame_of 0; headroom = 236 })
  pub head_verdict : verdict_left (trace_from_start 4 (moving_head (negsuc 19)) []).stand ≡ Some Tx
  pub head_stays : frame_left (trace_from_start 4 (moving_head (negsuc 256)) []).stand ≡
      Some (record { bytes = frame_of 0; headroom = 256 })

-- ---- an address in a map's first value: its first shard is asked for key 0

abbrev pub over_two_arrays : List Insn → Program
over_two_arrays code = record { code = code; maps = one_map Array ++ one_map Array; shards = 2 }

-- of the second of two maps with two shards each, byte 4
abbrev pub addressing : RunTrace
addressing =
    trace_of 2 (over_two_arrays (Ldval R2 (pos 1) 4 ∷ Exit ∷ [])) (run_with (Number 2) (Number 0))
    (Cell (record { shard = 2; id = 0 }) ∷ [])

pub record AddressesAsk : Type 0 where
  pub asked : addressing.calls ≡ Lookup 2 (0 ∷ 0 ∷ 0 ∷ 0 ∷ []) ∷ []
  pub verdict : verdict_left addressing.stand ≡ Some Pass
  pub address : second_left addressing.stand ≡ Some (CellPointer 1 2 0 (pos 4))

-- ---- spilled pointers

abbrev pub is_pointer : RegisterValue → Bool
is_pointer Uninitialized = false
is_pointer (Number n) = false
is_pointer value = true

abbrev pub spilling : List Insn
spilling = Stx U64 R10 R2 (negsuc 7) ∷ Ldx U64 R3 R10 (negsuc 7) ∷ Exit ∷ []

abbrev pub third_left : RunStand → Option RegisterValue
third_left (HasExited verdict last) = Some (register_value last R3)
third_left stand = None

-- a pointer of each kind that is stored on the stack is loaded as it was
abbrev pub SpilledPointersComeBack : Type 0
SpilledPointersComeBack =
    (value : RegisterValue) → IsTrue (is_pointer value) →
    third_left (trace_of 3 (program_of_code spilling) (run_with (Number 2) value) []).stand ≡ Some value
