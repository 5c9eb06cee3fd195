-- Events that happen, by computation: so neither what an event needs nor what a safe image is, is empty. Each row is a program,
-- the events in order, and the history that a shard then has. Rows are listed in order, the oldest first.
use Rattle.std.specs.Prelude.{◌≡◌, ℕ, pos, negsuc, List, [], ◌∷◌, ◌++◌, replicate}
use Rattle.isa.specs.declared.operation.Width.TheVariants.{Bits64}
use Rattle.isa.specs.declared.operation.Size.TheVariants.{U8, U32, U64}
use Rattle.isa.specs.declared.operation.SourceOperand.TheVariants.{Imm, Reg}
use Rattle.isa.specs.declared.operation.AluOp.TheVariants.{Add, Mov}
use Rattle.isa.specs.declared.operation.Test.TheVariants.{Eq, Gt}
use Rattle.isa.specs.declared.operation.AtomicOp.TheVariants.{FetchAdd}
use Rattle.isa.specs.declared.operation.Register.TheVariants.{R0, R1, R2, R3, R4, R6, R7, R10}
use Rattle.ebpf_decode.specs.declared.insn.Insn.{Insn}
use Rattle.ebpf_decode.specs.declared.insn.Insn.TheVariants.{Alu, JumpIf, Ldx, St, AtomicUpdate, Ldmap, CallHelper, Exit}
use Rattle.ebpf_decode.specs.declared.map.MapDef.{MapDef}
use Rattle.ebpf_decode.specs.declared.map.MapKind.{MapKind}
use Rattle.ebpf_decode.specs.declared.map.MapKind.TheVariants.{Array, Hash}
use Rattle.semantics.specs.declared.options.Options.{Options}
use Rattle.semantics.specs.declared.call.Caller.TheVariants.{Worker, Controller, Reclaimer}
use Rattle.semantics.specs.declared.call.CellRef.{CellRef}
use Rattle.semantics.specs.declared.call.Call.{Call}
use Rattle.semantics.specs.declared.call.Call.TheVariants.{Enter, Leave, Lookup, Load, Atomic, Update, Delete, Reclaim}
use Rattle.semantics.specs.declared.call.Reply.{Reply}
use Rattle.semantics.specs.declared.call.Reply.TheVariants.{Entered, Left, Cell, Word, Answer, Freed}
use Rattle.semantics.specs.declared.call.Entry.{Entry}
use Rattle.semantics.specs.ShardPlan.{AreOptions}
use Rattle.semantics.specs.System.{Setting, SystemEvent, BeginsRun, DoesInstruction, CallsShard, LeavesShard, Controls, Reclaims, Idle}
use Rattle.semantics.specs.System.{worker_state, journal_of, system_after, CanAllHappen}
use Rattle.semantics.specs.Safety.{IsSafeImage}
use Rattle.semantics.specs.Entries.{Journal}

-- ---- how rows are listed

-- one worker, one shard to a map, journals of 16 entries
abbrev pub one_worker : Options
one_worker = record { workers = 1; shards = 1; journal = 16 }

-- one map of one entry, with keys of 4 bytes and values of 8
abbrev pub one_map : MapKind → List MapDef
one_map kind = (record { kind = kind; key_size = 4; value_size = 8; max_entries = 1 }) ∷ []

abbrev pub setting_over : MapKind → List Insn → Setting
setting_over kind code = record { maps = one_map kind; code = code; options = one_worker }

-- the row's events can happen, one after the other; then shard 0 has this history, and the worker does nothing
pub record Happens (setting : Setting) (events : List SystemEvent) (journal : Journal) : Type 0 where
  pub options : AreOptions setting.maps setting.options
  pub can : CanAllHappen setting events
  pub journaled : journal_of (system_after setting events) 0 ≡ journal
  pub over : worker_state (system_after setting events) 0 ≡ Idle

abbrev pub by_worker : Call → Reply → Entry
by_worker call reply = record { who = Worker 0; call = call; reply = reply }

abbrev pub by_controller : Call → Reply → Entry
by_controller call reply = record { who = Controller; call = call; reply = reply }

abbrev pub by_reclaimer : Call → Reply → Entry
by_reclaimer call reply = record { who = Reclaimer; call = call; reply = reply }

abbrev pub cell_at : ℕ → CellRef
cell_at id = record { shard = 0; id = id }

-- a key and a value of these first bytes
abbrev pub key_of_byte : ℕ → List ℕ
key_of_byte byte = byte ∷ 0 ∷ 0 ∷ 0 ∷ []

abbrev pub value_of : ℕ → List ℕ
value_of byte = byte ∷ 0 ∷ 0 ∷ 0 ∷ 0 ∷ 0 ∷ 0 ∷ 0 ∷ []

-- 14 bytes, the last of them given
abbrev pub frame_of : ℕ → List ℕ
frame_of last = replicate 13 0 ++ last ∷ []

abbrev pub instructions : ℕ → List SystemEvent
instructions count = replicate count (DoesInstruction 0)

-- ---- one run over an array: it checks 14 bytes, reads the last, looks element 0 up, and adds the number there

abbrev pub first_path : List Insn
first_path =
    Ldx U32 R2 R1 (pos 0) ∷ Ldx U32 R3 R1 (pos 4) ∷ Alu Bits64 Mov R4 (Reg R2) ∷ Alu Bits64 Add R4 (Imm (pos 14)) ∷
    Alu Bits64 Mov R0 (Imm (pos 2)) ∷
    JumpIf Bits64 Gt R4 (Reg R3) (pos 11) ∷ Ldx U8 R6 R2 (pos 13) ∷ St U32 R10 (negsuc 3) (pos 0) ∷ Alu Bits64 Mov R2 (Reg R10) ∷
    Alu Bits64 Add R2 (Imm (negsuc 3)) ∷
    Ldmap R1 (pos 0) ∷ CallHelper (pos 1) ∷ JumpIf Bits64 Eq R0 (Imm (pos 0)) (pos 3) ∷ Ldx U64 R7 R0 (pos 0) ∷ Alu Bits64 Add R6 (Reg R7) ∷
    Alu Bits64 Mov R0 (Reg R6) ∷ Exit ∷ []

abbrev pub RunOverAnArray : Type 0
RunOverAnArray = Happens (setting_over Array first_path)
    (BeginsRun 0 (frame_of 3) 0 0 ∷ instructions 11 ++ CallsShard 0 ∷ CallsShard 0 ∷ DoesInstruction 0 ∷ CallsShard 0 ∷
    instructions 3 ++ LeavesShard 0 0 ∷ [])
    (by_worker (Enter 0) Entered ∷ by_worker (Lookup 0 (key_of_byte 0)) (Cell (cell_at 0)) ∷ by_worker (Load (cell_at 0) 0 8) (Word 0) ∷
    by_worker (Leave 0) Left ∷ [])

-- ---- one run over a hash map: it sets a key, finds it, adds to its number, and reads the sum

abbrev pub counting : List Insn
counting =
    St U32 R10 (negsuc 3) (pos 7) ∷ St U64 R10 (negsuc 15) (pos 2) ∷ Alu Bits64 Mov R2 (Reg R10) ∷ Alu Bits64 Add R2 (Imm (negsuc 3)) ∷
    Alu Bits64 Mov R3 (Reg R10) ∷
    Alu Bits64 Add R3 (Imm (negsuc 15)) ∷ Alu Bits64 Mov R4 (Imm (pos 0)) ∷ Ldmap R1 (pos 0) ∷ CallHelper (pos 2) ∷
    Alu Bits64 Mov R2 (Reg R10) ∷
    Alu Bits64 Add R2 (Imm (negsuc 3)) ∷ Ldmap R1 (pos 0) ∷ CallHelper (pos 1) ∷ JumpIf Bits64 Eq R0 (Imm (pos 0)) (pos 3) ∷
    Alu Bits64 Mov R1 (Imm (pos 1)) ∷
    AtomicUpdate Bits64 FetchAdd R0 R1 (pos 0) ∷ Ldx U64 R0 R0 (pos 0) ∷ Exit ∷ []

abbrev pub RunOverAHashMap : Type 0
RunOverAHashMap = Happens (setting_over Hash counting)
    (BeginsRun 0 (frame_of 0) 0 0 ∷ instructions 8 ++ CallsShard 0 ∷ CallsShard 0 ∷ instructions 3 ++ CallsShard 0 ∷
    instructions 2 ++ CallsShard 0 ∷ CallsShard 0 ∷
    DoesInstruction 0 ∷ LeavesShard 0 0 ∷ [])
    (by_worker (Enter 0) Entered ∷ by_worker (Update 0 (key_of_byte 7) (value_of 2) 0) (Answer (pos 0)) ∷
    by_worker (Lookup 0 (key_of_byte 7)) (Cell (cell_at 0)) ∷
    by_worker (Atomic (cell_at 0) 0 8 1 1 0) (Word 2) ∷ by_worker (Load (cell_at 0) 0 8) (Word 3) ∷ by_worker (Leave 0) Left ∷ [])

-- ---- a key goes while a run holds its cell: the run still reads its bytes, and the cell is freed only after it

abbrev pub looking_up : List Insn
looking_up =
    St U32 R10 (negsuc 3) (pos 1) ∷ Alu Bits64 Mov R2 (Reg R10) ∷ Alu Bits64 Add R2 (Imm (negsuc 3)) ∷ Ldmap R1 (pos 0) ∷
    CallHelper (pos 1) ∷
    JumpIf Bits64 Eq R0 (Imm (pos 0)) (pos 1) ∷ Ldx U64 R6 R0 (pos 0) ∷ Alu Bits64 Mov R0 (Imm (pos 2)) ∷ Exit ∷ []

abbrev pub HeldCellOutlivesItsKey : Type 0
HeldCellOutlivesItsKey = Happens (setting_over Hash looking_up)
    (Controls (Update 0 (key_of_byte 1) (value_of 5) 0) ∷ BeginsRun 0 (frame_of 0) 0 0 ∷ instructions 4 ++ CallsShard 0 ∷ CallsShard 0 ∷
    Controls (Delete 0 (key_of_byte 1)) ∷ Reclaims 0 ∷
    Controls (Update 0 (key_of_byte 2) (value_of 9) 0) ∷ DoesInstruction 0 ∷ CallsShard 0 ∷ instructions 2 ++ LeavesShard 0 0 ∷ Reclaims 0 ∷ [])
    (by_controller (Update 0 (key_of_byte 1) (value_of 5) 0) (Answer (pos 0)) ∷ by_worker (Enter 0) Entered ∷
    by_worker (Lookup 0 (key_of_byte 1)) (Cell (cell_at 0)) ∷
    by_controller (Delete 0 (key_of_byte 1)) (Answer (pos 0)) ∷ by_reclaimer (Reclaim 0) (Freed 0) ∷
    by_controller (Update 0 (key_of_byte 2) (value_of 9) 0) (Answer (pos 0)) ∷
    by_worker (Load (cell_at 0) 0 8) (Word 5) ∷ by_worker (Leave 0) Left ∷ by_reclaimer (Reclaim 0) (Freed 1) ∷ [])

-- ---- a journal of 16 with one run inside and 15 entries: its Lookup is refused, the run is over, and its Leave is entry 16

abbrev pub FullJournalHasRoomForLeave : Type 0
FullJournalHasRoomForLeave = Happens (setting_over Hash looking_up)
    (BeginsRun 0 (frame_of 0) 0 0 ∷ instructions 4 ++ CallsShard 0 ∷
    replicate 14 (Controls (Update 0 (key_of_byte 1) (value_of 5) 0)) ++ CallsShard 0 ∷ LeavesShard 0 0 ∷ [])
    (by_worker (Enter 0) Entered ∷ replicate 14 (by_controller (Update 0 (key_of_byte 1) (value_of 5) 0) (Answer (pos 0))) ++
    by_worker (Leave 0) Left ∷ [])

-- ---- an unsafe program

-- it loads through what a lookup answered without testing it for 0
abbrev pub untested : List Insn
untested =
    St U32 R10 (negsuc 3) (pos 1) ∷ Alu Bits64 Mov R2 (Reg R10) ∷ Alu Bits64 Add R2 (Imm (negsuc 3)) ∷ Ldmap R1 (pos 0) ∷
    CallHelper (pos 1) ∷ Ldx U64 R0 R0 (pos 0) ∷ Exit ∷ []

abbrev pub UnsafeProgramIsRefused : Type 0
UnsafeProgramIsRefused = IsSafeImage (one_map Hash) untested → ⊥
