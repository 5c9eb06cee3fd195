-- An instruction that only reads asks a map for nothing but a lookup or a load.
use Rattle.std.proofs.Common.{◌≡◌, ℕ, Bool, true, false, ℤ, pos, negsuc, List, Option, Some, None, Ok, Err, refl}
use Rattle.std.specs.Prelude.{◌+ℤ◌}
use Rattle.isa.specs.Words.{twos_complement}
use Rattle.isa.specs.InstructionCodes.{size_bytes, extension_size}
use Rattle.isa.specs.declared.operation.Width.{Width}
use Rattle.isa.specs.declared.operation.Size.{Size}
use Rattle.isa.specs.declared.operation.Extension.{Extension}
use Rattle.isa.specs.declared.operation.AtomicOp.{AtomicOp}
use Rattle.isa.specs.declared.operation.Register.{Register}
use Rattle.isa.specs.declared.operation.Register.TheVariants.{R0, R1, R2}
use Rattle.ebpf_decode.specs.declared.insn.Insn.{Insn}
use Rattle.ebpf_decode.specs.declared.insn.Insn.TheVariants.{Alu, Neg, Movsx, Movsx32, End, Ja, Ja32, JumpIf, Ldx, Ldxs, St, Stx, AtomicUpdate, Lddw, Ldmap, Ldval, CallHelper, Exit}
use Rattle.ebpf_decode.specs.declared.map.MapDef.{MapDef}
use Rattle.semantics.specs.declared.call.Call.TheVariants.{Lookup}
use Rattle.semantics.specs.declared.linux.Helper.{Helper}
use Rattle.semantics.specs.declared.linux.Helper.TheVariants.{MapLookupElem, MapUpdateElem, MapDeleteElem, KtimeGetNs, GetSmpProcessorId, XdpAdjustHead}
use Rattle.semantics.specs.Linux.{helper_of}
use Rattle.semantics.specs.RegisterValue.{RegisterValue, Uninitialized, Number, ContextPointer, StackPointer, PacketPointer, PacketEnd, MapPointer, CellPointer}
use Rattle.semantics.specs.MachineState.{MachineState, register_value}
use Rattle.semantics.specs.Program.{Program, shard_of_key}
use Rattle.semantics.specs.Step.{Outcome, Step, or_trap, CallsMap}
use Rattle.semantics.specs.Arithmetic.{source_value}
use Rattle.semantics.specs.Comparison.{jump_outcome}
use Rattle.semantics.specs.Memory.{packet_range, stack_range, stack_place, cell_range}
use Rattle.semantics.specs.Helpers.{returned, found_value, map_argument, map_at, bytes_argument, number_argument, context_argument, with_key, found_helper_step}
use Rattle.semantics.specs.Semantics.{write_step, written_register, jump_step, branch_step, load_step, load_signed_step, load_cell_step, store_step, stored_places, stored_number, atomic_step, value_address_step, exit_step, instruction_step}
use Rattle.abstract_state.specs.Soundness.{JumpsForward}
use Rattle.guarantees.specs.ReaderRuns.{is_read}

-- the step asks a map for nothing but a lookup or a load
abbrev pub AsksToRead : Step → Type 0
AsksToRead (CallsMap call next) = is_read call ≡ true
AsksToRead step = Unit {0}

trap_reads : {A : Type 0} (outcome : Outcome A) (go : A → Step) → ((value : A) → AsksToRead (go value)) → AsksToRead (or_trap outcome go)
trap_reads (Ok value) go reads = reads value
trap_reads (Err cause) go reads = tt

write_reads : (insn : Insn) (state : MachineState) (dst : Register) (outcome : Outcome RegisterValue) → AsksToRead (write_step insn state dst outcome)
write_reads insn state dst outcome =
    trap_reads outcome _ (λ value. trap_reads (written_register state dst value) _ (λ written. tt))

-- ---- jumps

jump_reads : (state : MachineState) (distance : ℤ) (n : ℕ) → distance ≡ pos n → AsksToRead (jump_step state distance)
jump_reads state distance n is = rw is tt

branch_reads : (insn : Insn) (state : MachineState) (distance : ℤ) (n : ℕ) → distance ≡ pos n → (taken : Bool) →
    AsksToRead (branch_step insn state distance taken)
branch_reads insn state distance n is true = jump_reads state distance n is
branch_reads insn state distance n is false = tt

exit_reads : (state : MachineState) (value : RegisterValue) → AsksToRead (exit_step state value)
exit_reads state Uninitialized = tt
exit_reads state (Number n) = tt
exit_reads state ContextPointer = tt
exit_reads state (StackPointer place) = tt
exit_reads state (PacketPointer g place) = tt
exit_reads state (PacketEnd g) = tt
exit_reads state (MapPointer map) = tt
exit_reads state (CellPointer map shard cell offset) = tt

-- ---- loads

cell_load_reads : (program : Program) (insn : Insn) (state : MachineState) (dst : Register) (map shard cell : ℕ) (at : ℤ) (count : ℕ) (convert : ℕ → ℕ) →
    AsksToRead (load_cell_step program insn state dst map shard cell at count convert)
cell_load_reads program insn state dst map shard cell at count convert =
    trap_reads (cell_range program map at count) _ (λ from. trap_reads (written_register state dst Uninitialized) _ (λ checked. refl))

load_reads : (program : Program) (insn : Insn) (state : MachineState) (dst : Register) (value : RegisterValue) (offset : ℤ) (size : Size) →
    AsksToRead (load_step program insn state dst value offset size)
load_reads program insn state dst ContextPointer offset size = write_reads insn state dst _
load_reads program insn state dst (StackPointer place) offset size = write_reads insn state dst _
load_reads program insn state dst (PacketPointer g place) offset size = write_reads insn state dst _
load_reads program insn state dst (CellPointer map shard cell at) offset size =
    cell_load_reads program insn state dst map shard cell (at +ℤ offset) (size_bytes size) _
load_reads program insn state dst Uninitialized offset size = tt
load_reads program insn state dst (Number n) offset size = tt
load_reads program insn state dst (PacketEnd g) offset size = tt
load_reads program insn state dst (MapPointer map) offset size = tt

signed_load_reads : (program : Program) (insn : Insn) (state : MachineState) (dst : Register) (value : RegisterValue) (offset : ℤ) (extension : Extension) →
    AsksToRead (load_signed_step program insn state dst value offset extension)
signed_load_reads program insn state dst ContextPointer offset extension = tt
signed_load_reads program insn state dst (StackPointer place) offset extension = write_reads insn state dst _
signed_load_reads program insn state dst (PacketPointer g place) offset extension = write_reads insn state dst _
signed_load_reads program insn state dst (CellPointer map shard cell at) offset extension =
    cell_load_reads program insn state dst map shard cell (at +ℤ offset) (size_bytes (extension_size extension)) _
signed_load_reads program insn state dst Uninitialized offset extension = tt
signed_load_reads program insn state dst (Number n) offset extension = tt
signed_load_reads program insn state dst (PacketEnd g) offset extension = tt
signed_load_reads program insn state dst (MapPointer map) offset extension = tt

-- ---- stores and atomic operations, on no cell

abbrev pub is_cell : RegisterValue → Bool
is_cell (CellPointer map shard cell offset) = true
is_cell value = false

store_reads : (program : Program) (insn : Insn) (state : MachineState) (at : RegisterValue) (offset : ℤ) (size : Size) (value : RegisterValue) →
    (is_cell at ≡ true → ⊥) → AsksToRead (store_step program insn state at offset size value)
store_reads program insn state (StackPointer place) offset size value none =
    trap_reads (stack_range state.stack (stack_place (place +ℤ offset)) (size_bytes size)) _ (λ from. trap_reads (stored_places value size) _ (λ places. tt))
store_reads program insn state (PacketPointer g place) offset size value none =
    trap_reads (packet_range state g (place +ℤ offset) (size_bytes size)) _ (λ from. trap_reads (stored_number value) _ (λ n. tt))
store_reads program insn state (CellPointer map shard cell at) offset size value none = absurd (none refl)
store_reads program insn state ContextPointer offset size value none = tt
store_reads program insn state Uninitialized offset size value none = tt
store_reads program insn state (Number n) offset size value none = tt
store_reads program insn state (PacketEnd g) offset size value none = tt
store_reads program insn state (MapPointer map) offset size value none = tt

atomic_reads : (program : Program) (insn : Insn) (state : MachineState) (width : Width) (op : AtomicOp) (at : RegisterValue) (src : Register) (offset : ℤ) →
    (is_cell at ≡ true → ⊥) → AsksToRead (atomic_step program insn state width op at src offset)
atomic_reads program insn state width op (CellPointer map shard cell at) src offset none = absurd (none refl)
atomic_reads program insn state width op Uninitialized src offset none = tt
atomic_reads program insn state width op (Number n) src offset none = tt
atomic_reads program insn state width op ContextPointer src offset none = tt
atomic_reads program insn state width op (StackPointer place) src offset none = tt
atomic_reads program insn state width op (PacketPointer g place) src offset none = tt
atomic_reads program insn state width op (PacketEnd g) src offset none = tt
atomic_reads program insn state width op (MapPointer map) src offset none = tt

-- ---- addresses and helpers

address_reads : (program : Program) (insn : Insn) (state : MachineState) (dst : Register) (map : ℤ) (offset : ℕ) →
    AsksToRead (value_address_step program insn state dst map offset)
address_reads program insn state dst (pos map) offset =
    trap_reads (map_at program map) _ (λ definition. trap_reads (written_register state dst Uninitialized) _ (λ checked. refl))
address_reads program insn state dst (negsuc below) offset = tt

key_reads : (program : Program) (state : MachineState) (go : ℕ → MapDef → ℕ → List ℕ → Step) →
    ((map : ℕ) (definition : MapDef) (shard : ℕ) (key : List ℕ) → AsksToRead (go map definition shard key)) → AsksToRead (with_key program state go)
key_reads program state go reads =
    trap_reads (map_argument (register_value state R1)) _ (λ map.
    trap_reads (map_at program map) _ (λ definition.
    trap_reads (bytes_argument state (register_value state R2) definition.key_size) _ (λ key.
    reads map definition (shard_of_key map definition.kind program.shards key) key)))

helper_reads : (program : Program) (state : MachineState) (found : Option Helper) → (found ≡ Some MapUpdateElem → ⊥) → (found ≡ Some MapDeleteElem → ⊥) →
    AsksToRead (found_helper_step program state found)
helper_reads program state None no_update no_delete = tt
helper_reads program state (Some MapLookupElem) no_update no_delete =
    key_reads program state (λ map definition shard key. CallsMap (Lookup shard key) (λ reply. returned state (found_value map reply)))
    (λ map definition shard key. refl)
helper_reads program state (Some MapUpdateElem) no_update no_delete = absurd (no_update refl)
helper_reads program state (Some MapDeleteElem) no_update no_delete = absurd (no_delete refl)
helper_reads program state (Some KtimeGetNs) no_update no_delete = tt
helper_reads program state (Some GetSmpProcessorId) no_update no_delete = tt
helper_reads program state (Some XdpAdjustHead) no_update no_delete =
    trap_reads (context_argument (register_value state R1)) _ (λ context. trap_reads (number_argument (register_value state R2)) _ (λ distance. tt))

-- ---- every instruction

-- it stores to no cell, and calls no helper that changes keys
abbrev pub ChangesNothing : Insn → MachineState → Type 0
ChangesNothing (St size dst offset immediate) state = is_cell (register_value state dst) ≡ true → ⊥
ChangesNothing (Stx size dst src offset) state = is_cell (register_value state dst) ≡ true → ⊥
ChangesNothing (AtomicUpdate width op dst src offset) state = is_cell (register_value state dst) ≡ true → ⊥
ChangesNothing (CallHelper number) state = (helper_of number ≡ Some MapUpdateElem → ⊥) × (helper_of number ≡ Some MapDeleteElem → ⊥)
ChangesNothing insn state = Unit {0}

pub step_reads : (program : Program) (insn : Insn) (state : MachineState) → JumpsForward insn → ChangesNothing insn state →
    AsksToRead (instruction_step program insn state)
step_reads program (Alu width op dst source) state forward none = write_reads (Alu width op dst source) state dst _
step_reads program (Neg width dst) state forward none = write_reads (Neg width dst) state dst _
step_reads program (Movsx extension dst src) state forward none = write_reads (Movsx extension dst src) state dst _
step_reads program (Movsx32 extension dst src) state forward none = write_reads (Movsx32 extension dst src) state dst _
step_reads program (End order width dst) state forward none = write_reads (End order width dst) state dst _
step_reads program (Ja distance) state forward none = jump_reads state distance forward.0 forward.1
step_reads program (Ja32 distance) state forward none = jump_reads state distance forward.0 forward.1
step_reads program (JumpIf width test dst source distance) state forward none =
    trap_reads (jump_outcome state width test (register_value state dst) (source_value state source)) _
    (λ taken. branch_reads (JumpIf width test dst source distance) state distance forward.0 forward.1 taken)
step_reads program (Ldx size dst src offset) state forward none = load_reads program (Ldx size dst src offset) state dst (register_value state src) offset size
step_reads program (Ldxs extension dst src offset) state forward none =
    signed_load_reads program (Ldxs extension dst src offset) state dst (register_value state src) offset extension
step_reads program (St size dst offset immediate) state forward none =
    store_reads program (St size dst offset immediate) state (register_value state dst) offset size (Number (twos_complement 64 immediate)) none
step_reads program (Stx size dst src offset) state forward none =
    store_reads program (Stx size dst src offset) state (register_value state dst) offset size (register_value state src) none
step_reads program (AtomicUpdate width op dst src offset) state forward none =
    atomic_reads program (AtomicUpdate width op dst src offset) state width op (register_value state dst) src offset none
step_reads program (Lddw dst value) state forward none = write_reads (Lddw dst value) state dst (Ok (Number value))
step_reads program (Ldmap dst map) state forward none = write_reads (Ldmap dst map) state dst _
step_reads program (Ldval dst map offset) state forward none = address_reads program (Ldval dst map offset) state dst map offset
step_reads program (CallHelper number) state forward none = helper_reads program state (helper_of number) none.0 none.1
step_reads program Exit state forward none = exit_reads state (register_value state R0)
