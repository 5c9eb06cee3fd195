-- A run's own calls neither begin nor end a section: it looks up, loads, stores, changes, updates and deletes.
use Rattle.std.proofs.Common.{◌≡◌, ℕ, ◌+◌, ◌*◌, ◌%◌, ◌^◌, Bool, true, false, ℤ, pos, negsuc, ◌+ℤ◌, List, Option, Some, None, Ok, Err, refl, sym}
use Rattle.isa.specs.declared.operation.Width.{Width}
use Rattle.isa.specs.declared.operation.Size.{Size}
use Rattle.isa.specs.declared.operation.Extension.{Extension}
use Rattle.isa.specs.declared.operation.Register.{Register}
use Rattle.isa.specs.declared.operation.Register.TheVariants.{R1, R2, R3, R4, R10}
use Rattle.isa.specs.declared.operation.AtomicOp.{AtomicOp}
use Rattle.ebpf_decode.specs.declared.insn.Insn.{Insn}
use Rattle.ebpf_decode.specs.declared.insn.Insn.TheVariants.{Alu, Neg, Movsx, Movsx32, End, Ja, Ja32, JumpIf, Ldx, Ldxs, St, Stx, AtomicUpdate, Lddw, Ldmap, Ldval, CallHelper, Exit}
use Rattle.ebpf_decode.specs.declared.map.MapDef.{MapDef}
use Rattle.ebpf_decode.specs.InstructionEncoding.{slot_count}
use Rattle.isa.specs.InstructionCodes.{atomic_code, width_size, size_bytes}
use Rattle.semantics.specs.RegisterValue.{RegisterValue, Uninitialized, Number, ContextPointer, StackPointer, PacketPointer, CellPointer}
use Rattle.semantics.specs.MachineState.{MachineState, register_value, with_register}
use Rattle.semantics.specs.Program.{Program, instruction_at, shard_of_key}
use Rattle.semantics.specs.Step.{Outcome, or_trap, Step, Continues, CallsMap}
use Rattle.isa.specs.Words.{signed_value, low_half}
use Rattle.semantics.specs.Arithmetic.{source_value}
use Rattle.semantics.specs.declared.call.Call.TheVariants.{Lookup, Load, Store, Atomic, Update, Delete}
use Rattle.semantics.specs.Memory.{stack_range, stack_place, stack_with, packet_range, cell_range, aligned_cell_range, cell_ref}
use Rattle.semantics.specs.Comparison.{jump_outcome}
use Rattle.semantics.specs.Helpers.{map_argument, map_at, bytes_argument, number_argument, context_argument, returned, found_value, answer_value, adjusted_state, with_key, lookup_step, update_step, delete_step, adjust_head_step, found_helper_step, helper_step}
use Rattle.semantics.specs.declared.linux.Helper.{Helper}
use Rattle.semantics.specs.declared.linux.Helper.TheVariants.{MapLookupElem, MapUpdateElem, MapDeleteElem, KtimeGetNs, GetSmpProcessorId, XdpAdjustHead}
use Rattle.semantics.specs.Linux.{helper_of}
use Rattle.isa.specs.Atomic.{fetched_register}
use Rattle.semantics.specs.Semantics.{first_key, value_address, value_address_step, word_value, stored_places, stored_number, with_fetched, expected_number, at_next_slot, jump_step, branch_step, written_register, write_step, load_cell_step, load_step, load_signed_step, store_step, after_fetch, atomic_step, exit_step, instruction_step, step_of, next_step}
use Rattle.semantics.specs.declared.call.SectionChange.TheVariants.{Stays}
use Rattle.semantics.specs.Sections.{section_change}

abbrev pub IsQuiet : Step → Type 0
IsQuiet (CallsMap call next) = section_change call ≡ Stays
IsQuiet step = Unit {0}

quiet_then : {A : Type 0} (outcome : Outcome A) (go : A → Step) → ((a : A) → IsQuiet (go a)) → IsQuiet (or_trap outcome go)
quiet_then (Ok a) go each = each a
quiet_then (Err cause) go each = tt

quiet_twice : {A B : Type 0} (outcome : Outcome A) (second : A → Outcome B) (go : A → B → Step) → ((a : A) (b : B) → IsQuiet (go a b)) → IsQuiet (or_trap outcome (λ a. or_trap (second a) (λ b. go a b)))
quiet_twice outcome second go each = quiet_then outcome (λ a. or_trap (second a) (λ b. go a b)) (λ a. quiet_then (second a) (λ b. go a b) (λ b. each a b))

written_quiet : (insn : Insn) (state : MachineState) (register : Register) (value : RegisterValue) → IsQuiet (or_trap (written_register state register value) (λ written. Continues (at_next_slot insn written)))
written_quiet insn state R10 value = tt
written_quiet insn state register value = tt

write_quiet : (insn : Insn) (state : MachineState) (register : Register) (outcome : Outcome RegisterValue) → IsQuiet (write_step insn state register outcome)
write_quiet insn state register (Ok value) = written_quiet insn state register value
write_quiet insn state register (Err cause) = tt

load_cell_quiet : (program : Program) (insn : Insn) (state : MachineState) (dst : Register) (map shard cell : ℕ) (offset : ℤ) (count : ℕ) (convert : ℕ → ℕ) → IsQuiet (load_cell_step program insn state dst map shard cell offset count convert)
load_cell_quiet program insn state dst map shard cell offset count convert =
    quiet_twice (cell_range program map offset count) (λ from. written_register state dst Uninitialized)
    (λ from checked. CallsMap (Load (cell_ref shard cell) from count) (λ reply. at_next_slot insn (with_register state dst (word_value convert reply)))) (λ from checked. refl)

value_address_quiet : (program : Program) (insn : Insn) (state : MachineState) (dst : Register) (map : ℤ) (offset : ℕ) → IsQuiet (value_address_step program insn state dst map offset)
value_address_quiet program insn state dst (pos map) offset =
    quiet_twice (map_at program map) (λ definition. written_register state dst Uninitialized)
    (λ definition checked. CallsMap (Lookup (map * program.shards) first_key) (λ reply. at_next_slot insn (with_register state dst (value_address map offset reply)))) (λ definition checked. refl)
value_address_quiet program insn state dst (negsuc before) offset = tt

load_quiet : (program : Program) (insn : Insn) (state : MachineState) (dst : Register) (base : RegisterValue) (offset : ℤ) (size : Size) → IsQuiet (load_step program insn state dst base offset size)
load_quiet program insn state dst ContextPointer offset size = write_quiet insn state dst _
load_quiet program insn state dst (StackPointer place) offset size = write_quiet insn state dst _
load_quiet program insn state dst (PacketPointer generation place) offset size = write_quiet insn state dst _
load_quiet program insn state dst (CellPointer map shard cell at) offset size = load_cell_quiet program insn state dst map shard cell _ _ _
load_quiet program insn state dst Uninitialized offset size = tt
load_quiet program insn state dst value offset size = tt

load_signed_quiet : (program : Program) (insn : Insn) (state : MachineState) (dst : Register) (base : RegisterValue) (offset : ℤ) (extension : Extension) → IsQuiet (load_signed_step program insn state dst base offset extension)
load_signed_quiet program insn state dst (StackPointer place) offset extension = write_quiet insn state dst _
load_signed_quiet program insn state dst (PacketPointer generation place) offset extension = write_quiet insn state dst _
load_signed_quiet program insn state dst (CellPointer map shard cell at) offset extension = load_cell_quiet program insn state dst map shard cell _ _ _
load_signed_quiet program insn state dst ContextPointer offset extension = tt
load_signed_quiet program insn state dst Uninitialized offset extension = tt
load_signed_quiet program insn state dst value offset extension = tt

store_quiet : (program : Program) (insn : Insn) (state : MachineState) (base : RegisterValue) (offset : ℤ) (size : Size) (value : RegisterValue) → IsQuiet (store_step program insn state base offset size value)
store_quiet program insn state (StackPointer place) offset size value =
    quiet_twice (stack_range state.stack (stack_place (place +ℤ offset)) (size_bytes size)) (λ from. stored_places value size)
    (λ from places. Continues (at_next_slot insn (record state { stack = stack_with state.stack from places }))) (λ from places. tt)
store_quiet program insn state (PacketPointer generation place) offset size value =
    quiet_twice (packet_range state generation (place +ℤ offset) (size_bytes size)) (λ from. stored_number value)
    (λ from n. Continues (at_next_slot insn (record state { frame = _ }))) (λ from n. tt)
store_quiet program insn state (CellPointer map shard cell at) offset size value =
    quiet_twice (cell_range program map (at +ℤ offset) (size_bytes size)) (λ from. stored_number value)
    (λ from n. CallsMap (Store (cell_ref shard cell) from (size_bytes size) (n % 256 ^ size_bytes size)) (λ reply. at_next_slot insn state)) (λ from n. refl)
store_quiet program insn state ContextPointer offset size value = tt
store_quiet program insn state Uninitialized offset size value = tt
store_quiet program insn state pointer offset size value = tt

atomic_quiet : (program : Program) (insn : Insn) (state : MachineState) (width : Width) (op : AtomicOp) (base : RegisterValue) (src : Register) (offset : ℤ) → IsQuiet (atomic_step program insn state width op base src offset)
atomic_quiet program insn state width op (CellPointer map shard cell at) src offset =
    let fetched = fetched_register op src in
    let call : ℕ → ℕ → ℕ → Step = λ from n expected.
    CallsMap (Atomic (cell_ref shard cell) from (size_bytes (width_size width)) (atomic_code op) (n % 256 ^ size_bytes (width_size width)) (expected % 256 ^ size_bytes (width_size width)))
    (λ reply. at_next_slot insn (after_fetch state (fetched_register op src) (word_value (λ old. old) reply))) in
    quiet_twice (aligned_cell_range program map (at +ℤ offset) (size_bytes (width_size width))) (λ from. stored_number (register_value state src))
    (λ from n. or_trap (expected_number state op) (λ expected. or_trap (with_fetched state (fetched_register op src) Uninitialized) (λ checked. call from n expected)))
    (λ from n. quiet_twice (expected_number state op) (λ expected. with_fetched state (fetched_register op src) Uninitialized) (λ expected checked. call from n expected)
    (λ expected checked. refl))
atomic_quiet program insn state width op Uninitialized src offset = tt
atomic_quiet program insn state width op value src offset = tt

exit_quiet : (state : MachineState) (value : RegisterValue) → IsQuiet (exit_step state value)
exit_quiet state (Number n) = tt
exit_quiet state Uninitialized = tt
exit_quiet state pointer = tt

-- ---- jumps

jump_quiet : (state : MachineState) (distance target : ℤ) → target ≡ pos (state.slot + 1) +ℤ distance → IsQuiet (jump_step state distance)
jump_quiet state distance (pos n) is = rw (sym is) tt
jump_quiet state distance (negsuc n) is = rw (sym is) tt

branch_quiet : (insn : Insn) (state : MachineState) (distance : ℤ) (taken : Bool) → IsQuiet (jump_step state distance) → IsQuiet (branch_step insn state distance taken)
branch_quiet insn state distance true jump = jump
branch_quiet insn state distance false jump = tt

-- ---- helpers

key_quiet : (program : Program) (state : MachineState) (go : ℕ → MapDef → ℕ → List ℕ → Step) → ((map : ℕ) (definition : MapDef) (shard : ℕ) (key : List ℕ) → IsQuiet (go map definition shard key)) → IsQuiet (with_key program state go)
key_quiet program state go each =
    quiet_twice (map_argument (register_value state R1)) (λ map. map_at program map)
    (λ map definition. or_trap (bytes_argument state (register_value state R2) definition.key_size) (λ key. go map definition (shard_of_key map definition.kind program.shards key) key))
    (λ map definition. quiet_then (bytes_argument state (register_value state R2) definition.key_size) (λ key. go map definition (shard_of_key map definition.kind program.shards key) key)
    (λ key. each map definition (shard_of_key map definition.kind program.shards key) key))

lookup_quiet : (program : Program) (state : MachineState) → IsQuiet (lookup_step program state)
lookup_quiet program state =
    key_quiet program state (λ map definition shard key. CallsMap (Lookup shard key) (λ reply. returned state (found_value map reply))) (λ map definition shard key. refl)

update_quiet : (program : Program) (state : MachineState) → IsQuiet (update_step program state)
update_quiet program state =
    let call : ℕ → List ℕ → List ℕ → ℕ → Step = λ shard key value flags. CallsMap (Update shard key value flags) (λ reply. returned state (answer_value reply)) in
    key_quiet program state
    (λ map definition shard key. or_trap (bytes_argument state (register_value state R3) definition.value_size) (λ value. or_trap (number_argument (register_value state R4)) (λ flags. call shard key value flags)))
    (λ map definition shard key. quiet_twice (bytes_argument state (register_value state R3) definition.value_size) (λ value. number_argument (register_value state R4)) (λ value flags. call shard key value flags) (λ value flags. refl))

delete_quiet : (program : Program) (state : MachineState) → IsQuiet (delete_step program state)
delete_quiet program state =
    key_quiet program state (λ map definition shard key. CallsMap (Delete shard key) (λ reply. returned state (answer_value reply))) (λ map definition shard key. refl)

adjust_quiet : (state : MachineState) → IsQuiet (adjust_head_step state)
adjust_quiet state =
    quiet_twice (context_argument (register_value state R1)) (λ context. number_argument (register_value state R2))
    (λ context delta. Continues (adjusted_state state (signed_value 32 (low_half delta)))) (λ context delta. tt)

helper_quiet : (program : Program) (state : MachineState) (number : ℤ) → IsQuiet (helper_step program state number)
helper_quiet program state number = by_helper (helper_of number)
  where
    by_helper : (helper : Option Helper) → IsQuiet (found_helper_step program state helper)
    by_helper (Some MapLookupElem) = lookup_quiet program state
    by_helper (Some MapUpdateElem) = update_quiet program state
    by_helper (Some MapDeleteElem) = delete_quiet program state
    by_helper (Some KtimeGetNs) = tt
    by_helper (Some GetSmpProcessorId) = tt
    by_helper (Some XdpAdjustHead) = adjust_quiet state
    by_helper None = tt

-- ---- the whole table

step_quiet : (program : Program) (state : MachineState) (insn : Insn) → IsQuiet (instruction_step program insn state)
unfolding slot_count
step_quiet program state (Alu width op dst source) = write_quiet (Alu width op dst source) state dst _
step_quiet program state (Neg width dst) = write_quiet (Neg width dst) state dst _
step_quiet program state (Movsx extension dst src) = write_quiet (Movsx extension dst src) state dst _
step_quiet program state (Movsx32 extension dst src) = write_quiet (Movsx32 extension dst src) state dst _
step_quiet program state (End order width dst) = write_quiet (End order width dst) state dst _
step_quiet program state (Ja distance) = jump_quiet state distance (pos (state.slot + 1) +ℤ distance) refl
step_quiet program state (Ja32 distance) = jump_quiet state distance (pos (state.slot + 1) +ℤ distance) refl
step_quiet program state (JumpIf width test dst source distance) = quiet_then (jump_outcome state width test (register_value state dst) (source_value state source)) (branch_step (JumpIf width test dst source distance) state distance) (λ taken.
    branch_quiet (JumpIf width test dst source distance) state distance taken (jump_quiet state distance (pos (state.slot + 1) +ℤ distance) refl))
step_quiet program state (Ldx size dst src offset) = load_quiet program (Ldx size dst src offset) state dst _ offset size
step_quiet program state (Ldxs extension dst src offset) = load_signed_quiet program (Ldxs extension dst src offset) state dst _ offset extension
step_quiet program state (St size dst offset immediate) = store_quiet program (St size dst offset immediate) state _ offset size _
step_quiet program state (Stx size dst src offset) = store_quiet program (Stx size dst src offset) state _ offset size _
step_quiet program state (AtomicUpdate width op dst src offset) = atomic_quiet program (AtomicUpdate width op dst src offset) state width op _ src offset
step_quiet program state (Lddw dst value) = write_quiet (Lddw dst value) state dst (Ok (Number value))
step_quiet program state (Ldmap dst map) = write_quiet (Ldmap dst map) state dst _
step_quiet program state (Ldval dst map offset) = value_address_quiet program (Ldval dst map offset) state dst map offset
step_quiet program state (CallHelper helper) = helper_quiet program state helper
step_quiet program state Exit = exit_quiet state _

-- what a program's next instruction calls
pub run_is_quiet : (program : Program) (state : MachineState) → IsQuiet (next_step program state)
run_is_quiet program state = by_found (instruction_at program.code state.slot) where
  by_found : (found : Option Insn) → IsQuiet (step_of program found state)
  by_found (Some insn) = step_quiet program state insn
  by_found None = tt
