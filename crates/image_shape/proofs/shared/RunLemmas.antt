-- Each step that goes on does so along an edge.
use Rattle.std.proofs.Common.{◌≡◌, ℕ, ◌+◌, ◌%◌, ◌^◌, Bool, true, false, ℤ, pos, negsuc, ◌+ℤ◌, List, Option, Some, None, Ok, Err, refl, sym, ap, inl, inr, ◌*◌}
use Rattle.isa.specs.declared.operation.Width.{Width}
use Rattle.isa.specs.declared.operation.Size.{Size}
use Rattle.isa.specs.declared.operation.Extension.{Extension}
use Rattle.isa.specs.declared.operation.Register.{Register}
use Rattle.isa.specs.declared.operation.Register.TheVariants.{R1, R2, R3, R4, R10}
use Rattle.isa.specs.declared.operation.AtomicOp.{AtomicOp}
use Rattle.ebpf_decode.specs.declared.insn.Insn.{Insn}
use Rattle.ebpf_decode.specs.declared.insn.Insn.TheVariants.{Alu, Neg, Movsx, Movsx32, End, Ja, Ja32, JumpIf, Ldx, Ldxs, St, Stx, AtomicUpdate, Lddw, Ldmap, Ldval, CallHelper, Exit}
use Rattle.ebpf_decode.specs.declared.map.MapDef.{MapDef}
use Rattle.ebpf_decode.specs.InstructionEncoding.{slot_count}
use Rattle.isa.specs.InstructionCodes.{atomic_code, width_size, size_bytes}
use Rattle.semantics.specs.RegisterValue.{RegisterValue, Uninitialized, Number, ContextPointer, StackPointer, PacketPointer, CellPointer}
use Rattle.semantics.specs.MachineState.{MachineState, register_value, with_register}
use Rattle.semantics.specs.Program.{Program, shard_of_key}
use Rattle.semantics.specs.Step.{Outcome, or_trap, Step, Continues, CallsMap}
use Rattle.isa.specs.Words.{signed_value, low_half}
use Rattle.semantics.specs.Arithmetic.{source_value}
use Rattle.semantics.specs.declared.call.Call.TheVariants.{Lookup, Load, Store, Atomic, Update, Delete}
use Rattle.semantics.specs.Memory.{stack_range, stack_place, stack_with, packet_range, cell_range, aligned_cell_range, cell_ref}
use Rattle.semantics.specs.Comparison.{jump_outcome}
use Rattle.semantics.specs.Helpers.{map_argument, map_at, bytes_argument, number_argument, context_argument, returned, found_value, answer_value, adjusted_state, with_key, lookup_step, update_step, delete_step, adjust_head_step, found_helper_step, helper_step}
use Rattle.semantics.specs.declared.linux.Helper.{Helper}
use Rattle.semantics.specs.declared.linux.Helper.TheVariants.{MapLookupElem, MapUpdateElem, MapDeleteElem, KtimeGetNs, GetSmpProcessorId, XdpAdjustHead}
use Rattle.semantics.specs.Linux.{helper_of}
use Rattle.semantics.specs.Semantics.{first_key, value_address, value_address_step, word_value, stored_places, stored_number, with_fetched, expected_number, at_next_slot, jump_step, branch_step, written_register, write_step, load_cell_step, load_step, load_signed_step, store_step, after_fetch, atomic_step, exit_step, instruction_step}
use Rattle.isa.specs.Atomic.{fetched_register}
use Rattle.ebpf_decode.specs.Jumps.{jump_distance}
use Rattle.image_shape.specs.Edges.{falls_through, IsEdge}
use Rattle.image_shape.specs.Runs.{GoesTo, RunsFollowEdges}

goes : (P : ℕ → Type 0) {A : Type 0} (outcome : Outcome A) (go : A → Step) → ((a : A) → GoesTo P (go a)) → GoesTo P (or_trap outcome go)
goes P (Ok a) go each = each a
goes P (Err cause) go each = tt

goes_twice : (P : ℕ → Type 0) {A B : Type 0} (outcome : Outcome A) (second : A → Outcome B) (go : A → B → Step) → ((a : A) (b : B) → GoesTo P (go a b)) → GoesTo P (or_trap outcome (λ a. or_trap (second a) (λ b. go a b)))
goes_twice P outcome second go each = goes P outcome (λ a. or_trap (second a) (λ b. go a b)) (λ a. goes P (second a) (λ b. go a b) (λ b. each a b))

written_goes : (P : ℕ → Type 0) (insn : Insn) (state : MachineState) (register : Register) (value : RegisterValue) → P (state.slot + slot_count insn)
    → GoesTo P (or_trap (written_register state register value) (λ written. Continues (at_next_slot insn written)))
written_goes P insn state R10 value next = tt
written_goes P insn state register value next = next

write_goes : (P : ℕ → Type 0) (insn : Insn) (state : MachineState) (register : Register) (outcome : Outcome RegisterValue) → P (state.slot + slot_count insn) → GoesTo P (write_step insn state register outcome)
write_goes P insn state register (Ok value) next = written_goes P insn state register value next
write_goes P insn state register (Err cause) next = tt

load_cell_goes : (P : ℕ → Type 0) (program : Program) (insn : Insn) (state : MachineState) (dst : Register) (map shard cell : ℕ) (offset : ℤ) (count : ℕ) (convert : ℕ → ℕ) → P (state.slot + slot_count insn)
    → GoesTo P (load_cell_step program insn state dst map shard cell offset count convert)
load_cell_goes P program insn state dst map shard cell offset count convert next =
    goes_twice P (cell_range program map offset count) (λ from. written_register state dst Uninitialized)
    (λ from checked. CallsMap (Load (cell_ref shard cell) from count) (λ reply. at_next_slot insn (with_register state dst (word_value convert reply)))) (λ from checked reply. next)

value_address_goes : (P : ℕ → Type 0) (program : Program) (insn : Insn) (state : MachineState) (dst : Register) (map : ℤ) (offset : ℕ) → P (state.slot + slot_count insn) → GoesTo P (value_address_step program insn state dst map offset)
value_address_goes P program insn state dst (pos map) offset next =
    goes_twice P (map_at program map) (λ definition. written_register state dst Uninitialized)
    (λ definition checked. CallsMap (Lookup (map * program.shards) first_key) (λ reply. at_next_slot insn (with_register state dst (value_address map offset reply)))) (λ definition checked reply. next)
value_address_goes P program insn state dst (negsuc before) offset next = tt

load_goes : (P : ℕ → Type 0) (program : Program) (insn : Insn) (state : MachineState) (dst : Register) (base : RegisterValue) (offset : ℤ) (size : Size) → P (state.slot + slot_count insn)
    → GoesTo P (load_step program insn state dst base offset size)
load_goes P program insn state dst ContextPointer offset size next = write_goes P insn state dst _ next
load_goes P program insn state dst (StackPointer place) offset size next = write_goes P insn state dst _ next
load_goes P program insn state dst (PacketPointer generation place) offset size next = write_goes P insn state dst _ next
load_goes P program insn state dst (CellPointer map shard cell at) offset size next = load_cell_goes P program insn state dst map shard cell _ _ _ next
load_goes P program insn state dst Uninitialized offset size next = tt
load_goes P program insn state dst value offset size next = tt

load_signed_goes : (P : ℕ → Type 0) (program : Program) (insn : Insn) (state : MachineState) (dst : Register) (base : RegisterValue) (offset : ℤ) (extension : Extension) → P (state.slot + slot_count insn)
    → GoesTo P (load_signed_step program insn state dst base offset extension)
load_signed_goes P program insn state dst (StackPointer place) offset extension next = write_goes P insn state dst _ next
load_signed_goes P program insn state dst (PacketPointer generation place) offset extension next = write_goes P insn state dst _ next
load_signed_goes P program insn state dst (CellPointer map shard cell at) offset extension next = load_cell_goes P program insn state dst map shard cell _ _ _ next
load_signed_goes P program insn state dst ContextPointer offset extension next = tt
load_signed_goes P program insn state dst Uninitialized offset extension next = tt
load_signed_goes P program insn state dst value offset extension next = tt

store_goes : (P : ℕ → Type 0) (program : Program) (insn : Insn) (state : MachineState) (base : RegisterValue) (offset : ℤ) (size : Size) (value : RegisterValue) → P (state.slot + slot_count insn)
    → GoesTo P (store_step program insn state base offset size value)
store_goes P program insn state (StackPointer place) offset size value next =
    goes_twice P (stack_range state.stack (stack_place (place +ℤ offset)) (size_bytes size)) (λ from. stored_places value size)
    (λ from places. Continues (at_next_slot insn (record state { stack = stack_with state.stack from places }))) (λ from places. next)
store_goes P program insn state (PacketPointer generation place) offset size value next =
    goes_twice P (packet_range state generation (place +ℤ offset) (size_bytes size)) (λ from. stored_number value)
    (λ from n. Continues (at_next_slot insn (record state { frame = _ }))) (λ from n. next)
store_goes P program insn state (CellPointer map shard cell at) offset size value next =
    goes_twice P (cell_range program map (at +ℤ offset) (size_bytes size)) (λ from. stored_number value)
    (λ from n. CallsMap (Store (cell_ref shard cell) from (size_bytes size) (n % 256 ^ size_bytes size)) (λ reply. at_next_slot insn state)) (λ from n reply. next)
store_goes P program insn state ContextPointer offset size value next = tt
store_goes P program insn state Uninitialized offset size value next = tt
store_goes P program insn state pointer offset size value next = tt

fetch_goes : (P : ℕ → Type 0) (insn : Insn) (state : MachineState) (register : Option Register) (value : RegisterValue) → P (state.slot + slot_count insn) → P (at_next_slot insn (after_fetch state register value)).slot
fetch_goes P insn state None value next = next
fetch_goes P insn state (Some register) value next = next

atomic_goes : (P : ℕ → Type 0) (program : Program) (insn : Insn) (state : MachineState) (width : Width) (op : AtomicOp) (base : RegisterValue) (src : Register) (offset : ℤ) → P (state.slot + slot_count insn)
    → GoesTo P (atomic_step program insn state width op base src offset)
atomic_goes P program insn state width op (CellPointer map shard cell at) src offset next =
    let fetched = fetched_register op src in
    let call : ℕ → ℕ → ℕ → Step = λ from n expected.
    CallsMap (Atomic (cell_ref shard cell) from (size_bytes (width_size width)) (atomic_code op) (n % 256 ^ size_bytes (width_size width)) (expected % 256 ^ size_bytes (width_size width)))
    (λ reply. at_next_slot insn (after_fetch state (fetched_register op src) (word_value (λ old. old) reply))) in
    goes_twice P (aligned_cell_range program map (at +ℤ offset) (size_bytes (width_size width))) (λ from. stored_number (register_value state src))
    (λ from n. or_trap (expected_number state op) (λ expected. or_trap (with_fetched state (fetched_register op src) Uninitialized) (λ checked. call from n expected)))
    (λ from n. goes_twice P (expected_number state op) (λ expected. with_fetched state (fetched_register op src) Uninitialized) (λ expected checked. call from n expected)
    (λ expected checked reply. fetch_goes P insn state (fetched_register op src) (word_value (λ old. old) reply) next))
atomic_goes P program insn state width op Uninitialized src offset next = tt
atomic_goes P program insn state width op value src offset next = tt

exit_goes : (P : ℕ → Type 0) (state : MachineState) (value : RegisterValue) → GoesTo P (exit_step state value)
exit_goes P state (Number n) = tt
exit_goes P state Uninitialized = tt
exit_goes P state pointer = tt

-- ---- jumps

jump_goes : (P : ℕ → Type 0) (state : MachineState) (distance target : ℤ) → target ≡ pos (state.slot + 1) +ℤ distance → ((n : ℕ) → pos n ≡ pos (state.slot + 1) +ℤ distance → P n) → GoesTo P (jump_step state distance)
jump_goes P state distance (pos n) is each = rw (sym is) (each n is)
jump_goes P state distance (negsuc n) is each = rw (sym is) tt

branch_goes : (P : ℕ → Type 0) (insn : Insn) (state : MachineState) (distance : ℤ) (taken : Bool) → GoesTo P (jump_step state distance) → P (state.slot + slot_count insn) → GoesTo P (branch_step insn state distance taken)
branch_goes P insn state distance true jump next = jump
branch_goes P insn state distance false jump next = next

-- ---- helpers

key_goes : (P : ℕ → Type 0) (program : Program) (state : MachineState) (go : ℕ → MapDef → ℕ → List ℕ → Step) → ((map : ℕ) (definition : MapDef) (shard : ℕ) (key : List ℕ) → GoesTo P (go map definition shard key)) → GoesTo P (with_key program state go)
key_goes P program state go each =
    goes_twice P (map_argument (register_value state R1)) (λ map. map_at program map)
    (λ map definition. or_trap (bytes_argument state (register_value state R2) definition.key_size) (λ key. go map definition (shard_of_key map definition.kind program.shards key) key))
    (λ map definition. goes P (bytes_argument state (register_value state R2) definition.key_size) (λ key. go map definition (shard_of_key map definition.kind program.shards key) key)
    (λ key. each map definition (shard_of_key map definition.kind program.shards key) key))

lookup_goes : (P : ℕ → Type 0) (program : Program) (state : MachineState) → P (state.slot + 1) → GoesTo P (lookup_step program state)
lookup_goes P program state next =
    key_goes P program state (λ map definition shard key. CallsMap (Lookup shard key) (λ reply. returned state (found_value map reply))) (λ map definition shard key reply. next)

update_goes : (P : ℕ → Type 0) (program : Program) (state : MachineState) → P (state.slot + 1) → GoesTo P (update_step program state)
update_goes P program state next =
    let call : ℕ → List ℕ → List ℕ → ℕ → Step = λ shard key value flags. CallsMap (Update shard key value flags) (λ reply. returned state (answer_value reply)) in
    key_goes P program state
    (λ map definition shard key. or_trap (bytes_argument state (register_value state R3) definition.value_size) (λ value. or_trap (number_argument (register_value state R4)) (λ flags. call shard key value flags)))
    (λ map definition shard key. goes_twice P (bytes_argument state (register_value state R3) definition.value_size) (λ value. number_argument (register_value state R4)) (λ value flags. call shard key value flags) (λ value flags reply. next))

delete_goes : (P : ℕ → Type 0) (program : Program) (state : MachineState) → P (state.slot + 1) → GoesTo P (delete_step program state)
delete_goes P program state next =
    key_goes P program state (λ map definition shard key. CallsMap (Delete shard key) (λ reply. returned state (answer_value reply))) (λ map definition shard key reply. next)

adjust_goes : (P : ℕ → Type 0) (state : MachineState) → P (state.slot + 1) → GoesTo P (adjust_head_step state)
adjust_goes P state next =
    goes_twice P (context_argument (register_value state R1)) (λ context. number_argument (register_value state R2))
    (λ context distance. Continues (adjusted_state state (signed_value 32 (low_half distance)))) (λ context distance. next)

helper_goes : (P : ℕ → Type 0) (program : Program) (state : MachineState) (number : ℤ) → P (state.slot + 1) → GoesTo P (helper_step program state number)
helper_goes P program state number next = by_helper (helper_of number)
  where
    by_helper : (helper : Option Helper) → GoesTo P (found_helper_step program state helper)
    by_helper (Some MapLookupElem) = lookup_goes P program state next
    by_helper (Some MapUpdateElem) = update_goes P program state next
    by_helper (Some MapDeleteElem) = delete_goes P program state next
    by_helper (Some KtimeGetNs) = next
    by_helper (Some GetSmpProcessorId) = next
    by_helper (Some XdpAdjustHead) = adjust_goes P state next
    by_helper None = tt

-- ---- the whole table

step_goes : (program : Program) (state : MachineState) (insn : Insn) → GoesTo (IsEdge state.slot insn) (instruction_step program insn state)
unfolding jump_distance falls_through slot_count
step_goes program state (Alu width op dst source) = write_goes (IsEdge state.slot (Alu width op dst source)) (Alu width op dst source) state dst _ (inl (refl, refl))
step_goes program state (Neg width dst) = write_goes (IsEdge state.slot (Neg width dst)) (Neg width dst) state dst _ (inl (refl, refl))
step_goes program state (Movsx extension dst src) = write_goes (IsEdge state.slot (Movsx extension dst src)) (Movsx extension dst src) state dst _ (inl (refl, refl))
step_goes program state (Movsx32 extension dst src) = write_goes (IsEdge state.slot (Movsx32 extension dst src)) (Movsx32 extension dst src) state dst _ (inl (refl, refl))
step_goes program state (End order width dst) = write_goes (IsEdge state.slot (End order width dst)) (End order width dst) state dst _ (inl (refl, refl))
step_goes program state (Ja distance) = jump_goes (IsEdge state.slot (Ja distance)) state distance (pos (state.slot + 1) +ℤ distance) refl (λ n is. inr (ap Some (sym is)))
step_goes program state (Ja32 distance) = jump_goes (IsEdge state.slot (Ja32 distance)) state distance (pos (state.slot + 1) +ℤ distance) refl (λ n is. inr (ap Some (sym is)))
step_goes program state (JumpIf width test dst source distance) =
    goes (IsEdge state.slot (JumpIf width test dst source distance)) (jump_outcome state width test (register_value state dst) (source_value state source)) (branch_step (JumpIf width test dst source distance) state distance) (λ taken.
    branch_goes (IsEdge state.slot (JumpIf width test dst source distance)) (JumpIf width test dst source distance) state distance taken
    (jump_goes (IsEdge state.slot (JumpIf width test dst source distance)) state distance (pos (state.slot + 1) +ℤ distance) refl (λ n is. inr (ap Some (sym is)))) (inl (refl, refl)))
step_goes program state (Ldx size dst src offset) = load_goes (IsEdge state.slot (Ldx size dst src offset)) program (Ldx size dst src offset) state dst _ offset size (inl (refl, refl))
step_goes program state (Ldxs extension dst src offset) = load_signed_goes (IsEdge state.slot (Ldxs extension dst src offset)) program (Ldxs extension dst src offset) state dst _ offset extension (inl (refl, refl))
step_goes program state (St size dst offset immediate) = store_goes (IsEdge state.slot (St size dst offset immediate)) program (St size dst offset immediate) state _ offset size _ (inl (refl, refl))
step_goes program state (Stx size dst src offset) = store_goes (IsEdge state.slot (Stx size dst src offset)) program (Stx size dst src offset) state _ offset size _ (inl (refl, refl))
step_goes program state (AtomicUpdate width op dst src offset) = atomic_goes (IsEdge state.slot (AtomicUpdate width op dst src offset)) program (AtomicUpdate width op dst src offset) state width op _ src offset (inl (refl, refl))
step_goes program state (Lddw dst value) = write_goes (IsEdge state.slot (Lddw dst value)) (Lddw dst value) state dst (Ok (Number value)) (inl (refl, refl))
step_goes program state (Ldmap dst map) = write_goes (IsEdge state.slot (Ldmap dst map)) (Ldmap dst map) state dst _ (inl (refl, refl))
step_goes program state (Ldval dst map offset) = value_address_goes (IsEdge state.slot (Ldval dst map offset)) program (Ldval dst map offset) state dst map offset (inl (refl, refl))
step_goes program state (CallHelper helper) = helper_goes (IsEdge state.slot (CallHelper helper)) program state helper (inl (refl, refl))
step_goes program state Exit = exit_goes (IsEdge state.slot Exit) state _

pub runs_follow_edges : RunsFollowEdges
runs_follow_edges program state insn found =
    rw found (step_goes program state insn)
