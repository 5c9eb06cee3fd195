-- An instruction that only reads does the same on whichever worker.
use Rattle.std.proofs.Common.{◌≡◌, ℕ, Bool, true, false, ℤ, pos, negsuc, List, Option, Some, None, Ok, Err, refl, sym, ◌∙◌, ap, subst}
use Rattle.std.specs.Prelude.{◌+ℤ◌}
use Rattle.isa.specs.Words.{twos_complement}
use Rattle.isa.specs.InstructionCodes.{size_bytes, width_size, extension_size}
use Rattle.isa.specs.declared.operation.Width.{Width}
use Rattle.isa.specs.declared.operation.Size.{Size}
use Rattle.isa.specs.declared.operation.Size.TheVariants.{U8, U16, U32, U64}
use Rattle.isa.specs.declared.operation.Extension.{Extension}
use Rattle.isa.specs.declared.operation.AtomicOp.{AtomicOp}
use Rattle.isa.specs.declared.operation.AtomicOp.TheVariants.{CompareExchange}
use Rattle.isa.specs.declared.operation.Test.{Test}
use Rattle.isa.specs.declared.operation.SourceOperand.{SourceOperand}
use Rattle.isa.specs.declared.operation.SourceOperand.TheVariants.{Imm, Reg}
use Rattle.isa.specs.declared.operation.Register.{Register}
use Rattle.isa.specs.declared.operation.Register.TheVariants.{R0, R1, R2, R3, R4, R5, R6, R7, R8, R9, R10}
use Rattle.isa.specs.Atomic.{fetched_register}
use Rattle.ebpf_decode.specs.declared.insn.Insn.{Insn}
use Rattle.ebpf_decode.specs.declared.insn.Insn.TheVariants.{Alu, Neg, Movsx, Movsx32, End, Ja, Ja32, JumpIf, Ldx, Ldxs, St, Stx, AtomicUpdate, Lddw, Ldmap, Ldval, CallHelper, Exit}
use Rattle.ebpf_decode.specs.declared.map.MapDef.{MapDef}
use Rattle.semantics.specs.declared.call.Call.TheVariants.{Lookup, Update, Delete}
use Rattle.semantics.specs.declared.call.Reply.{Reply}
use Rattle.semantics.specs.declared.linux.ContextField.{ContextField}
use Rattle.semantics.specs.declared.linux.ContextField.TheVariants.{Data, DataEnd, IngressIfindex, RxQueueIndex}
use Rattle.semantics.specs.declared.linux.Helper.{Helper}
use Rattle.semantics.specs.declared.linux.Helper.TheVariants.{MapLookupElem, MapUpdateElem, MapDeleteElem, KtimeGetNs, GetSmpProcessorId, XdpAdjustHead}
use Rattle.semantics.specs.Linux.{helper_of, field_at}
use Rattle.semantics.specs.RegisterValue.{RegisterValue, Uninitialized, Number, ContextPointer, StackPointer, PacketPointer, PacketEnd, MapPointer, CellPointer}
use Rattle.semantics.specs.MachineState.{MachineState, register_value}
use Rattle.semantics.specs.Program.{Program, shard_of_key}
use Rattle.semantics.specs.Step.{Outcome, then_outcome, Step, or_trap, Continues, CallsMap, Exits, Traps}
use Rattle.semantics.specs.Arithmetic.{source_value, changed_number, alu_outcome}
use Rattle.semantics.specs.Comparison.{jump_outcome}
use Rattle.semantics.specs.Memory.{field_outcome, context_field, packet_range, packet_value, stack_value, cell_range, aligned_cell_range}
use Rattle.semantics.specs.Helpers.{returned, found_value, answer_value, map_argument, map_at, bytes_argument, number_argument, context_argument, with_key, found_helper_step}
use Rattle.semantics.specs.Semantics.{extended, write_step, written_register, jump_step, branch_step, load_step, load_signed_step, load_cell_step, store_step, stored_places, stored_number, with_fetched, after_fetch, expected_number, atomic_step, value_address_step, exit_step, instruction_step, at_next_slot}
use Rattle.abstract_state.specs.Soundness.{JumpsForward}
use Rattle.guarantees.specs.SameRuns.{at_worker}

-- ---- steps that differ in the worker alone

abbrev pub SameStep : ℕ → Step → Step → Type 0
SameStep worker (Continues a) (Continues b) = b ≡ at_worker worker a
SameStep worker (CallsMap call go) (CallsMap other on) = (other ≡ call) × ((reply : Reply) → on reply ≡ at_worker worker (go reply))
SameStep worker (Exits verdict a) (Exits other b) = (other ≡ verdict) × (b ≡ at_worker worker a)
SameStep worker (Traps cause) (Traps other) = other ≡ cause
SameStep worker a b = ⊥

same_trap : {A : Type 0} (worker : ℕ) (o p : Outcome A) (f g : A → Step) → p ≡ o → ((x : A) → SameStep worker (f x) (g x)) → SameStep worker (or_trap o f) (or_trap p g)
same_trap worker (Ok x) p f g e same = subst (λ p. SameStep worker (f x) (or_trap p g)) (sym e) (same x)
same_trap worker (Err cause) p f g e same = subst (λ p. SameStep worker (Traps cause) (or_trap p g)) (sym e) refl

same_written : (worker : ℕ) (state : MachineState) (dst : Register) (value : RegisterValue) (f g : MachineState → Step) →
    ((next : MachineState) → SameStep worker (f next) (g (at_worker worker next))) →
    SameStep worker (or_trap (written_register state dst value) f) (or_trap (written_register (at_worker worker state) dst value) g)
same_written worker state R0 value f g same = same _
same_written worker state R1 value f g same = same _
same_written worker state R2 value f g same = same _
same_written worker state R3 value f g same = same _
same_written worker state R4 value f g same = same _
same_written worker state R5 value f g same = same _
same_written worker state R6 value f g same = same _
same_written worker state R7 value f g same = same _
same_written worker state R8 value f g same = same _
same_written worker state R9 value f g same = same _
same_written worker state R10 value f g same = refl

same_write : (worker : ℕ) (insn : Insn) (state : MachineState) (dst : Register) (o p : Outcome RegisterValue) → p ≡ o →
    SameStep worker (write_step insn state dst o) (write_step insn (at_worker worker state) dst p)
same_write worker insn state dst o p e =
    same_trap worker o p _ _ e (λ value. same_written worker state dst value _ _ (λ next. refl))

-- ---- what does not ask for the worker

same_source : (worker : ℕ) (state : MachineState) (source : SourceOperand) → source_value (at_worker worker state) source ≡ source_value state source
same_source worker state (Imm immediate) = refl
same_source worker state (Reg register) = refl

same_range : (worker : ℕ) (state : MachineState) (generation : ℕ) (place : ℤ) (count : ℕ) →
    packet_range (at_worker worker state) generation place count ≡ packet_range state generation place count
same_range worker state generation (pos place) count = refl
same_range worker state generation (negsuc below) count = refl

same_packet : (worker : ℕ) (state : MachineState) (generation : ℕ) (place : ℤ) (count : ℕ) →
    packet_value (at_worker worker state) generation place count ≡ packet_value state generation place count
same_packet worker state generation (pos place) count = refl
same_packet worker state generation (negsuc below) count = refl

same_bytes : (worker : ℕ) (state : MachineState) (value : RegisterValue) (count : ℕ) → bytes_argument (at_worker worker state) value count ≡ bytes_argument state value count
same_bytes worker state Uninitialized count = refl
same_bytes worker state (Number n) count = refl
same_bytes worker state ContextPointer count = refl
same_bytes worker state (StackPointer place) count = refl
same_bytes worker state (PacketPointer g place) count = refl
same_bytes worker state (PacketEnd g) count = refl
same_bytes worker state (MapPointer map) count = refl
same_bytes worker state (CellPointer map shard cell offset) count = refl

-- a field of the context that is no queue's number
same_field : (worker : ℕ) (state : MachineState) (found : Option ContextField) → (found ≡ Some RxQueueIndex → ⊥) →
    field_outcome (at_worker worker state) found ≡ field_outcome state found
same_field worker state None other = refl
same_field worker state (Some Data) other = refl
same_field worker state (Some DataEnd) other = refl
same_field worker state (Some IngressIfindex) other = refl
same_field worker state (Some RxQueueIndex) other = absurd (other refl)

same_context : (worker : ℕ) (state : MachineState) (size : Size) (offset : ℤ) → (field_at offset ≡ Some RxQueueIndex → ⊥) →
    context_field (at_worker worker state) size offset ≡ context_field state size offset
same_context worker state U32 offset other = same_field worker state (field_at offset) other
same_context worker state U8 offset other = refl
same_context worker state U16 offset other = refl
same_context worker state U64 offset other = refl

-- ---- tests

same_against_end : (worker : ℕ) (state : MachineState) (width : Width) (test : Test) (g : ℕ) (place : ℤ) (b : RegisterValue) →
    jump_outcome (at_worker worker state) width test (PacketPointer g place) b ≡ jump_outcome state width test (PacketPointer g place) b
same_against_end worker state width test g place Uninitialized = refl
same_against_end worker state width test g place (Number n) = refl
same_against_end worker state width test g place ContextPointer = refl
same_against_end worker state width test g place (StackPointer other) = refl
same_against_end worker state width test g place (PacketPointer h other) = refl
same_against_end worker state width test g place (PacketEnd h) = refl
same_against_end worker state width test g place (MapPointer map) = refl
same_against_end worker state width test g place (CellPointer map shard cell offset) = refl

same_end_against : (worker : ℕ) (state : MachineState) (width : Width) (test : Test) (g : ℕ) (b : RegisterValue) →
    jump_outcome (at_worker worker state) width test (PacketEnd g) b ≡ jump_outcome state width test (PacketEnd g) b
same_end_against worker state width test g Uninitialized = refl
same_end_against worker state width test g (Number n) = refl
same_end_against worker state width test g ContextPointer = refl
same_end_against worker state width test g (StackPointer other) = refl
same_end_against worker state width test g (PacketPointer h other) = refl
same_end_against worker state width test g (PacketEnd h) = refl
same_end_against worker state width test g (MapPointer map) = refl
same_end_against worker state width test g (CellPointer map shard cell offset) = refl

same_test : (worker : ℕ) (state : MachineState) (width : Width) (test : Test) (a b : RegisterValue) →
    jump_outcome (at_worker worker state) width test a b ≡ jump_outcome state width test a b
same_test worker state width test Uninitialized b = refl
same_test worker state width test (Number n) b = refl
same_test worker state width test ContextPointer b = refl
same_test worker state width test (StackPointer place) b = refl
same_test worker state width test (PacketPointer g place) b = same_against_end worker state width test g place b
same_test worker state width test (PacketEnd g) b = same_end_against worker state width test g b
same_test worker state width test (MapPointer map) b = refl
same_test worker state width test (CellPointer map shard cell offset) b = refl

same_jump : (worker : ℕ) (state : MachineState) (distance : ℤ) (n : ℕ) → distance ≡ pos n →
    SameStep worker (jump_step state distance) (jump_step (at_worker worker state) distance)
same_jump worker state distance n e = rw e refl

same_branch : (worker : ℕ) (insn : Insn) (state : MachineState) (distance : ℤ) (n : ℕ) → distance ≡ pos n → (taken : Bool) →
    SameStep worker (branch_step insn state distance taken) (branch_step insn (at_worker worker state) distance taken)
same_branch worker insn state distance n e true = same_jump worker state distance n e
same_branch worker insn state distance n e false = refl

-- ---- loads

same_cell_load : (worker : ℕ) (program : Program) (insn : Insn) (state : MachineState) (dst : Register) (map shard cell : ℕ) (at : ℤ) (count : ℕ) (convert : ℕ → ℕ) →
    SameStep worker (load_cell_step program insn state dst map shard cell at count convert) (load_cell_step program insn (at_worker worker state) dst map shard cell at count convert)
same_cell_load worker program insn state dst map shard cell at count convert =
    same_trap worker (cell_range program map at count) (cell_range program map at count) _ _ refl
    (λ from. same_written worker state dst Uninitialized _ _ (λ next. (refl, λ reply. refl)))

same_load : (worker : ℕ) (program : Program) (insn : Insn) (state : MachineState) (dst : Register) (value : RegisterValue) (offset : ℤ) (size : Size) →
    (value ≡ ContextPointer → field_at offset ≡ Some RxQueueIndex → ⊥) →
    SameStep worker (load_step program insn state dst value offset size) (load_step program insn (at_worker worker state) dst value offset size)
same_load worker program insn state dst ContextPointer offset size other =
    same_write worker insn state dst (context_field state size offset) (context_field (at_worker worker state) size offset) (same_context worker state size offset (other refl))
same_load worker program insn state dst (StackPointer place) offset size other =
    same_write worker insn state dst (stack_value state.stack (place +ℤ offset) (size_bytes size)) (stack_value state.stack (place +ℤ offset) (size_bytes size)) refl
same_load worker program insn state dst (PacketPointer g place) offset size other =
    same_write worker insn state dst (packet_value state g (place +ℤ offset) (size_bytes size)) (packet_value (at_worker worker state) g (place +ℤ offset) (size_bytes size))
    (same_packet worker state g (place +ℤ offset) (size_bytes size))
same_load worker program insn state dst (CellPointer map shard cell at) offset size other =
    same_cell_load worker program insn state dst map shard cell (at +ℤ offset) (size_bytes size) (λ n. n)
same_load worker program insn state dst Uninitialized offset size other = refl
same_load worker program insn state dst (Number n) offset size other = refl
same_load worker program insn state dst (PacketEnd g) offset size other = refl
same_load worker program insn state dst (MapPointer map) offset size other = refl

same_signed_load : (worker : ℕ) (program : Program) (insn : Insn) (state : MachineState) (dst : Register) (value : RegisterValue) (offset : ℤ) (extension : Extension) →
    SameStep worker (load_signed_step program insn state dst value offset extension) (load_signed_step program insn (at_worker worker state) dst value offset extension)
same_signed_load worker program insn state dst ContextPointer offset extension = refl
same_signed_load worker program insn state dst (StackPointer place) offset extension =
    same_write worker insn state dst
    (then_outcome (stack_value state.stack (place +ℤ offset) (size_bytes (extension_size extension))) (λ value. changed_number value (extended extension)))
    (then_outcome (stack_value state.stack (place +ℤ offset) (size_bytes (extension_size extension))) (λ value. changed_number value (extended extension))) refl
same_signed_load worker program insn state dst (PacketPointer g place) offset extension =
    same_write worker insn state dst
    (then_outcome (packet_value state g (place +ℤ offset) (size_bytes (extension_size extension))) (λ value. changed_number value (extended extension)))
    (then_outcome (packet_value (at_worker worker state) g (place +ℤ offset) (size_bytes (extension_size extension))) (λ value. changed_number value (extended extension)))
    (ap (λ (o : Outcome RegisterValue). then_outcome o (λ value. changed_number value (extended extension))) (same_packet worker state g (place +ℤ offset) (size_bytes (extension_size extension))))
same_signed_load worker program insn state dst (CellPointer map shard cell at) offset extension =
    same_cell_load worker program insn state dst map shard cell (at +ℤ offset) (size_bytes (extension_size extension)) (extended extension)
same_signed_load worker program insn state dst Uninitialized offset extension = refl
same_signed_load worker program insn state dst (Number n) offset extension = refl
same_signed_load worker program insn state dst (PacketEnd g) offset extension = refl
same_signed_load worker program insn state dst (MapPointer map) offset extension = refl

-- ---- stores

same_store : (worker : ℕ) (program : Program) (insn : Insn) (state : MachineState) (at : RegisterValue) (offset : ℤ) (size : Size) (value : RegisterValue) →
    SameStep worker (store_step program insn state at offset size value) (store_step program insn (at_worker worker state) at offset size value)
same_store worker program insn state (StackPointer place) offset size value =
    same_trap worker _ _ _ _ refl (λ from. same_trap worker (stored_places value size) (stored_places value size) _ _ refl (λ places. refl))
same_store worker program insn state (PacketPointer g place) offset size value =
    same_trap worker _ _ _ _ (same_range worker state g (place +ℤ offset) (size_bytes size))
    (λ from. same_trap worker (stored_number value) (stored_number value) _ _ refl (λ n. refl))
same_store worker program insn state (CellPointer map shard cell at) offset size value =
    same_trap worker _ _ _ _ refl (λ from. same_trap worker (stored_number value) (stored_number value) _ _ refl (λ n. (refl, λ reply. refl)))
same_store worker program insn state ContextPointer offset size value = refl
same_store worker program insn state Uninitialized offset size value = refl
same_store worker program insn state (Number n) offset size value = refl
same_store worker program insn state (PacketEnd g) offset size value = refl
same_store worker program insn state (MapPointer map) offset size value = refl

-- ---- addresses in values

same_address : (worker : ℕ) (program : Program) (insn : Insn) (state : MachineState) (dst : Register) (map : ℤ) (offset : ℕ) →
    SameStep worker (value_address_step program insn state dst map offset) (value_address_step program insn (at_worker worker state) dst map offset)
same_address worker program insn state dst (pos map) offset =
    same_trap worker (map_at program map) (map_at program map) _ _ refl
    (λ definition. same_written worker state dst Uninitialized _ _ (λ next. (refl, λ reply. refl)))
same_address worker program insn state dst (negsuc below) offset = refl

same_exit : (worker : ℕ) (state : MachineState) (value : RegisterValue) → SameStep worker (exit_step state value) (exit_step (at_worker worker state) value)
same_exit worker state Uninitialized = refl
same_exit worker state (Number n) = (refl, refl)
same_exit worker state ContextPointer = refl
same_exit worker state (StackPointer place) = refl
same_exit worker state (PacketPointer g place) = refl
same_exit worker state (PacketEnd g) = refl
same_exit worker state (MapPointer map) = refl
same_exit worker state (CellPointer map shard cell offset) = refl

-- ---- helpers

same_key : (worker : ℕ) (program : Program) (state : MachineState) (go on : ℕ → MapDef → ℕ → List ℕ → Step) →
    ((map : ℕ) (definition : MapDef) (shard : ℕ) (key : List ℕ) → SameStep worker (go map definition shard key) (on map definition shard key)) →
    SameStep worker (with_key program state go) (with_key program (at_worker worker state) on)
same_key worker program state go on same =
    same_trap worker (map_argument (register_value state R1)) (map_argument (register_value state R1)) _ _ refl (λ map.
    same_trap worker (map_at program map) (map_at program map) _ _ refl (λ definition.
    same_trap worker _ _ _ _ (same_bytes worker state (register_value state R2) definition.key_size) (λ key.
    same map definition (shard_of_key map definition.kind program.shards key) key)))

-- what an update asks for beside its key
abbrev updating : MachineState → ℕ → MapDef → ℕ → List ℕ → Step
updating state map definition shard key =
    or_trap (bytes_argument state (register_value state R3) definition.value_size) (λ value.
    or_trap (number_argument (register_value state R4)) (λ flags.
    CallsMap (Update shard key value flags) (λ reply. returned state (answer_value reply))))

same_helper : (worker : ℕ) (program : Program) (state : MachineState) (found : Option Helper) → (found ≡ Some GetSmpProcessorId → ⊥) →
    SameStep worker (found_helper_step program state found) (found_helper_step program (at_worker worker state) found)
same_helper worker program state None other = refl
same_helper worker program state (Some MapLookupElem) other =
    same_key worker program state (λ map definition shard key. CallsMap (Lookup shard key) (λ reply. returned state (found_value map reply)))
    (λ map definition shard key. CallsMap (Lookup shard key) (λ reply. returned (at_worker worker state) (found_value map reply))) (λ map definition shard key. (refl, λ reply. refl))
same_helper worker program state (Some MapUpdateElem) other =
    same_key worker program state (updating state) (updating (at_worker worker state)) (λ map definition shard key.
    same_trap worker (bytes_argument state (register_value state R3) definition.value_size) (bytes_argument (at_worker worker state) (register_value state R3) definition.value_size)
    (λ value. or_trap (number_argument (register_value state R4)) (λ flags. CallsMap (Update shard key value flags) (λ reply. returned state (answer_value reply))))
    (λ value. or_trap (number_argument (register_value state R4)) (λ flags. CallsMap (Update shard key value flags) (λ reply. returned (at_worker worker state) (answer_value reply))))
    (same_bytes worker state (register_value state R3) definition.value_size) (λ value.
    same_trap worker (number_argument (register_value state R4)) (number_argument (register_value state R4))
    (λ flags. CallsMap (Update shard key value flags) (λ reply. returned state (answer_value reply)))
    (λ flags. CallsMap (Update shard key value flags) (λ reply. returned (at_worker worker state) (answer_value reply))) refl (λ flags. (refl, λ reply. refl))))
same_helper worker program state (Some MapDeleteElem) other =
    same_key worker program state (λ map definition shard key. CallsMap (Delete shard key) (λ reply. returned state (answer_value reply)))
    (λ map definition shard key. CallsMap (Delete shard key) (λ reply. returned (at_worker worker state) (answer_value reply))) (λ map definition shard key. (refl, λ reply. refl))
same_helper worker program state (Some KtimeGetNs) other = refl
same_helper worker program state (Some GetSmpProcessorId) other = absurd (other refl)
same_helper worker program state (Some XdpAdjustHead) other =
    same_trap worker (context_argument (register_value state R1)) (context_argument (register_value state R1)) _ _ refl (λ context.
    same_trap worker (number_argument (register_value state R2)) (number_argument (register_value state R2)) _ _ refl (λ distance. refl))

-- ---- atomic operations

same_expected : (worker : ℕ) (state : MachineState) (op : AtomicOp) → expected_number (at_worker worker state) op ≡ expected_number state op
same_expected worker state CompareExchange = refl
same_expected worker state op = refl

same_fetched : (worker : ℕ) (state : MachineState) (register : Option Register) (value : RegisterValue) (f g : MachineState → Step) →
    ((next : MachineState) → SameStep worker (f next) (g (at_worker worker next))) →
    SameStep worker (or_trap (with_fetched state register value) f) (or_trap (with_fetched (at_worker worker state) register value) g)
same_fetched worker state None value f g same = same state
same_fetched worker state (Some register) value f g same = same_written worker state register value f g same

same_after : (worker : ℕ) (insn : Insn) (state : MachineState) (register : Option Register) (value : RegisterValue) →
    at_next_slot insn (after_fetch (at_worker worker state) register value) ≡ at_worker worker (at_next_slot insn (after_fetch state register value))
same_after worker insn state None value = refl
same_after worker insn state (Some register) value = refl

same_atomic : (worker : ℕ) (program : Program) (insn : Insn) (state : MachineState) (width : Width) (op : AtomicOp) (at : RegisterValue) (src : Register) (offset : ℤ) →
    SameStep worker (atomic_step program insn state width op at src offset) (atomic_step program insn (at_worker worker state) width op at src offset)
same_atomic worker program insn state width op (CellPointer map shard cell at) src offset =
    same_trap worker (aligned_cell_range program map (at +ℤ offset) (size_bytes (width_size width))) (aligned_cell_range program map (at +ℤ offset) (size_bytes (width_size width))) _ _ refl (λ from.
    same_trap worker (stored_number (register_value state src)) (stored_number (register_value state src)) _ _ refl (λ n.
    same_trap worker _ _ _ _ (same_expected worker state op) (λ expected.
    same_fetched worker state (fetched_register op src) Uninitialized _ _ (λ next.
    (refl, λ reply. same_after worker insn state (fetched_register op src) _)))))
same_atomic worker program insn state width op Uninitialized src offset = refl
same_atomic worker program insn state width op (Number n) src offset = refl
same_atomic worker program insn state width op ContextPointer src offset = refl
same_atomic worker program insn state width op (StackPointer place) src offset = refl
same_atomic worker program insn state width op (PacketPointer g place) src offset = refl
same_atomic worker program insn state width op (PacketEnd g) src offset = refl
same_atomic worker program insn state width op (MapPointer map) src offset = refl

-- ---- every instruction

-- the worker's number is not asked for
abbrev pub AsksNoWorker : Insn → MachineState → Type 0
AsksNoWorker (Ldx size dst src offset) state = register_value state src ≡ ContextPointer → field_at offset ≡ Some RxQueueIndex → ⊥
AsksNoWorker (CallHelper number) state = helper_of number ≡ Some GetSmpProcessorId → ⊥
AsksNoWorker insn state = Unit {0}

pub same_step : (worker : ℕ) (program : Program) (insn : Insn) (state : MachineState) → JumpsForward insn → AsksNoWorker insn state →
    SameStep worker (instruction_step program insn state) (instruction_step program insn (at_worker worker state))
same_step worker program (Alu width op dst source) state forward asks =
    same_write worker (Alu width op dst source) state dst _ _ (ap (alu_outcome width op (register_value state dst)) (same_source worker state source))
same_step worker program (Neg width dst) state forward asks = same_write worker (Neg width dst) state dst _ _ refl
same_step worker program (Movsx extension dst src) state forward asks = same_write worker (Movsx extension dst src) state dst _ _ refl
same_step worker program (Movsx32 extension dst src) state forward asks = same_write worker (Movsx32 extension dst src) state dst _ _ refl
same_step worker program (End order width dst) state forward asks = same_write worker (End order width dst) state dst _ _ refl
same_step worker program (Ja distance) state forward asks = same_jump worker state distance forward.0 forward.1
same_step worker program (Ja32 distance) state forward asks = same_jump worker state distance forward.0 forward.1
same_step worker program (JumpIf width test dst source distance) state forward asks =
    same_trap worker (jump_outcome state width test (register_value state dst) (source_value state source)) _ _ _
    (same_test worker state width test (register_value state dst) (source_value (at_worker worker state) source)
    ∙ ap (jump_outcome state width test (register_value state dst)) (same_source worker state source))
    (λ taken. same_branch worker (JumpIf width test dst source distance) state distance forward.0 forward.1 taken)
same_step worker program (Ldx size dst src offset) state forward asks = same_load worker program (Ldx size dst src offset) state dst (register_value state src) offset size asks
same_step worker program (Ldxs extension dst src offset) state forward asks =
    same_signed_load worker program (Ldxs extension dst src offset) state dst (register_value state src) offset extension
same_step worker program (St size dst offset immediate) state forward asks =
    same_store worker program (St size dst offset immediate) state (register_value state dst) offset size (Number (twos_complement 64 immediate))
same_step worker program (Stx size dst src offset) state forward asks =
    same_store worker program (Stx size dst src offset) state (register_value state dst) offset size (register_value state src)
same_step worker program (AtomicUpdate width op dst src offset) state forward asks =
    same_atomic worker program (AtomicUpdate width op dst src offset) state width op (register_value state dst) src offset
same_step worker program (Lddw dst value) state forward asks = same_write worker (Lddw dst value) state dst (Ok (Number value)) (Ok (Number value)) refl
same_step worker program (Ldmap dst map) state forward asks = same_write worker (Ldmap dst map) state dst _ _ refl
same_step worker program (Ldval dst map offset) state forward asks = same_address worker program (Ldval dst map offset) state dst map offset
same_step worker program (CallHelper number) state forward asks = same_helper worker program state (helper_of number) asks
same_step worker program Exit state forward asks = same_exit worker state (register_value state R0)
