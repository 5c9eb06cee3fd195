-- What an instruction makes of a state: the version stays, and a register that is refused as unset is unset.
use Rattle.std.proofs.Common.{◌≡◌, ℕ, ◌+◌, ◌%◌, ◌/◌, nat_le, ◌==◌, ◌&&◌, Bool, true, false, List, ℤ, pos, negsuc, ◌+ℤ◌, Option, Some, None, Ok, Err, refl, subst, if◌then◌else◌}
use Rattle.std.specs.Prelude.{slice_get}
use Rattle.isa.specs.Words.{twos_complement}
use Rattle.isa.specs.Atomic.{fetched_register}
use Rattle.isa.specs.declared.operation.Width.{Width}
use Rattle.isa.specs.declared.operation.Width.TheVariants.{Bits32, Bits64}
use Rattle.isa.specs.declared.operation.Size.{Size}
use Rattle.isa.specs.declared.operation.Size.TheVariants.{U8, U16, U32, U64}
use Rattle.isa.specs.declared.operation.AluOp.{AluOp}
use Rattle.isa.specs.declared.operation.AluOp.TheVariants.{Add, Mov}
use Rattle.isa.specs.declared.operation.AtomicOp.{AtomicOp}
use Rattle.isa.specs.declared.operation.AtomicOp.TheVariants.{CompareExchange}
use Rattle.isa.specs.declared.operation.Extension.{Extension}
use Rattle.isa.specs.declared.operation.Test.{Test}
use Rattle.isa.specs.declared.operation.SourceOperand.{SourceOperand}
use Rattle.isa.specs.declared.operation.SourceOperand.TheVariants.{Imm, Reg}
use Rattle.isa.specs.declared.operation.Register.{Register}
use Rattle.isa.specs.declared.operation.Register.TheVariants.{R0, R1, R2, R3, R4, R10}
use Rattle.isa.specs.InstructionCodes.{size_bytes, width_size, extension_size}
use Rattle.ebpf_decode.specs.declared.insn.Insn.{Insn}
use Rattle.ebpf_decode.specs.declared.insn.Insn.TheVariants.{Alu, Neg, Movsx, Movsx32, End, Ja, Ja32, JumpIf, Ldx, Ldxs, St, Stx, AtomicUpdate, Lddw, Ldmap, Ldval, CallHelper, Exit}
use Rattle.ebpf_decode.specs.declared.map.MapDef.{MapDef}
use Rattle.ebpf_decode.specs.declared.map.MapKind.{MapKind}
use Rattle.ebpf_decode.specs.declared.map.MapKind.TheVariants.{Array}
use Rattle.ebpf_decode.specs.declared.version.Version.{Version}
use Rattle.ebpf_decode.specs.declared.version.Version.TheVariants.{V1, V2}
use Rattle.abstract_scalar.specs.declared.interval.Interval.{Interval}
use Rattle.abstract_scalar.specs.Intervals.{is_single, constant_of, full_of}
use Rattle.abstract_scalar.specs.Transfer.{transfer_of, neg_of, movsx64_of, movsx32_of, swap_of}
use Rattle.abstract_state.specs.declared.kind.Kind.{Kind}
use Rattle.abstract_state.specs.declared.kind.Kind.TheVariants.{Unset, Scalar, Ctx, Stack, Packet, PacketEnd, Map, ValueOrNull, Value}
use Rattle.abstract_state.specs.declared.kind.Offsets.{Offsets}
use Rattle.abstract_state.specs.declared.kind.StackWord.{StackWord}
use Rattle.abstract_state.specs.declared.kind.StackWord.TheVariants.{Spilled, Bytes}
use Rattle.abstract_state.specs.declared.fact.Fact.{Fact}
use Rattle.semantics.specs.Linux.{field_at, helper_of}
use Rattle.semantics.specs.declared.linux.ContextField.{ContextField}
use Rattle.semantics.specs.declared.linux.ContextField.TheVariants.{Data, DataEnd, IngressIfindex, RxQueueIndex}
use Rattle.semantics.specs.declared.linux.Helper.{Helper}
use Rattle.semantics.specs.declared.linux.Helper.TheVariants.{MapLookupElem, MapUpdateElem, MapDeleteElem, KtimeGetNs, GetSmpProcessorId, XdpAdjustHead}
use Rattle.abstract_state.specs.declared.flow.Flow.{Flow}
use Rattle.abstract_state.specs.declared.flow.Flow.TheVariants.{Ends, Falls, Jumps, Splits}
use Rattle.abstract_state.specs.declared.broken_rule.BrokenRule.{BrokenRule}
use Rattle.abstract_state.specs.declared.broken_rule.BrokenRule.TheVariants.{UnsetRegister, WrongKind, PacketBounds, StackBounds, StackUnset, ValueBounds, Misaligned}
use Rattle.abstract_state.specs.declared.state.State.{State}
use Rattle.abstract_state.specs.States.{Checked, ◌>>=◌, kind_of, with_kind, word_of, stack_size, key_size_of, value_size_of}
use Rattle.abstract_state.specs.Places.{place_within, range_within, aligned, stack_access, packet_access, offsets_within, value_range, value_access, atomic_access, at_offset}
use Rattle.abstract_state.specs.Words.{loaded_number, are_bytes_set, narrow_loaded, spilled_loaded, word_loaded, storable_number, storable}
use Rattle.abstract_state.specs.Arithmetic.{source_kind, blamed, number_kind, moved_kind, delta_of, moves_pointers, moved_pointer, moved_address, moved_far, pointer_sum, is_movable, combined_pointer, combined_kind, alu_kind, after_alu_of}
use Rattle.abstract_state.specs.Refinement.{is_null_test, is_order, against_scalar, against_end, against_packet, allowed_test, number_cut, fact_of, refined, refine_state}
use Rattle.abstract_state.specs.Access.{field_kind, context_kind, context_loaded, loaded_kind, signed_loaded, load_of, signed_load_of, stack_stored, stored, store_of, with_fetched_kind, is_number, expects, checked_atomic, atomic_of}
use Rattle.abstract_state.specs.Calls.{known_helper, helper_at, checked_map_argument, stack_argument, checked_number_argument, checked_context_argument, is_inside_stack, when_all, key_arguments, update_arguments, head_arguments, checked_call}
use Rattle.abstract_state.specs.Flow.{writable, fetch_writable, check_set, reads, reads_source, reads_both, reads_operands, reads_expected, reads_atomic, reads_arguments, alu_flow, checked_number, operand_of, unary_flow, load_flow, store_flow, store_register_flow, atomic_flow, number_flow, known_map, map_flow, array_size, address_in, checked_value_address, address_flow, call_flow, test_flow, exit_kind, falls, flow_of}

-- ---- what is fair: a register is blamed for being unset only where it is, and what is made holds

abbrev pub Blames : State → BrokenRule → Type 0
Blames state (UnsetRegister register) = kind_of state register ≡ Unset
Blames state why = Unit {0}

abbrev pub Fair : {A : Type 0} → State → (A → Type 0) → Checked A → Type 0
Fair state holds (Ok x) = holds x
Fair state holds (Err why) = Blames state why

-- whatever is made
abbrev Asks : {A : Type 0} → State → Checked A → Type 0
Asks state made = Fair state (λ _. Unit {0}) made

fair_then : {A B : Type 0} (state : State) (holds : B → Type 0) (first : Checked A) (go : A → Checked B) →
    Asks state first → ((x : A) → Fair state holds (go x)) → Fair state holds (first >>= go)
fair_then state holds (Ok x) go asks next = next x
fair_then state holds (Err why) go asks next = asks

fair_if : {A : Type 0} (state : State) (test : Bool) (one other : Checked A) → Asks state one → Asks state other → Asks state (if test then one else other)
fair_if state true one other first second = first
fair_if state false one other first second = second

-- ---- places

place_fair : (state : State) (place : ℤ) (limit : ℕ) (why : BrokenRule) → Blames state why → Asks state (place_within place limit why)
place_fair state (pos place) limit why b = fair_if state (nat_le place limit) (Ok place) (Err why) tt b
place_fair state (negsuc below) limit why b = b

range_fair : (state : State) (place : ℤ) (count limit : ℕ) (why : BrokenRule) → Blames state why → Asks state (range_within place count limit why)
range_fair state (pos place) count limit why b = fair_if state (nat_le (place + count) limit) (Ok place) (Err why) tt b
range_fair state (negsuc below) count limit why b = b

aligned_fair : (state : State) (place count : ℕ) → Asks state (aligned place count)
aligned_fair state place count = fair_if state (place % count == 0) (Ok place) (Err Misaligned) tt tt

stack_fair : (state : State) (place : ℕ) (distance : ℤ) (count : ℕ) → Asks state (stack_access place distance count)
stack_fair state place distance count =
    fair_then state (λ _. Unit {0}) (range_within (pos place +ℤ distance) count stack_size StackBounds) (λ from. aligned from count)
    (range_fair state (pos place +ℤ distance) count stack_size StackBounds tt) (λ from. aligned_fair state from count)

packet_fair : (state : State) (off range : ℕ) (distance : ℤ) (count : ℕ) → Asks state (packet_access off range distance count)
packet_fair state off range distance count = range_fair state (pos off +ℤ distance) count range PacketBounds tt

offsets_fair : (state : State) (maps : List MapDef) (map : ℕ) (low high : ℤ) → Asks state (offsets_within maps map low high)
offsets_fair state maps map low high =
    fair_then state (λ _. Unit {0}) (place_within low (value_size_of (slice_get maps map)) ValueBounds)
    (λ from. place_within high (value_size_of (slice_get maps map)) ValueBounds >>= (λ to. Ok (record { low = from; high = to })))
    (place_fair state low (value_size_of (slice_get maps map)) ValueBounds tt)
    (λ from. fair_then state (λ _. Unit {0}) (place_within high (value_size_of (slice_get maps map)) ValueBounds) (λ to. Ok (record { low = from; high = to }))
    (place_fair state high (value_size_of (slice_get maps map)) ValueBounds tt) (λ to. tt))

value_range_fair : (state : State) (maps : List MapDef) (map : ℕ) (off : Offsets) (distance : ℤ) (count : ℕ) → Asks state (value_range maps map off distance count)
value_range_fair state maps map off distance count =
    fair_then state (λ _. Unit {0}) (range_within (pos off.low +ℤ distance) count (value_size_of (slice_get maps map)) ValueBounds)
    (λ from. range_within (pos off.high +ℤ distance) count (value_size_of (slice_get maps map)) ValueBounds >>= (λ last. Ok from))
    (range_fair state (pos off.low +ℤ distance) count (value_size_of (slice_get maps map)) ValueBounds tt)
    (λ from. fair_then state (λ _. Unit {0}) (range_within (pos off.high +ℤ distance) count (value_size_of (slice_get maps map)) ValueBounds) (λ last. Ok from)
    (range_fair state (pos off.high +ℤ distance) count (value_size_of (slice_get maps map)) ValueBounds tt) (λ last. tt))

value_fair : (state : State) (maps : List MapDef) (map : ℕ) (off : Offsets) (distance : ℤ) (count : ℕ) → Asks state (value_access maps map off distance count)
value_fair state maps map off distance count =
    fair_then state (λ _. Unit {0}) (value_range maps map off distance count) (λ from. if off.low == off.high then aligned from count else Ok from)
    (value_range_fair state maps map off distance count)
    (λ from. fair_if state (off.low == off.high) (aligned from count) (Ok from) (aligned_fair state from count) tt)

atomic_place_fair : (state : State) (maps : List MapDef) (map : ℕ) (off : Offsets) (distance : ℤ) (count : ℕ) → Asks state (atomic_access maps map off distance count)
atomic_place_fair state maps map off distance count =
    fair_then state (λ _. Unit {0}) (value_range maps map off distance count) (λ from. if off.low == off.high then aligned from count else Err Misaligned)
    (value_range_fair state maps map off distance count)
    (λ from. fair_if state (off.low == off.high) (aligned from count) (Err Misaligned) (aligned_fair state from count) tt)

-- ---- words of the stack

narrow_loaded_fair : (state : State) (size : Size) (kind : Kind) → Asks state (narrow_loaded size kind)
narrow_loaded_fair state size (Scalar i) = tt
narrow_loaded_fair state size other = tt

spilled_fair : (state : State) (size : Size) (kind : Kind) → Asks state (spilled_loaded size kind)
spilled_fair state U8 kind = narrow_loaded_fair state U8 kind
spilled_fair state U16 kind = narrow_loaded_fair state U16 kind
spilled_fair state U32 kind = narrow_loaded_fair state U32 kind
spilled_fair state U64 kind = tt

word_fair : (state : State) (size : Size) (from : ℕ) (word : StackWord) → Asks state (word_loaded state size from word)
word_fair state size from (Spilled kind) = spilled_fair state size kind
word_fair state size from (Bytes set) = fair_if state (are_bytes_set state from (size_bytes size)) (Ok (loaded_number size)) (Err StackUnset) tt tt

narrow_fair : (state : State) (kind : Kind) → Asks state (storable_number kind)
narrow_fair state (Scalar i) = tt
narrow_fair state other = tt

storable_fair : (state : State) (size : Size) (kind : Kind) → Asks state (storable size kind)
storable_fair state U8 kind = narrow_fair state kind
storable_fair state U16 kind = narrow_fair state kind
storable_fair state U32 kind = narrow_fair state kind
storable_fair state U64 kind = tt

-- ---- arithmetic

number_fair : (state : State) (kind : Kind) (register : Register) (change : Interval → Interval) → Asks state (number_kind kind register change)
number_fair state (Scalar i) register change = tt
number_fair state other register change = tt

moved_kind_fair : (state : State) (width : Width) (kind : Kind) (source : Register) → Asks state (moved_kind width kind source)
moved_kind_fair state Bits32 (Scalar i) source = tt
moved_kind_fair state Bits32 other source = tt
moved_kind_fair state Bits64 (Scalar i) source = tt
moved_kind_fair state Bits64 other source = tt

moved_pointer_fair : (state : State) (maps : List MapDef) (pointer : Kind) (distance : ℤ) (dst : Register) → Asks state (moved_pointer maps pointer distance dst)
moved_pointer_fair state maps (Stack place) distance dst =
    fair_then state (λ _. Unit {0}) (place_within (pos place +ℤ distance) stack_size StackBounds) (λ to. Ok (Stack to))
    (place_fair state (pos place +ℤ distance) stack_size StackBounds tt) (λ to. tt)
moved_pointer_fair state maps (Packet id off range) distance dst =
    fair_then state (λ _. Unit {0}) (place_within (pos off +ℤ distance) 65535 PacketBounds) (λ to. Ok (Packet id to range))
    (place_fair state (pos off +ℤ distance) 65535 PacketBounds tt) (λ to. tt)
moved_pointer_fair state maps (Value map id off) distance dst =
    fair_then state (λ _. Unit {0}) (offsets_within maps map (pos off.low +ℤ distance) (pos off.high +ℤ distance)) (λ to. Ok (Value map id to))
    (offsets_fair state maps map (pos off.low +ℤ distance) (pos off.high +ℤ distance)) (λ to. tt)
moved_pointer_fair state maps other distance dst = tt

moved_value_fair : (state : State) (maps : List MapDef) (version : Version) (map id : ℕ) (off : Offsets) (i : Interval) (source : Register) →
    Asks state (moved_address maps version map id off i source)
moved_value_fair state maps V1 map id off i source = tt
moved_value_fair state maps V2 map id off i source =
    fair_then state (λ _. Unit {0}) (offsets_within maps map (pos (off.low + i.low)) (pos (off.high + i.high))) (λ to. Ok (Value map id to))
    (offsets_fair state maps map (pos (off.low + i.low)) (pos (off.high + i.high))) (λ to. tt)

moved_far_fair : (state : State) (maps : List MapDef) (version : Version) (slot : ℕ) (op : AluOp) (pointer : Kind) (i : Interval) (source : Register) →
    Asks state (moved_far maps version slot op pointer i source)
moved_far_fair state maps version slot Add (Packet id off range) i source =
    fair_if state (nat_le i.high 65535) (Ok (Packet slot 0 0)) (Err PacketBounds) tt tt
moved_far_fair state maps version slot Add (Value map id off) i source = moved_value_fair state maps version map id off i source
moved_far_fair state maps version slot op other i source = tt

sum_fair : (state : State) (maps : List MapDef) (version : Version) (slot : ℕ) (op : AluOp) (pointer other : Kind) (dst source : Register) →
    Asks state (pointer_sum maps version slot op pointer other dst source)
sum_fair state maps version slot op pointer (Scalar i) dst source =
    fair_if state (is_single i) (moved_pointer maps pointer (delta_of op i.low) dst) (moved_far maps version slot op pointer i source)
    (moved_pointer_fair state maps pointer (delta_of op i.low) dst) (moved_far_fair state maps version slot op pointer i source)
sum_fair state maps version slot op pointer other dst source = tt

pointer_fair : (state : State) (maps : List MapDef) (version : Version) (slot : ℕ) (width : Width) (op : AluOp) (pointer other : Kind) (dst source : Register) →
    Asks state (combined_pointer maps version slot width op pointer other dst source)
pointer_fair state maps version slot width op pointer other dst source =
    fair_if state (moves_pointers width op)
    (if is_movable pointer then pointer_sum maps version slot op pointer other dst source else Err (WrongKind dst)) (Err (WrongKind dst))
    (fair_if state (is_movable pointer) (pointer_sum maps version slot op pointer other dst source) (Err (WrongKind dst))
    (sum_fair state maps version slot op pointer other dst source) tt) tt

combined_fair : (state : State) (maps : List MapDef) (version : Version) (slot : ℕ) (width : Width) (op : AluOp) (first second : Kind) (dst source : Register) →
    Asks state (combined_kind maps version slot width op first second dst source)
combined_fair state maps version slot width op (Scalar i) second dst source = number_fair state second source (transfer_of width op i)
combined_fair state maps version slot width op pointer second dst source = pointer_fair state maps version slot width op pointer second dst source

alu_fair : (state : State) (maps : List MapDef) (version : Version) (slot : ℕ) (width : Width) (op : AluOp) (first second : Kind) (dst source : Register) →
    Asks state (alu_kind maps version slot width op first second dst source)
alu_fair state maps version slot width Mov first second dst source = moved_kind_fair state width second source
alu_fair state maps version slot width op first second dst source = combined_fair state maps version slot width op first second dst source

-- ---- tests

against_scalar_fair : (state : State) (kind : Kind) (source : Register) → Asks state (against_scalar kind source)
against_scalar_fair state (Scalar j) source = tt
against_scalar_fair state other source = tt

against_end_fair : (state : State) (kind : Kind) (source : Register) → Asks state (against_end kind source)
against_end_fair state PacketEnd source = tt
against_end_fair state other source = tt

against_packet_fair : (state : State) (kind : Kind) (source : Register) → Asks state (against_packet kind source)
against_packet_fair state (Packet id off range) source = tt
against_packet_fair state other source = tt

test_fair : (state : State) (width : Width) (test : Test) (kind other : Kind) (dst : Register) (source : SourceOperand) →
    Asks state (allowed_test width test kind other dst source)
test_fair state width test (Scalar i) other dst source = against_scalar_fair state other (blamed dst source)
test_fair state width test (ValueOrNull map id) other dst source = fair_if state (is_null_test width test source) (Ok tt) (Err (WrongKind dst)) tt tt
test_fair state width test (Packet id off range) other dst source =
    fair_if state (is_order width test) (against_end other (blamed dst source)) (Err (WrongKind dst)) (against_end_fair state other (blamed dst source)) tt
test_fair state width test PacketEnd other dst source =
    fair_if state (is_order width test) (against_packet other (blamed dst source)) (Err (WrongKind dst)) (against_packet_fair state other (blamed dst source)) tt
test_fair state width test kind other dst source = tt

-- ---- loads

field_fair : (state : State) (field : Option ContextField) → Asks state (field_kind state field)
field_fair state (Some Data) = tt
field_fair state (Some DataEnd) = tt
field_fair state (Some IngressIfindex) = tt
field_fair state (Some RxQueueIndex) = tt
field_fair state None = tt

context_fair : (state : State) (place : ℤ) → Asks state (context_kind state place)
context_fair state place = field_fair state (field_at place)

context_loaded_fair : (state : State) (size : Size) (place : ℤ) → Asks state (context_loaded state size place)
context_loaded_fair state U8 place = tt
context_loaded_fair state U16 place = tt
context_loaded_fair state U32 place = context_fair state place
context_loaded_fair state U64 place = tt

loaded_fair : (maps : List MapDef) (state : State) (size : Size) (kind : Kind) (distance : ℤ) (source : Register) →
    Asks state (loaded_kind maps state size kind distance source)
loaded_fair maps state size Ctx distance source = context_loaded_fair state size distance
loaded_fair maps state size (Stack place) distance source =
    fair_then state (λ _. Unit {0}) (stack_access place distance (size_bytes size)) (λ from. word_loaded state size from (word_of state (from / 8)))
    (stack_fair state place distance (size_bytes size)) (λ from. word_fair state size from (word_of state (from / 8)))
loaded_fair maps state size (Packet id off range) distance source =
    fair_then state (λ _. Unit {0}) (packet_access off range distance (size_bytes size)) (λ from. Ok (loaded_number size))
    (packet_fair state off range distance (size_bytes size)) (λ from. tt)
loaded_fair maps state size (Value map id off) distance source =
    fair_then state (λ _. Unit {0}) (value_access maps map off distance (size_bytes size)) (λ from. Ok (loaded_number size))
    (value_fair state maps map off distance (size_bytes size)) (λ from. tt)
loaded_fair maps state size other distance source = tt

signed_then : (maps : List MapDef) (state : State) (extension : Extension) (kind : Kind) (distance : ℤ) (source : Register) (number : Kind) →
    Asks state (loaded_kind maps state (extension_size extension) kind distance source >>= (λ loaded. Ok number))
signed_then maps state extension kind distance source number =
    fair_then state (λ _. Unit {0}) (loaded_kind maps state (extension_size extension) kind distance source) (λ loaded. Ok number)
    (loaded_fair maps state (extension_size extension) kind distance source) (λ loaded. tt)

signed_fair : (maps : List MapDef) (state : State) (extension : Extension) (kind : Kind) (distance : ℤ) (source : Register) →
    Asks state (signed_loaded maps state extension kind distance source)
signed_fair maps state extension Ctx distance source = tt
signed_fair maps state extension kind distance source = signed_then maps state extension kind distance source (Scalar (full_of 64))

-- ---- what is left has the version

abbrev Keeps : State → Checked State → Type 0
Keeps state made = Fair state (λ after. after.version ≡ state.version) made

kind_kept : (state : State) (dst : Register) (made : Checked Kind) → Asks state made → Keeps state (made >>= (λ kind. Ok (with_kind state dst kind)))
kind_kept state dst made asks = fair_then state (λ after. after.version ≡ state.version) made (λ kind. Ok (with_kind state dst kind)) asks (λ kind. refl)

store_kept : (maps : List MapDef) (state : State) (size : Size) (target : Kind) (distance : ℤ) (dst : Register) (kind : Kind) →
    Keeps state (stored maps state size target distance dst kind)
store_kept maps state size Ctx distance dst kind = tt
store_kept maps state size (Stack place) distance dst kind =
    fair_then state (λ after. after.version ≡ state.version) (stack_access place distance (size_bytes size))
    (λ from. storable size kind >>= (λ _. Ok (stack_stored state size from kind))) (stack_fair state place distance (size_bytes size))
    (λ from. fair_then state (λ after. after.version ≡ state.version) (storable size kind) (λ _. Ok (stack_stored state size from kind))
    (storable_fair state size kind) (λ _. refl))
store_kept maps state size (Packet id off range) distance dst kind =
    fair_then state (λ after. after.version ≡ state.version) (packet_access off range distance (size_bytes size)) (λ from. storable_number kind >>= (λ _. Ok state))
    (packet_fair state off range distance (size_bytes size))
    (λ from. fair_then state (λ after. after.version ≡ state.version) (storable_number kind) (λ _. Ok state) (narrow_fair state kind) (λ _. refl))
store_kept maps state size (Value map id off) distance dst kind =
    fair_then state (λ after. after.version ≡ state.version) (value_access maps map off distance (size_bytes size)) (λ from. storable_number kind >>= (λ _. Ok state))
    (value_fair state maps map off distance (size_bytes size))
    (λ from. fair_then state (λ after. after.version ≡ state.version) (storable_number kind) (λ _. Ok state) (narrow_fair state kind) (λ _. refl))
store_kept maps state size other distance dst kind = tt

fetched_kept : (state : State) (register : Option Register) (width : Width) → (with_fetched_kind state register width).version ≡ state.version
fetched_kept state None width = refl
fetched_kept state (Some register) width = refl

expects_fair : (state : State) (op : AtomicOp) (kind : Kind) → Asks state (expects op kind)
expects_fair state CompareExchange kind = fair_if state (is_number kind) (Ok tt) (Err (WrongKind R0)) tt tt
expects_fair state op kind = tt

atomic_kept : (maps : List MapDef) (state : State) (width : Width) (op : AtomicOp) (target : Kind) (distance : ℤ) (dst src : Register) →
    Keeps state (checked_atomic maps state width op target distance dst src)
atomic_kept maps state width op (Value map id off) distance dst src =
    fair_then state (λ after. after.version ≡ state.version) (atomic_access maps map off distance (size_bytes (width_size width))) (λ from.
    storable_number (kind_of state src) >>= (λ _. expects op (kind_of state R0) >>= (λ _. Ok (with_fetched_kind state (fetched_register op src) width))))
    (atomic_place_fair state maps map off distance (size_bytes (width_size width)))
    (λ from. fair_then state (λ after. after.version ≡ state.version) (storable_number (kind_of state src))
    (λ _. expects op (kind_of state R0) >>= (λ _. Ok (with_fetched_kind state (fetched_register op src) width))) (narrow_fair state (kind_of state src))
    (λ _. fair_then state (λ after. after.version ≡ state.version) (expects op (kind_of state R0)) (λ _. Ok (with_fetched_kind state (fetched_register op src) width))
    (expects_fair state op (kind_of state R0)) (λ _. fetched_kept state (fetched_register op src) width)))
atomic_kept maps state width op other distance dst src = tt

-- ---- calls

map_argument_fair : (state : State) (kind : Kind) (register : Register) → Asks state (checked_map_argument kind register)
map_argument_fair state (Map map) register = tt
map_argument_fair state other register = tt

stack_argument_fair : (state : State) (kind : Kind) (register : Register) → Asks state (stack_argument kind register)
stack_argument_fair state (Stack place) register = tt
stack_argument_fair state other register = tt

number_argument_fair : (state : State) (kind : Kind) (register : Register) → Asks state (checked_number_argument kind register)
number_argument_fair state (Scalar i) register = tt
number_argument_fair state other register = tt

context_argument_fair : (state : State) (kind : Kind) (register : Register) → Asks state (checked_context_argument kind register)
context_argument_fair state Ctx register = tt
context_argument_fair state other register = tt

all_fair : (state : State) (test : Bool) (why : BrokenRule) → Blames state why → Asks state (when_all test why)
all_fair state test why b = fair_if state test (Ok tt) (Err why) tt b

key_fair : (maps : List MapDef) (state : State) → Asks state (key_arguments maps state)
key_fair maps state =
    fair_then state (λ _. Unit {0}) (checked_map_argument (kind_of state R1) R1) _ (map_argument_fair state (kind_of state R1) R1)
    (λ map. fair_then state (λ _. Unit {0}) (stack_argument (kind_of state R2) R2) _ (stack_argument_fair state (kind_of state R2) R2)
    (λ key. fair_then state (λ _. Unit {0}) (when_all (is_inside_stack key (key_size_of (slice_get maps map))) StackBounds) _
    (all_fair state (is_inside_stack key (key_size_of (slice_get maps map))) StackBounds tt)
    (λ _. fair_then state (λ _. Unit {0}) (when_all (are_bytes_set state key (key_size_of (slice_get maps map))) StackUnset) (λ _. Ok map)
    (all_fair state (are_bytes_set state key (key_size_of (slice_get maps map))) StackUnset tt) (λ _. tt))))

update_fair : (maps : List MapDef) (state : State) → Asks state (update_arguments maps state)
update_fair maps state =
    fair_then state (λ _. Unit {0}) (checked_map_argument (kind_of state R1) R1) _ (map_argument_fair state (kind_of state R1) R1)
    (λ map. fair_then state (λ _. Unit {0}) (stack_argument (kind_of state R2) R2) _ (stack_argument_fair state (kind_of state R2) R2)
    (λ key. fair_then state (λ _. Unit {0}) (stack_argument (kind_of state R3) R3) _ (stack_argument_fair state (kind_of state R3) R3)
    (λ value. fair_then state (λ _. Unit {0}) (checked_number_argument (kind_of state R4) R4) _ (number_argument_fair state (kind_of state R4) R4)
    (λ _. fair_then state (λ _. Unit {0})
    (when_all (is_inside_stack key (key_size_of (slice_get maps map)) && is_inside_stack value (value_size_of (slice_get maps map))) StackBounds) _
    (all_fair state (is_inside_stack key (key_size_of (slice_get maps map)) && is_inside_stack value (value_size_of (slice_get maps map))) StackBounds tt)
    (λ _. fair_then state (λ _. Unit {0})
    (when_all (are_bytes_set state key (key_size_of (slice_get maps map)) && are_bytes_set state value (value_size_of (slice_get maps map))) StackUnset) (λ _. Ok map)
    (all_fair state (are_bytes_set state key (key_size_of (slice_get maps map)) && are_bytes_set state value (value_size_of (slice_get maps map))) StackUnset tt)
    (λ _. tt))))))

head_fair : (state : State) → Asks state (head_arguments state)
head_fair state =
    fair_then state (λ _. Unit {0}) (checked_context_argument (kind_of state R1) R1) (λ _. checked_number_argument (kind_of state R2) R2)
    (context_argument_fair state (kind_of state R1) R1) (λ _. number_argument_fair state (kind_of state R2) R2)

call_kept : (maps : List MapDef) (state : State) (slot : ℕ) (helper : Helper) → Keeps state (checked_call maps state slot helper)
call_kept maps state slot MapLookupElem = fair_then state (λ after. after.version ≡ state.version) (key_arguments maps state) _ (key_fair maps state) (λ map. refl)
call_kept maps state slot MapUpdateElem = fair_then state (λ after. after.version ≡ state.version) (update_arguments maps state) _ (update_fair maps state) (λ _. refl)
call_kept maps state slot MapDeleteElem = fair_then state (λ after. after.version ≡ state.version) (key_arguments maps state) _ (key_fair maps state) (λ _. refl)
call_kept maps state slot KtimeGetNs = refl
call_kept maps state slot GetSmpProcessorId = refl
call_kept maps state slot XdpAdjustHead = fair_then state (λ after. after.version ≡ state.version) (head_arguments state) _ (head_fair state) (λ _. refl)

known_fair : (state : State) (helper : Option Helper) → Asks state (known_helper helper)
known_fair state (Some helper) = tt
known_fair state None = tt

helper_fair : (state : State) (number : ℤ) → Asks state (helper_at number)
helper_fair state number = known_fair state (helper_of number)

-- ---- what comes first

writable_fair : (state : State) (register : Register) → Asks state (writable register)
writable_fair state R10 = tt
writable_fair state register = tt

fetch_fair : (state : State) (register : Option Register) → Asks state (fetch_writable register)
fetch_fair state None = tt
fetch_fair state (Some register) = writable_fair state register

set_fair : (state : State) (kind : Kind) (register : Register) → kind_of state register ≡ kind → Asks state (check_set kind register)
set_fair state Unset register e = e
set_fair state kind register e = tt

reads_fair : (state : State) (register : Register) → Asks state (reads state register)
reads_fair state register = set_fair state (kind_of state register) register refl

source_fair : (state : State) (source : SourceOperand) → Asks state (reads_source state source)
source_fair state (Imm immediate) = tt
source_fair state (Reg register) = reads_fair state register

both_fair : (state : State) (dst : Register) (source : SourceOperand) → Asks state (reads_both state dst source)
both_fair state dst source =
    fair_then state (λ _. Unit {0}) (reads state dst) (λ _. reads_source state source) (reads_fair state dst) (λ _. source_fair state source)

operands_fair : (state : State) (op : AluOp) (dst : Register) (source : SourceOperand) → Asks state (reads_operands state op dst source)
operands_fair state Mov dst source = source_fair state source
operands_fair state op dst source = both_fair state dst source

expected_fair : (state : State) (op : AtomicOp) → Asks state (reads_expected state op)
expected_fair state CompareExchange = reads_fair state R0
expected_fair state op = tt

reads_atomic_fair : (state : State) (op : AtomicOp) (dst src : Register) → Asks state (reads_atomic state op dst src)
reads_atomic_fair state op dst src =
    fair_then state (λ _. Unit {0}) (reads state dst) (λ _. reads state src >>= (λ _. reads_expected state op)) (reads_fair state dst)
    (λ _. fair_then state (λ _. Unit {0}) (reads state src) (λ _. reads_expected state op) (reads_fair state src) (λ _. expected_fair state op))

arguments_fair : (state : State) (helper : Helper) → Asks state (reads_arguments state helper)
arguments_fair state MapLookupElem = both_fair state R1 (Reg R2)
arguments_fair state MapUpdateElem =
    fair_then state (λ _. Unit {0}) (reads_both state R1 (Reg R2)) (λ _. reads_both state R3 (Reg R4)) (both_fair state R1 (Reg R2))
    (λ _. both_fair state R3 (Reg R4))
arguments_fair state MapDeleteElem = both_fair state R1 (Reg R2)
arguments_fair state KtimeGetNs = tt
arguments_fair state GetSmpProcessorId = tt
arguments_fair state XdpAdjustHead = both_fair state R1 (Reg R2)

-- ---- what flows out

operand_number_fair : (state : State) (kind : Kind) (register : Register) → Asks state (checked_number kind register)
operand_number_fair state (Scalar i) register = tt
operand_number_fair state other register = tt

operand_fair : (state : State) (dst operand : Register) → Asks state (operand_of state dst operand)
operand_fair state dst operand =
    fair_then state (λ _. Unit {0}) (writable dst) (λ _. reads state operand >>= (λ _. checked_number (kind_of state operand) operand)) (writable_fair state dst)
    (λ _. fair_then state (λ _. Unit {0}) (reads state operand) (λ _. checked_number (kind_of state operand) operand) (reads_fair state operand)
    (λ _. operand_number_fair state (kind_of state operand) operand))

unary_kept : (state : State) (dst operand : Register) (change : Interval → Interval) → Keeps state (unary_flow state dst operand change)
unary_kept state dst operand change =
    fair_then state (λ after. after.version ≡ state.version) (operand_of state dst operand) (λ i. Ok (with_kind state dst (Scalar (change i))))
    (operand_fair state dst operand) (λ i. refl)

load_kept : (state : State) (dst source : Register) (made : Checked State) → Keeps state made → Keeps state (load_flow state dst source made)
load_kept state dst source made k =
    fair_then state (λ after. after.version ≡ state.version) (writable dst) (λ _. reads state source >>= (λ _. made)) (writable_fair state dst)
    (λ _. fair_then state (λ after. after.version ≡ state.version) (reads state source) (λ _. made) (reads_fair state source) (λ _. k))

found_fair : (state : State) (maps : List MapDef) (definition : Option MapDef) (place : ℕ) → slice_get maps place ≡ definition → Asks state (known_map maps (pos place))
found_fair state maps (Some definition) place e = rw e tt
found_fair state maps None place e = rw e tt

map_fair : (state : State) (maps : List MapDef) (map : ℤ) → Asks state (known_map maps map)
map_fair state maps (pos map) = found_fair state maps (slice_get maps map) map refl
map_fair state maps (negsuc below) = tt

array_fair : (state : State) (kind : MapKind) (size : ℕ) → Asks state (array_size kind size)
array_fair state Array size = tt
array_fair state kind size = tt

address_in_fair : (state : State) (definition : Option MapDef) (map slot offset : ℕ) → Asks state (address_in definition map slot offset)
address_in_fair state (Some definition) map slot offset =
    fair_then state (λ _. Unit {0}) (array_size definition.kind definition.value_size)
    (λ size. place_within (pos offset) size ValueBounds >>= (λ at. Ok (Value map slot (at_offset at)))) (array_fair state definition.kind definition.value_size)
    (λ size. fair_then state (λ _. Unit {0}) (place_within (pos offset) size ValueBounds) (λ at. Ok (Value map slot (at_offset at)))
    (place_fair state (pos offset) size ValueBounds tt) (λ at. tt))
address_in_fair state None map slot offset = tt

address_fair : (state : State) (maps : List MapDef) (slot : ℕ) (map : ℤ) (offset : ℕ) → Asks state (checked_value_address maps slot map offset)
address_fair state maps slot (pos map) offset = address_in_fair state (slice_get maps map) map slot offset
address_fair state maps slot (negsuc below) offset = tt

-- on each edge the state has the version
abbrev pub HasVersion : Version → Flow → Type 0
HasVersion version Ends = Unit {0}
HasVersion version (Falls state) = state.version ≡ version
HasVersion version (Jumps state) = state.version ≡ version
HasVersion version (Splits taken fallen) = (taken.version ≡ version) × (fallen.version ≡ version)

falls_kept : (state : State) (made : Checked State) → Keeps state made → Fair state (HasVersion state.version) (falls made)
falls_kept state (Ok after) k = k
falls_kept state (Err why) k = k

refined_version : (cut : Option Kind) (fact : Fact) (state : State) (dst : Register) → (refined cut fact state dst).version ≡ state.version
refined_version (Some kind) fact state dst = refl
refined_version None fact state dst = refl

edge_version : (state : State) (width : Width) (test : Test) (dst : Register) (source : SourceOperand) (taken : Bool) →
    (refine_state state width test dst source taken).version ≡ state.version
edge_version state width test dst source taken =
    refined_version (number_cut width test taken (kind_of state dst) (source_kind state source))
    (fact_of test taken (kind_of state dst) (source_kind state source)) state dst

splits_kept : (state : State) (width : Width) (test : Test) (dst : Register) (source : SourceOperand) → Fair state (HasVersion state.version) (test_flow state width test dst source)
splits_kept state width test dst source =
    fair_then state (HasVersion state.version) (reads_both state dst source)
    (λ _. allowed_test width test (kind_of state dst) (source_kind state source) dst source >>=
    (λ _. Ok (Splits (refine_state state width test dst source true) (refine_state state width test dst source false)))) (both_fair state dst source)
    (λ _. fair_then state (HasVersion state.version) (allowed_test width test (kind_of state dst) (source_kind state source) dst source)
    (λ _. Ok (Splits (refine_state state width test dst source true) (refine_state state width test dst source false)))
    (test_fair state width test (kind_of state dst) (source_kind state source) dst source)
    (λ _. (edge_version state width test dst source true, edge_version state width test dst source false)))

verdict_fair : (state : State) (kind : Kind) → Fair state (HasVersion state.version) (exit_kind kind)
verdict_fair state (Scalar i) = tt
verdict_fair state other = tt

pub flow_fair : (maps : List MapDef) (state : State) (slot : ℕ) (insn : Insn) → Fair state (HasVersion state.version) (flow_of maps state slot insn)
flow_fair maps state slot (Alu width op dst source) = falls_kept state (alu_flow maps state slot width op dst source)
    (fair_then state (λ after. after.version ≡ state.version) (writable dst) (λ _. reads_operands state op dst source >>= (λ _. after_alu_of maps state slot width op dst source))
    (writable_fair state dst)
    (λ _. fair_then state (λ after. after.version ≡ state.version) (reads_operands state op dst source) (λ _. after_alu_of maps state slot width op dst source)
    (operands_fair state op dst source)
    (λ _. kind_kept state dst (alu_kind maps state.version slot width op (kind_of state dst) (source_kind state source) dst (blamed dst source))
    (alu_fair state maps state.version slot width op (kind_of state dst) (source_kind state source) dst (blamed dst source)))))
flow_fair maps state slot (Neg width dst) = falls_kept state (unary_flow state dst dst (neg_of width)) (unary_kept state dst dst (neg_of width))
flow_fair maps state slot (Movsx extension dst src) = falls_kept state (unary_flow state dst src (movsx64_of extension)) (unary_kept state dst src (movsx64_of extension))
flow_fair maps state slot (Movsx32 extension dst src) = falls_kept state (unary_flow state dst src (movsx32_of extension)) (unary_kept state dst src (movsx32_of extension))
flow_fair maps state slot (End order width dst) = falls_kept state (unary_flow state dst dst (swap_of order width)) (unary_kept state dst dst (swap_of order width))
flow_fair maps state slot (Ja distance) = refl
flow_fair maps state slot (Ja32 distance) = refl
flow_fair maps state slot (JumpIf width test dst source distance) = splits_kept state width test dst source
flow_fair maps state slot (Ldx size dst src offset) = falls_kept state (load_flow state dst src (load_of maps state size dst src offset))
    (load_kept state dst src (load_of maps state size dst src offset)
    (kind_kept state dst (loaded_kind maps state size (kind_of state src) offset src) (loaded_fair maps state size (kind_of state src) offset src)))
flow_fair maps state slot (Ldxs extension dst src offset) = falls_kept state (load_flow state dst src (signed_load_of maps state extension dst src offset))
    (load_kept state dst src (signed_load_of maps state extension dst src offset)
    (kind_kept state dst (signed_loaded maps state extension (kind_of state src) offset src) (signed_fair maps state extension (kind_of state src) offset src)))
flow_fair maps state slot (St size dst offset immediate) = falls_kept state (store_flow maps state size dst offset immediate)
    (fair_then state (λ after. after.version ≡ state.version) (reads state dst)
    (λ _. store_of maps state size dst offset (Scalar (constant_of (twos_complement 64 immediate)))) (reads_fair state dst)
    (λ _. store_kept maps state size (kind_of state dst) offset dst (Scalar (constant_of (twos_complement 64 immediate)))))
flow_fair maps state slot (Stx size dst src offset) = falls_kept state (store_register_flow maps state size dst src offset)
    (fair_then state (λ after. after.version ≡ state.version) (reads_both state dst (Reg src)) (λ _. store_of maps state size dst offset (kind_of state src))
    (both_fair state dst (Reg src)) (λ _. store_kept maps state size (kind_of state dst) offset dst (kind_of state src)))
flow_fair maps state slot (AtomicUpdate width op dst src offset) = falls_kept state (atomic_flow maps state width op dst src offset)
    (fair_then state (λ after. after.version ≡ state.version) (fetch_writable (fetched_register op src))
    (λ _. reads_atomic state op dst src >>= (λ _. atomic_of maps state width op dst src offset)) (fetch_fair state (fetched_register op src))
    (λ _. fair_then state (λ after. after.version ≡ state.version) (reads_atomic state op dst src) (λ _. atomic_of maps state width op dst src offset)
    (reads_atomic_fair state op dst src) (λ _. atomic_kept maps state width op (kind_of state dst) offset dst src)))
flow_fair maps state slot (Lddw dst value) = falls_kept state (number_flow state dst value)
    (fair_then state (λ after. after.version ≡ state.version) (writable dst) (λ _. Ok (with_kind state dst (Scalar (constant_of value)))) (writable_fair state dst) (λ _. refl))
flow_fair maps state slot (Ldmap dst map) = falls_kept state (map_flow maps state dst map)
    (fair_then state (λ after. after.version ≡ state.version) (writable dst) (λ _. known_map maps map >>= (λ kind. Ok (with_kind state dst kind)))
    (writable_fair state dst) (λ _. kind_kept state dst (known_map maps map) (map_fair state maps map)))
flow_fair maps state slot (Ldval dst map offset) = falls_kept state (address_flow maps state slot dst map offset)
    (fair_then state (λ after. after.version ≡ state.version) (writable dst) (λ _. checked_value_address maps slot map offset >>= (λ kind. Ok (with_kind state dst kind)))
    (writable_fair state dst) (λ _. kind_kept state dst (checked_value_address maps slot map offset) (address_fair state maps slot map offset)))
flow_fair maps state slot (CallHelper number) = falls_kept state (call_flow maps state slot number)
    (fair_then state (λ after. after.version ≡ state.version) (helper_at number) (λ helper. reads_arguments state helper >>= (λ _. checked_call maps state slot helper))
    (helper_fair state number)
    (λ helper. fair_then state (λ after. after.version ≡ state.version) (reads_arguments state helper) (λ _. checked_call maps state slot helper)
    (arguments_fair state helper) (λ _. call_kept maps state slot helper)))
flow_fair maps state slot Exit =
    fair_then state (HasVersion state.version) (reads state R0) (λ _. exit_kind (kind_of state R0)) (reads_fair state R0) (λ _. verdict_fair state (kind_of state R0))

-- the register that is refused as unset is so
pub blamed_unset : (maps : List MapDef) (state : State) (slot : ℕ) (insn : Insn) (register : Register) → flow_of maps state slot insn ≡ Err (UnsetRegister register) →
    kind_of state register ≡ Unset
blamed_unset maps state slot insn register e = subst (Fair state (HasVersion state.version)) e (flow_fair maps state slot insn)

-- what flows out has the version
pub flows_version : (maps : List MapDef) (state : State) (slot : ℕ) (insn : Insn) (flow : Flow) → flow_of maps state slot insn ≡ Ok flow → HasVersion state.version flow
flows_version maps state slot insn flow e = subst (Fair state (HasVersion state.version)) e (flow_fair maps state slot insn)
