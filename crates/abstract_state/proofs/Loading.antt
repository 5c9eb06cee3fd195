-- Loads: what a register is then known to have.
use Rattle.std.proofs.Common.{◌≡◌, ℕ, ◌+◌, ◌*◌, ◌/◌, ◌^◌, ◌<◌, ◌≤◌, Bool, true, false, ◌==◌, ℤ, pos, negsuc, List, length, take, drop, refl, sym, ◌∙◌, ap, arith, subst}
use Rattle.std.specs.Prelude.{Some, None, Ok, IsTrue, ◌+ℤ◌, slice_get, if◌then◌else◌}
use Rattle.isa.specs.declared.operation.Size.{Size}
use Rattle.isa.specs.declared.operation.Size.TheVariants.{U8, U16, U32, U64}
use Rattle.isa.specs.declared.operation.Register.{Register}
use Rattle.ebpf_decode.specs.declared.insn.Insn.{Insn}
use Rattle.ebpf_decode.specs.declared.insn.Insn.TheVariants.{Ldx}
use Rattle.ebpf_decode.specs.declared.map.MapDef.{MapDef}
use Rattle.ebpf_decode.specs.InstructionEncoding.{slot_count}
use Rattle.semantics.specs.declared.call.Call.TheVariants.{Load}
use Rattle.semantics.specs.declared.call.Reply.{Reply}
use Rattle.semantics.specs.declared.call.Reply.TheVariants.{Entered, Left, Cell, Null, Word, Done, Answer, Freed}
use Rattle.semantics.specs.RegisterValue.{RegisterValue, Uninitialized, Number, PacketPointer, CellPointer}
use Rattle.semantics.specs.RegisterValue as meaning
use Rattle.semantics.specs.MachineState.{MachineState, register_value, with_register}
use Rattle.semantics.specs.Program.{Program}
use Rattle.semantics.specs.Step.{Outcome}
use Rattle.semantics.specs.History.{is_load_size}
use Rattle.isa.specs.InstructionCodes.{size_bytes, size_bits}
use Rattle.semantics.specs.declared.linux.ContextField.TheVariants.{Data, DataEnd, IngressIfindex, RxQueueIndex}
use Rattle.semantics.specs.Memory.{field_outcome, context_word, context_field, spilled_or_number, stack_value, packet_value, cell_ref}
use Rattle.semantics.specs.RunTrace.{IsReplyTo}
use Rattle.semantics.specs.Semantics.{at_next_slot, word_value, load_cell_step, load_step, instruction_step, write_step}
use Rattle.abstract_scalar.specs.declared.interval.Interval.{Interval}
use Rattle.abstract_scalar.specs.Intervals.{interval_of, full_of}
use Rattle.abstract_state.specs.declared.kind.Kind.{Kind}
use Rattle.abstract_state.specs.declared.kind.Kind.TheVariants.{Unset, Scalar, Ctx, Stack, Packet, PacketEnd, Map, ValueOrNull, Value}
use Rattle.abstract_state.specs.declared.flow.Flow.{Flow}
use Rattle.abstract_state.specs.declared.state.State.{State}
use Rattle.abstract_state.specs.States.{◌>>=◌, kind_of, with_kind, word_of, value_size_of}
use Rattle.abstract_state.specs.Places.{stack_access, packet_access, value_access}
use Rattle.abstract_state.specs.Words.{loaded_number, word_loaded}
use Rattle.abstract_state.specs.Access.{field_kind, context_kind, context_loaded, loaded_kind, load_of}
use Rattle.abstract_state.specs.Flow.{writable, reads, load_flow, flow_of}
use Rattle.abstract_state.specs.Soundness.{GoesOnAt, FallsOn, Follows, HoldsAfter}
use Rattle.abstract_state.specs.Abstraction.{Held, KindScope, KindCovers, IsNumberIn, kind_scope_of, Abstracts}
use Rattle.abstract_state.proofs.shared.Checking.{ok_same, ok_then, falls_made, written_ok, next_setting, covers_next, put, write_follows}
use Rattle.abstract_state.proofs.shared.Accesses.{IsAligned, IsWithin, range_found, stack_found, value_found, cell_reached}
use Rattle.abstract_state.proofs.shared.LoadedNumbers.{Loads, size_fits, in_full, number_loads, word_loads, stack_value_is, packet_number}

-- ---- a register that a load writes

pub loads_follow : (program : Program) (held : Held) (state : State) (machine : MachineState) (a : Abstracts program.maps held state machine)
    (insn : Insn) (dst : Register) (done : Unit {0}) → writable dst ≡ Ok done → (outcome : Outcome RegisterValue) (kind : Kind) →
    Loads (kind_scope_of program.maps held a.ids machine) kind outcome →
    FallsOn program held (with_kind state dst kind) machine (machine.slot + slot_count insn) (write_step insn machine dst outcome)
loads_follow program held state machine a insn dst done w outcome kind l =
    write_follows program held state machine a insn dst done w outcome kind l.value l.is
    (covers_next program.maps held held a.ids machine (slot_count insn) (λ map shard cell h. h) kind l.value l.covered)

loads_as : (s : KindScope) (k kind : Kind) (outcome : Outcome RegisterValue) (v : RegisterValue) → k ≡ kind → outcome ≡ Ok v → KindCovers s k v → Loads s kind outcome
loads_as s k kind outcome v same is covered = record { value = v; is = is; covered = subst (λ k. KindCovers s k v) same covered }

-- ---- the context

opening_base : (base : ℕ) → base ≤ 131070 * 0 → base + 0 ≡ 0
opening_base base h = omega arith

pub field_loads : (maps : List MapDef) (held : Held) (state : State) (machine : MachineState) (a : Abstracts maps held state machine) (count : ℕ) → 0 < count →
    (place : ℤ) (kind : Kind) → context_kind state place ≡ Ok kind → Loads (next_setting maps held a.ids machine count) kind (context_word machine place)
field_loads maps held state machine a count some (negsuc below) kind e = cc
field_loads maps held state machine a count some (pos place) kind e = by_tests (place == 0) (place == 4) (place == 12) (place == 16) e
  where
    s : KindScope
    s = next_setting maps held a.ids machine count

    start : a.ids.base 0 + 0 ≡ 0
    start = opening_base (a.ids.base 0) (a.bases 0)

    packet : KindCovers s (Packet 0 0 state.start_range) (PacketPointer machine.generation (pos 0))
    packet = record {
      is = ap (λ n. PacketPointer machine.generation (pos n)) (sym start);
      reached = λ h. (let inside : state.start_range ≤ length machine.frame.bytes = a.start h in let b : a.ids.base 0 + 0 ≡ 0 = start in omega arith);
      earlier = omega arith;
      near = omega arith;
    }

    one : KindCovers s (Scalar (interval_of 1 1)) (Number 1)
    one = record { number = 1; is = refl; within = record { above = omega arith; below = omega arith }; word = omega arith }

    worker : KindCovers s (Scalar (interval_of 0 7)) (Number machine.worker)
    worker = let small : machine.worker < 8 = a.is_machine.worker
        in record { number = machine.worker; is = refl; within = record { above = omega arith; below = omega arith }; word = omega arith }

    by_tests : (t0 t4 t12 t16 : Bool) →
        field_kind state (if t0 then Some Data else (if t4 then Some DataEnd else (if t12 then Some IngressIfindex else (if t16 then Some RxQueueIndex else None)))) ≡ Ok kind →
        Loads s kind (field_outcome machine (if t0 then Some Data else (if t4 then Some DataEnd else (if t12 then Some IngressIfindex else (if t16 then Some RxQueueIndex else None)))))
    by_tests true t4 t12 t16 e = let same : Packet 0 0 state.start_range ≡ kind = cc in loads_as s (Packet 0 0 state.start_range) kind (Ok (PacketPointer machine.generation (pos 0))) (PacketPointer machine.generation (pos 0)) same refl packet
    by_tests false true t12 t16 e = let same : PacketEnd ≡ kind = cc in loads_as s (PacketEnd) kind (Ok (meaning.PacketEnd machine.generation)) (meaning.PacketEnd machine.generation) same refl refl
    by_tests false false true t16 e = let same : Scalar (interval_of 1 1) ≡ kind = cc in loads_as s (Scalar (interval_of 1 1)) kind (Ok (Number 1)) (Number 1) same refl one
    by_tests false false false true e = let same : Scalar (interval_of 0 7) ≡ kind = cc in loads_as s (Scalar (interval_of 0 7)) kind (Ok (Number machine.worker)) (Number machine.worker) same refl worker
    by_tests false false false false e = cc

context_loads : (maps : List MapDef) (held : Held) (state : State) (machine : MachineState) (a : Abstracts maps held state machine) (count : ℕ) → 0 < count →
    (size : Size) (place : ℤ) (kind : Kind) → context_loaded state size place ≡ Ok kind → Loads (next_setting maps held a.ids machine count) kind (context_field machine size place)
context_loads maps held state machine a count some U32 place kind e = field_loads maps held state machine a count some place kind e
context_loads maps held state machine a count some U8 place kind e = cc
context_loads maps held state machine a count some U16 place kind e = cc
context_loads maps held state machine a count some U64 place kind e = cc

-- ---- values of maps

pub load_size : (size : Size) → IsTrue (is_load_size (size_bytes size))
load_size U8 = refl
load_size U16 = refl
load_size U32 = refl
load_size U64 = refl

-- a load from a cell is served, and every word that comes is covered
pub cell_follows : (program : Program) (held : Held) (state : State) (machine : MachineState) (a : Abstracts program.maps held state machine)
    (insn : Insn) (dst : Register) (done : Unit {0}) → writable dst ≡ Ok done → (map shard cell : ℕ) (place : ℤ) (from : ℕ) (size : Size) (convert : ℕ → ℕ) (i : Interval) →
    IsWithin place (size_bytes size) (value_size_of (slice_get program.maps map)) from → IsTrue (held map shard cell) →
    ((n : ℕ) → n < 256 ^ size_bytes size → IsNumberIn i (Number (convert n))) →
    FallsOn program held (with_kind state dst (Scalar i)) machine (machine.slot + slot_count insn)
    (load_cell_step program insn machine dst map shard cell place (size_bytes size) convert)
cell_follows program held state machine a insn dst done w map shard cell place from size convert i found holds covers =
    rw (cell_reached program map place from (size_bytes size) found, written_ok dst done w machine Uninitialized)
    (record { map = map; holds = holds; is_size = load_size size; inside = found.inside }, given)
  where
    given : (reply : Reply) → IsReplyTo program (Load (cell_ref shard cell) from (size_bytes size)) reply → (held' : Held) →
        HoldsAfter program held held' (Load (cell_ref shard cell) from (size_bytes size)) reply →
        GoesOnAt program.maps held' (with_kind state dst (Scalar i)) machine (at_next_slot insn (with_register machine dst (word_value convert reply))) (machine.slot + slot_count insn)
    given (Word n) small held' after = record {
      at = refl;
      counted = refl;
      sound = put program.maps held held' state machine a dst (Scalar i) (Number (convert n)) (slot_count insn) after.kept (covers n small);
    }
    given Entered is held' after = absurd is
    given Left is held' after = absurd is
    given (Cell cell) is held' after = absurd is
    given Null is held' after = absurd is
    given Done is held' after = absurd is
    given (Answer code) is held' after = absurd is
    given (Freed count) is held' after = absurd is

-- ---- loads by what the source is known to have

load_by_kind : (program : Program) (held : Held) (state : State) (machine : MachineState) (a : Abstracts program.maps held state machine)
    (insn : Insn) → 0 < slot_count insn → (size : Size) (dst : Register) (done : Unit {0}) → writable dst ≡ Ok done → (src : Register) (offset : ℤ) (known : Kind) (v : RegisterValue) →
    KindCovers (kind_scope_of program.maps held a.ids machine) known v → (kind : Kind) → loaded_kind program.maps state size known offset src ≡ Ok kind →
    FallsOn program held (with_kind state dst kind) machine (machine.slot + slot_count insn) (load_step program insn machine dst v offset size)
load_by_kind program held state machine a insn some size dst done w src offset Ctx v c kind e =
    let l : Loads (next_setting program.maps held a.ids machine (slot_count insn)) kind (context_field machine size offset) =
    context_loads program.maps held state machine a (slot_count insn) some size offset kind e
    in subst (λ v. FallsOn program held (with_kind state dst kind) machine (machine.slot + slot_count insn) (load_step program insn machine dst v offset size)) (sym c)
    (write_follows program held state machine a insn dst done w (context_field machine size offset) kind l.value l.is l.covered)
load_by_kind program held state machine a insn some size dst done w src offset (Stack place) v c kind e =
    let parts = ok_then (stack_access place offset (size_bytes size)) (λ from. word_loaded state size from (word_of state (from / 8))) kind e
    in let found : IsAligned (pos place +ℤ offset) (size_bytes size) 512 parts.0 = stack_found place offset (size_bytes size) parts.0 parts.1.0
    in let l : Loads (kind_scope_of program.maps held a.ids machine) kind (spilled_or_number (take (size_bytes size) (drop parts.0 machine.stack))) =
    word_loads program.maps held state machine a size parts.0 kind found.inside found.multiple parts.1.1
    in let same : stack_value machine.stack (c.at +ℤ offset) (size_bytes size) ≡ spilled_or_number (take (size_bytes size) (drop parts.0 machine.stack)) =
    stack_value_is machine.stack c.at offset place parts.0 (size_bytes size) c.counted a.is_machine.stack_size found
    in subst (λ v. FallsOn program held (with_kind state dst kind) machine (machine.slot + slot_count insn) (load_step program insn machine dst v offset size)) (sym c.is)
    (loads_follow program held state machine a insn dst done w (stack_value machine.stack (c.at +ℤ offset) (size_bytes size)) kind
    (record { value = l.value; is = same ∙ l.is; covered = l.covered }))
load_by_kind program held state machine a insn some size dst done w src offset (Packet id off range) v c kind e =
    let parts = ok_then (packet_access off range offset (size_bytes size)) (λ from. Ok (loaded_number size)) kind e
    in let found = range_found (pos off +ℤ offset) (size_bytes size) range _ parts.0 parts.1.0
    in let n = packet_number program.maps held state machine a size id off range parts.0 offset v c found.0 found.1
    in let same : kind ≡ loaded_number size = ok_same (Ok (loaded_number size)) kind (loaded_number size) parts.1.1 refl
    in subst (λ v. FallsOn program held (with_kind state dst kind) machine (machine.slot + slot_count insn) (load_step program insn machine dst v offset size)) (sym c.is)
    (loads_follow program held state machine a insn dst done w (packet_value machine machine.generation (pos (a.ids.base id + off) +ℤ offset) (size_bytes size)) kind
    (number_loads (kind_scope_of program.maps held a.ids machine) size (packet_value machine machine.generation (pos (a.ids.base id + off) +ℤ offset) (size_bytes size)) kind n same))
load_by_kind program held state machine a insn some size dst done w src offset (Value map id off) v c kind e =
    let parts = ok_then (value_access program.maps map off offset (size_bytes size)) (λ from. Ok (loaded_number size)) kind e
    in let there = value_found program.maps map off offset (size_bytes size) parts.0 c.at c.least c.most parts.1.0
    in let same : loaded_number size ≡ kind = ok_same (Ok (loaded_number size)) (loaded_number size) kind refl parts.1.1
    in subst (λ v. FallsOn program held (with_kind state dst kind) machine (machine.slot + slot_count insn) (load_step program insn machine dst v offset size)) (sym c.is)
    (subst (λ kind. FallsOn program held (with_kind state dst kind) machine (machine.slot + slot_count insn)
    (load_step program insn machine dst (CellPointer map c.cell.shard c.cell.id (pos c.at)) offset size)) same
    (cell_follows program held state machine a insn dst done w map c.cell.shard c.cell.id (pos c.at +ℤ offset) there.from size (λ n. n) (full_of (size_bits size)) there.found c.held
    (λ n h. in_full size n (size_fits size n h))))
load_by_kind program held state machine a insn some size dst done w src offset Unset v c kind e = cc
load_by_kind program held state machine a insn some size dst done w src offset (Scalar i) v c kind e = cc
load_by_kind program held state machine a insn some size dst done w src offset PacketEnd v c kind e = cc
load_by_kind program held state machine a insn some size dst done w src offset (Map map) v c kind e = cc
load_by_kind program held state machine a insn some size dst done w src offset (ValueOrNull map id) v c kind e = cc

one_slot : (size : Size) (dst src : Register) (offset : ℤ) → 0 < slot_count (Ldx size dst src offset)
unfolding slot_count
one_slot size dst src offset = omega arith

pub load_sound : (program : Program) (held : Held) (state : State) (machine : MachineState) (size : Size) (dst src : Register) (offset : ℤ) (flow : Flow) →
    Abstracts program.maps held state machine → flow_of program.maps state machine.slot (Ldx size dst src offset) ≡ Ok flow →
    Follows program held flow machine (Ldx size dst src offset) (instruction_step program (Ldx size dst src offset) machine)
load_sound program held state machine size dst src offset flow a e =
    let made = falls_made (load_flow state dst src (load_of program.maps state size dst src offset)) flow e
    in let first = ok_then (writable dst) (λ _. reads state src >>= (λ _. load_of program.maps state size dst src offset)) made.0 made.1.0
    in let second = ok_then (reads state src) (λ _. load_of program.maps state size dst src offset) made.0 first.1.1
    in let third = ok_then (loaded_kind program.maps state size (kind_of state src) offset src) (λ kind. Ok (with_kind state dst kind)) made.0 second.1.1
    in let same : with_kind state dst third.0 ≡ made.0 = ok_same (Ok made.0) (with_kind state dst third.0) made.0 (sym third.1.1) refl
    in subst (λ flow. Follows program held flow machine (Ldx size dst src offset) (instruction_step program (Ldx size dst src offset) machine)) (sym made.1.1)
    (subst (λ s. FallsOn program held s machine (machine.slot + slot_count (Ldx size dst src offset)) (instruction_step program (Ldx size dst src offset) machine)) same
    (load_by_kind program held state machine a (Ldx size dst src offset) (one_slot size dst src offset) size dst first.0 first.1.0 src offset
    (kind_of state src) (register_value machine src) (a.registers src) third.0 third.1.0))
