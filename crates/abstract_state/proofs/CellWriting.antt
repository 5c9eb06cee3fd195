-- Stores and atomic operations on values of maps: their calls are served, and what is known stays sound for every reply.
use Rattle.std.proofs.Common.{◌≡◌, ℕ, ◌+◌, ◌%◌, ◌^◌, ◌<◌, ◌==◌, ◌||◌, Bool, true, false, ℤ, pos, refl, sym, ap, subst, arith}
use Rattle.std.specs.Prelude.{Ok, Option, Some, None, IsTrue, ◌+ℤ◌, slice_get, is_some}
use Rattle.std.proofs.lemmas.Nat.{mod_below}
use Rattle.isa.specs.Words.{width_bits}
use Rattle.isa.specs.InstructionCodes.{atomic_code, atomic_op_of, width_size, size_bytes}
use Rattle.isa.specs.declared.operation.Width.{Width}
use Rattle.isa.specs.declared.operation.Width.TheVariants.{Bits32, Bits64}
use Rattle.isa.specs.declared.operation.Size.{Size}
use Rattle.isa.specs.declared.operation.Size.TheVariants.{U8, U16, U32, U64}
use Rattle.isa.specs.declared.operation.AtomicOp.{AtomicOp}
use Rattle.isa.specs.declared.operation.AtomicOp.TheVariants.{AtomicAdd, AtomicOr, AtomicAnd, AtomicXor, FetchAdd, FetchOr, FetchAnd, FetchXor, Exchange, CompareExchange}
use Rattle.isa.specs.declared.operation.Register.{Register}
use Rattle.isa.specs.declared.operation.Register.TheVariants.{R0}
use Rattle.ebpf_decode.specs.declared.insn.Insn.{Insn}
use Rattle.ebpf_decode.specs.declared.insn.Insn.TheVariants.{AtomicUpdate}
use Rattle.ebpf_decode.specs.InstructionEncoding.{slot_count}
use Rattle.semantics.specs.declared.call.Call.TheVariants.{Atomic}
use Rattle.semantics.specs.declared.call.Reply.{Reply}
use Rattle.semantics.specs.declared.call.Reply.TheVariants.{Entered, Left, Cell, Null, Word, Done, Answer, Freed}
use Rattle.semantics.specs.RegisterValue.{RegisterValue, Uninitialized, Number, CellPointer}
use Rattle.semantics.specs.MachineState.{MachineState, register_value}
use Rattle.semantics.specs.Program.{Program}
use Rattle.semantics.specs.History.{is_atomic_size, is_expected}
use Rattle.semantics.specs.Arithmetic.{number_of_value}
use Rattle.semantics.specs.Memory.{cell_ref}
use Rattle.semantics.specs.RunTrace.{IsReplyTo}
use Rattle.isa.specs.Atomic.{fetched_register}
use Rattle.semantics.specs.Semantics.{at_next_slot, with_fetched, after_fetch, expected_number, word_value, stored_number, store_step, atomic_step, instruction_step}
use Rattle.abstract_scalar.specs.Intervals.{full_of}
use Rattle.abstract_state.specs.declared.kind.Kind.{Kind}
use Rattle.abstract_state.specs.declared.kind.Kind.TheVariants.{Unset, Scalar, Ctx, Stack, Packet, PacketEnd, Map, ValueOrNull, Value}
use Rattle.abstract_state.specs.declared.flow.Flow.{Flow}
use Rattle.abstract_state.specs.declared.state.State.{State}
use Rattle.abstract_state.specs.States.{◌>>=◌, kind_of, value_size_of}
use Rattle.abstract_state.specs.Places.{atomic_access}
use Rattle.abstract_state.specs.Words.{storable_number}
use Rattle.abstract_state.specs.Access.{with_fetched_kind, expects, checked_atomic, atomic_of}
use Rattle.abstract_state.specs.Flow.{fetch_writable, reads_atomic, atomic_flow, flow_of}
use Rattle.abstract_state.specs.Soundness.{GoesOnAt, FallsOn, Follows, HoldsAfter}
use Rattle.abstract_state.specs.Abstraction.{Held, KindCovers, IsNumberIn, kind_scope_of, Abstracts}
use Rattle.abstract_state.proofs.shared.Writing.{held_more}
use Rattle.abstract_state.proofs.shared.Following.{moved_on}
use Rattle.abstract_state.proofs.shared.Checking.{ok_same, ok_then, falls_made, written_ok, put}
use Rattle.abstract_state.proofs.shared.Accesses.{IsAligned, IsWithin, atomic_found, cell_reached, aligned_cell_reached}
use Rattle.abstract_state.proofs.shared.LoadedNumbers.{in_full}
use Rattle.abstract_state.proofs.Loading.{load_size}
use Rattle.abstract_state.proofs.StoredPlaces.{narrow_is_number}

-- ---- numbers of a width

some_numbers : (size : Size) → 0 < 256 ^ size_bytes size
some_numbers U8 = omega arith
some_numbers U16 = omega arith
some_numbers U32 = omega arith
some_numbers U64 = omega arith

cut : (n : ℕ) (size : Size) → n % 256 ^ size_bytes size < 256 ^ size_bytes size
cut n size = mod_below n (256 ^ size_bytes size) (some_numbers size)

-- the run goes on with no register changed, whatever more is held
goes_on_as : (program : Program) (held held' : Held) (state : State) (machine : MachineState) (a : Abstracts program.maps held state machine) (insn : Insn) →
    ((map shard cell : ℕ) → IsTrue (held map shard cell) → IsTrue (held' map shard cell)) →
    GoesOnAt program.maps held' state machine (at_next_slot insn machine) (machine.slot + slot_count insn)
goes_on_as program held held' state machine a insn more = record {
  at = refl;
  counted = refl;
  sound = held_more program.maps held held' state (at_next_slot insn machine) more
      (moved_on program.maps held state machine (machine.slot + slot_count insn) (machine.steps + 1) a (omega arith));
}

-- ---- stores

pub cell_stored : (program : Program) (held : Held) (state : State) (machine : MachineState) (a : Abstracts program.maps held state machine) (insn : Insn) (size : Size)
    (map shard cell : ℕ) (at offset : ℤ) (from n : ℕ) → IsWithin (at +ℤ offset) (size_bytes size) (value_size_of (slice_get program.maps map)) from →
    IsTrue (held map shard cell) →
    FallsOn program held state machine (machine.slot + slot_count insn) (store_step program insn machine (CellPointer map shard cell at) offset size (Number n))
cell_stored program held state machine a insn size map shard cell at offset from n found holds =
    rw (cell_reached program map (at +ℤ offset) from (size_bytes size) found) (
      record {
        at = record { map = map; holds = holds; is_size = load_size size; inside = found.inside };
        fits = cut n size;
      },
      λ reply is held' after. goes_on_as program held held' state machine a insn after.kept,
    )

-- ---- atomic operations

atomic_size : (width : Width) → IsTrue (is_atomic_size (size_bytes (width_size width)))
atomic_size Bits32 = refl
atomic_size Bits64 = refl

known_op : (op : AtomicOp) → IsTrue (is_some (atomic_op_of (atomic_code op)))
known_op AtomicAdd = refl
known_op AtomicOr = refl
known_op AtomicAnd = refl
known_op AtomicXor = refl
known_op FetchAdd = refl
known_op FetchOr = refl
known_op FetchAnd = refl
known_op FetchXor = refl
known_op Exchange = refl
known_op CompareExchange = refl

fetched_full : (width : Width) (old : ℕ) → old < 256 ^ size_bytes (width_size width) → IsNumberIn (full_of (width_bits width)) (Number old)
fetched_full Bits32 old small = in_full U32 old (omega arith)
fetched_full Bits64 old small = in_full U64 old (omega arith)

-- the number that is compared with
record Compared (machine : MachineState) (op : AtomicOp) : Type 0 where
  expected : ℕ
  is : expected_number machine op ≡ Ok expected
  compares : (size : Size) → IsTrue (is_expected (atomic_code op) (expected % 256 ^ size_bytes size))

or_true : (a : Bool) → (a || true) ≡ true
or_true true = refl
or_true false = refl

is_number : (kind : Kind) (done : Unit {0}) → expects CompareExchange kind ≡ Ok done → storable_number kind ≡ Ok tt
is_number (Scalar i) done e = refl
is_number Unset done e = cc
is_number Ctx done e = cc
is_number (Stack place) done e = cc
is_number (Packet id off range) done e = cc
is_number PacketEnd done e = cc
is_number (Map map) done e = cc
is_number (ValueOrNull map id) done e = cc
is_number (Value map id off) done e = cc

no_number : (size : Size) → (0 % 256 ^ size_bytes size == 0) ≡ true
no_number U8 = refl
no_number U16 = refl
no_number U32 = refl
no_number U64 = refl

nothing_compared : (machine : MachineState) (op : AtomicOp) → expected_number machine op ≡ Ok 0 → Compared machine op
nothing_compared machine op is = record { expected = 0; is = is; compares = λ size. rw (no_number size) refl }

read_number : (v : RegisterValue) (n : ℕ) → v ≡ Number n → number_of_value v ≡ Ok n
read_number v n is = rw is refl

compared : (program : Program) (held : Held) (state : State) (machine : MachineState) (a : Abstracts program.maps held state machine) (op : AtomicOp) (done : Unit {0}) →
    expects op (kind_of state R0) ≡ Ok done → Compared machine op
compared program held state machine a CompareExchange done e =
    let n = narrow_is_number (kind_scope_of program.maps held a.ids machine) (kind_of state R0) (register_value machine R0) tt (is_number (kind_of state R0) done e) (a.registers R0)
    in record {
      expected = n.0;
      is = read_number (register_value machine R0) n.0 n.1;
      compares = λ size. or_true (n.0 % 256 ^ size_bytes size == 0);
    }
compared program held state machine a AtomicAdd done e = nothing_compared machine AtomicAdd refl
compared program held state machine a AtomicOr done e = nothing_compared machine AtomicOr refl
compared program held state machine a AtomicAnd done e = nothing_compared machine AtomicAnd refl
compared program held state machine a AtomicXor done e = nothing_compared machine AtomicXor refl
compared program held state machine a FetchAdd done e = nothing_compared machine FetchAdd refl
compared program held state machine a FetchOr done e = nothing_compared machine FetchOr refl
compared program held state machine a FetchAnd done e = nothing_compared machine FetchAnd refl
compared program held state machine a FetchXor done e = nothing_compared machine FetchXor refl
compared program held state machine a Exchange done e = nothing_compared machine Exchange refl

-- the register that gets the old value may be written
fetches : (machine : MachineState) (register : Option Register) (done : Unit {0}) → fetch_writable register ≡ Ok done →
    with_fetched machine register Uninitialized ≡ Ok (after_fetch machine register Uninitialized)
fetches machine None done e = refl
fetches machine (Some register) done e = written_ok register done e machine Uninitialized

fetched : (program : Program) (held held' : Held) (state : State) (machine : MachineState) (a : Abstracts program.maps held state machine) (insn : Insn) (width : Width)
    (register : Option Register) (old : ℕ) → old < 256 ^ size_bytes (width_size width) →
    ((map shard cell : ℕ) → IsTrue (held map shard cell) → IsTrue (held' map shard cell)) →
    GoesOnAt program.maps held' (with_fetched_kind state register width) machine (at_next_slot insn (after_fetch machine register (Number old))) (machine.slot + slot_count insn)
fetched program held held' state machine a insn width None old small more = goes_on_as program held held' state machine a insn more
fetched program held held' state machine a insn width (Some register) old small more = record {
  at = refl;
  counted = refl;
  sound = put program.maps held held' state machine a register (Scalar (full_of (width_bits width))) (Number old) (slot_count insn) more (fetched_full width old small);
}

answered : (program : Program) (held : Held) (state : State) (machine : MachineState) (a : Abstracts program.maps held state machine) (insn : Insn) (width : Width)
    (register : Option Register) (shard cell offset op n expected : ℕ) (reply : Reply) →
    IsReplyTo program (Atomic (cell_ref shard cell) offset (size_bytes (width_size width)) op n expected) reply → (held' : Held) →
    HoldsAfter program held held' (Atomic (cell_ref shard cell) offset (size_bytes (width_size width)) op n expected) reply →
    GoesOnAt program.maps held' (with_fetched_kind state register width) machine
    (at_next_slot insn (after_fetch machine register (word_value (λ old. old) reply))) (machine.slot + slot_count insn)
answered program held state machine a insn width register shard cell offset op n expected (Word old) small held' after =
    fetched program held held' state machine a insn width register old small after.kept
answered program held state machine a insn width register shard cell offset op n expected Entered is held' after = absurd is
answered program held state machine a insn width register shard cell offset op n expected Left is held' after = absurd is
answered program held state machine a insn width register shard cell offset op n expected (Cell found) is held' after = absurd is
answered program held state machine a insn width register shard cell offset op n expected Null is held' after = absurd is
answered program held state machine a insn width register shard cell offset op n expected Done is held' after = absurd is
answered program held state machine a insn width register shard cell offset op n expected (Answer code) is held' after = absurd is
answered program held state machine a insn width register shard cell offset op n expected (Freed count) is held' after = absurd is

cell_changed : (program : Program) (held : Held) (state : State) (machine : MachineState) (a : Abstracts program.maps held state machine) (insn : Insn) (width : Width) (op : AtomicOp)
    (src : Register) (map shard cell : ℕ) (at offset : ℤ) (from n : ℕ) → IsAligned (at +ℤ offset) (size_bytes (width_size width)) (value_size_of (slice_get program.maps map)) from →
    IsTrue (held map shard cell) → register_value machine src ≡ Number n → Compared machine op → (done : Unit {0}) → fetch_writable (fetched_register op src) ≡ Ok done →
    FallsOn program held (with_fetched_kind state (fetched_register op src) width) machine (machine.slot + slot_count insn)
    (atomic_step program insn machine width op (CellPointer map shard cell at) src offset)
cell_changed program held state machine a insn width op src map shard cell at offset from n found holds is c done may =
    let source : stored_number (register_value machine src) ≡ Ok n = ap stored_number is
    in rw (aligned_cell_reached program map (at +ℤ offset) from (size_bytes (width_size width)) found, source, c.is, fetches machine (fetched_register op src) done may) (
      record {
        map = map;
        holds = holds;
        is_size = atomic_size width;
        inside = found.inside;
        aligned = found.multiple;
        known = known_op op;
        fits = cut n (width_size width);
        expected_fits = cut c.expected (width_size width);
        compares = c.compares (width_size width);
      },
      answered program held state machine a insn width (fetched_register op src) shard cell from (atomic_code op) (n % 256 ^ size_bytes (width_size width))
          (c.expected % 256 ^ size_bytes (width_size width)),
    )

atomic_by_kind : (program : Program) (held : Held) (state : State) (machine : MachineState) (a : Abstracts program.maps held state machine) (insn : Insn) (width : Width) (op : AtomicOp)
    (dst src : Register) (offset : ℤ) (done : Unit {0}) → fetch_writable (fetched_register op src) ≡ Ok done → (known : Kind) (v : RegisterValue) →
    KindCovers (kind_scope_of program.maps held a.ids machine) known v → (s : State) → checked_atomic program.maps state width op known offset dst src ≡ Ok s →
    FallsOn program held s machine (machine.slot + slot_count insn) (atomic_step program insn machine width op v src offset)
atomic_by_kind program held state machine a insn width op dst src offset done may (Value map id off) v c s e =
    let first = ok_then (atomic_access program.maps map off offset (size_bytes (width_size width))) (λ from. storable_number (kind_of state src) >>= (λ _.
    expects op (kind_of state R0) >>= (λ _. Ok (with_fetched_kind state (fetched_register op src) width)))) s e
    in let second = ok_then (storable_number (kind_of state src)) (λ _. expects op (kind_of state R0) >>= (λ _. Ok (with_fetched_kind state (fetched_register op src) width))) s first.1.1
    in let third = ok_then (expects op (kind_of state R0)) (λ _. Ok (with_fetched_kind state (fetched_register op src) width)) s second.1.1
    in let same : with_fetched_kind state (fetched_register op src) width ≡ s =
    ok_same (Ok (with_fetched_kind state (fetched_register op src) width)) (with_fetched_kind state (fetched_register op src) width) s refl third.1.1
    in let found : IsAligned (pos c.at +ℤ offset) (size_bytes (width_size width)) (value_size_of (slice_get program.maps map)) first.0 =
    atomic_found program.maps map off offset (size_bytes (width_size width)) first.0 c.at c.least c.most first.1.0
    in let n = narrow_is_number (kind_scope_of program.maps held a.ids machine) (kind_of state src) (register_value machine src) second.0 second.1.0 (a.registers src)
    in subst (λ s. FallsOn program held s machine (machine.slot + slot_count insn) (atomic_step program insn machine width op v src offset)) same
    (subst (λ v. FallsOn program held (with_fetched_kind state (fetched_register op src) width) machine (machine.slot + slot_count insn)
    (atomic_step program insn machine width op v src offset)) (sym c.is)
    (cell_changed program held state machine a insn width op src map c.cell.shard c.cell.id (pos c.at) offset first.0 n.0 found c.held n.1
    (compared program held state machine a op third.0 third.1.0) done may))
atomic_by_kind program held state machine a insn width op dst src offset done may Unset v c s e = cc
atomic_by_kind program held state machine a insn width op dst src offset done may (Scalar i) v c s e = cc
atomic_by_kind program held state machine a insn width op dst src offset done may Ctx v c s e = cc
atomic_by_kind program held state machine a insn width op dst src offset done may (Stack place) v c s e = cc
atomic_by_kind program held state machine a insn width op dst src offset done may (Packet id off range) v c s e = cc
atomic_by_kind program held state machine a insn width op dst src offset done may PacketEnd v c s e = cc
atomic_by_kind program held state machine a insn width op dst src offset done may (Map map) v c s e = cc
atomic_by_kind program held state machine a insn width op dst src offset done may (ValueOrNull map id) v c s e = cc

pub atomic_sound : (program : Program) (held : Held) (state : State) (machine : MachineState) (width : Width) (op : AtomicOp) (dst src : Register) (offset : ℤ) (flow : Flow) →
    Abstracts program.maps held state machine → flow_of program.maps state machine.slot (AtomicUpdate width op dst src offset) ≡ Ok flow →
    Follows program held flow machine (AtomicUpdate width op dst src offset) (instruction_step program (AtomicUpdate width op dst src offset) machine)
atomic_sound program held state machine width op dst src offset flow a e =
    let made = falls_made (atomic_flow program.maps state width op dst src offset) flow e
    in let first = ok_then (fetch_writable (fetched_register op src)) (λ _. reads_atomic state op dst src >>= (λ _. atomic_of program.maps state width op dst src offset)) made.0 made.1.0
    in let second = ok_then (reads_atomic state op dst src) (λ _. atomic_of program.maps state width op dst src offset) made.0 first.1.1
    in subst (λ flow. Follows program held flow machine (AtomicUpdate width op dst src offset) (instruction_step program (AtomicUpdate width op dst src offset) machine)) (sym made.1.1)
    (atomic_by_kind program held state machine a (AtomicUpdate width op dst src offset) width op dst src offset first.0 first.1.0 (kind_of state dst) (register_value machine dst)
    (a.registers dst) made.0 second.1.1)
