-- Stores: what is known then of the stack, and what a map is asked to store.
use Rattle.std.proofs.Common.{◌≡◌, ℕ, ◌+◌, ◌/◌, ◌%◌, ◌^◌, ◌<◌, ℤ, pos, refl, sym, arith, subst}
use Rattle.std.specs.Prelude.{Ok, ◌+ℤ◌}
use Rattle.isa.specs.Words.{twos_complement}
use Rattle.isa.specs.declared.operation.Size.{Size}
use Rattle.isa.specs.declared.operation.Size.TheVariants.{U8, U16, U32, U64}
use Rattle.isa.specs.declared.operation.Register.{Register}
use Rattle.isa.specs.declared.operation.SourceOperand.TheVariants.{Reg}
use Rattle.ebpf_decode.specs.declared.insn.Insn.{Insn}
use Rattle.ebpf_decode.specs.declared.insn.Insn.TheVariants.{St, Stx}
use Rattle.ebpf_decode.specs.InstructionEncoding.{slot_count, FieldsFit}
use Rattle.semantics.specs.RegisterValue.{RegisterValue, Number, StackPointer, PacketPointer, CellPointer}
use Rattle.semantics.specs.MachineState.{MachineState, register_value}
use Rattle.semantics.specs.Program.{Program}
use Rattle.isa.specs.InstructionCodes.{size_bytes}
use Rattle.semantics.specs.Semantics.{store_step, instruction_step}
use Rattle.abstract_scalar.specs.Intervals.{constant_of}
use Rattle.abstract_state.specs.declared.kind.Kind.{Kind}
use Rattle.abstract_state.specs.declared.kind.Kind.TheVariants.{Unset, Scalar, Ctx, Stack, Packet, PacketEnd, Map, ValueOrNull, Value}
use Rattle.abstract_state.specs.declared.kind.StackWord.TheVariants.{Bytes}
use Rattle.abstract_state.specs.declared.flow.Flow.{Flow}
use Rattle.abstract_state.specs.declared.state.State.{State}
use Rattle.abstract_state.specs.States.{◌>>=◌, kind_of, word_of, with_word}
use Rattle.abstract_state.specs.Join.{bytes_of_word}
use Rattle.abstract_state.specs.Places.{stack_access, packet_access, value_access}
use Rattle.abstract_state.specs.Words.{storable_number, with_set}
use Rattle.abstract_state.specs.Access.{stack_stored, stored, store_of}
use Rattle.abstract_state.specs.Flow.{check_set, reads, reads_both, store_flow, store_register_flow, flow_of}
use Rattle.abstract_state.specs.Soundness.{FallsOn, Follows}
use Rattle.abstract_state.specs.Abstraction.{Held, KindCovers, IsStackPlace, kind_scope_of, Abstracts}
use Rattle.abstract_state.proofs.shared.Checking.{ok_same, ok_then, falls_made}
use Rattle.abstract_state.proofs.shared.FlowSteps.{immediate_fits}
use Rattle.abstract_state.proofs.shared.Accesses.{IsAligned, range_found, stack_found, value_found}
use Rattle.abstract_state.proofs.CellWriting.{cell_stored}
use Rattle.abstract_state.proofs.StoredPlaces.{AreEight, narrow_is_number, whole_stored, part_stored, packet_stored}

-- ---- stores to the stack, by their size

stack_part : (program : Program) (held : Held) (state : State) (machine : MachineState) (a : Abstracts program.maps held state machine) → AreEight state → (insn : Insn) (size : Size) →
    (offset : ℤ) (place : ℕ) (v : RegisterValue) → IsStackPlace place v → (kind : Kind) (value : RegisterValue) → KindCovers (kind_scope_of program.maps held a.ids machine) kind value →
    (s : State) → (stack_access place offset (size_bytes size) >>= (λ from. storable_number kind >>= (λ _.
    Ok (with_word state (from / 8) (Bytes (with_set (bytes_of_word (word_of state (from / 8))) (from % 8) (size_bytes size))))))) ≡ Ok s →
    FallsOn program held s machine (machine.slot + slot_count insn) (store_step program insn machine v offset size value)
stack_part program held state machine a eight insn size offset place v c kind value cv s e =
    let first = ok_then (stack_access place offset (size_bytes size)) (λ from. storable_number kind >>= (λ _.
    Ok (with_word state (from / 8) (Bytes (with_set (bytes_of_word (word_of state (from / 8))) (from % 8) (size_bytes size)))))) s e
    in let second = ok_then (storable_number kind) (λ _.
    Ok (with_word state (first.0 / 8) (Bytes (with_set (bytes_of_word (word_of state (first.0 / 8))) (first.0 % 8) (size_bytes size))))) s first.1.1
    in let same : with_word state (first.0 / 8) (Bytes (with_set (bytes_of_word (word_of state (first.0 / 8))) (first.0 % 8) (size_bytes size))) ≡ s =
    ok_same (Ok (with_word state (first.0 / 8) (Bytes (with_set (bytes_of_word (word_of state (first.0 / 8))) (first.0 % 8) (size_bytes size)))))
    (with_word state (first.0 / 8) (Bytes (with_set (bytes_of_word (word_of state (first.0 / 8))) (first.0 % 8) (size_bytes size)))) s refl second.1.1
    in let n = narrow_is_number (kind_scope_of program.maps held a.ids machine) kind value second.0 second.1.0 cv
    in let found : IsAligned (pos place +ℤ offset) (size_bytes size) 512 first.0 = stack_found place offset (size_bytes size) first.0 first.1.0
    in subst (λ s. FallsOn program held s machine (machine.slot + slot_count insn) (store_step program insn machine v offset size value)) same
    (subst (λ v. FallsOn program held (with_word state (first.0 / 8) (Bytes (with_set (bytes_of_word (word_of state (first.0 / 8))) (first.0 % 8) (size_bytes size)))) machine
    (machine.slot + slot_count insn) (store_step program insn machine v offset size value)) (sym c.is)
    (subst (λ value. FallsOn program held (with_word state (first.0 / 8) (Bytes (with_set (bytes_of_word (word_of state (first.0 / 8))) (first.0 % 8) (size_bytes size)))) machine
    (machine.slot + slot_count insn) (store_step program insn machine (StackPointer c.at) offset size value)) (sym n.1)
    (part_stored program held state machine a eight insn size c.at offset place first.0 n.0 c.counted found)))

stack_whole : (program : Program) (held : Held) (state : State) (machine : MachineState) (a : Abstracts program.maps held state machine) → (insn : Insn) →
    (offset : ℤ) (place : ℕ) (v : RegisterValue) → IsStackPlace place v → (kind : Kind) (value : RegisterValue) → (kind ≡ Unset → ⊥) → KindCovers (kind_scope_of program.maps held a.ids machine) kind value →
    (s : State) → (stack_access place offset 8 >>= (λ from. Ok (stack_stored state U64 from kind))) ≡ Ok s →
    FallsOn program held s machine (machine.slot + slot_count insn) (store_step program insn machine v offset U64 value)
stack_whole program held state machine a insn offset place v c kind value set cv s e =
    let first = ok_then (stack_access place offset 8) (λ from. Ok (stack_stored state U64 from kind)) s e
    in let same : stack_stored state U64 first.0 kind ≡ s = ok_same (Ok (stack_stored state U64 first.0 kind)) (stack_stored state U64 first.0 kind) s refl first.1.1
    in let found : IsAligned (pos place +ℤ offset) 8 512 first.0 = stack_found place offset 8 first.0 first.1.0
    in subst (λ s. FallsOn program held s machine (machine.slot + slot_count insn) (store_step program insn machine v offset U64 value)) same
    (subst (λ v. FallsOn program held (stack_stored state U64 first.0 kind) machine (machine.slot + slot_count insn) (store_step program insn machine v offset U64 value)) (sym c.is)
    (whole_stored program held state machine a insn c.at offset place first.0 c.counted found kind value set cv))

-- ---- stores by what the destination is known to have

store_by_kind : (program : Program) (held : Held) (state : State) (machine : MachineState) (a : Abstracts program.maps held state machine) → AreEight state → (insn : Insn) (size : Size) →
    (offset : ℤ) (dst : Register) (known : Kind) (v : RegisterValue) → KindCovers (kind_scope_of program.maps held a.ids machine) known v →
    (kind : Kind) (value : RegisterValue) → (kind ≡ Unset → ⊥) → KindCovers (kind_scope_of program.maps held a.ids machine) kind value →
    (s : State) → stored program.maps state size known offset dst kind ≡ Ok s →
    FallsOn program held s machine (machine.slot + slot_count insn) (store_step program insn machine v offset size value)
store_by_kind program held state machine a eight insn U64 offset dst (Stack place) v c kind value set cv s e = stack_whole program held state machine a insn offset place v c kind value set cv s e
store_by_kind program held state machine a eight insn U8 offset dst (Stack place) v c kind value set cv s e = stack_part program held state machine a eight insn U8 offset place v c kind value cv s e
store_by_kind program held state machine a eight insn U16 offset dst (Stack place) v c kind value set cv s e = stack_part program held state machine a eight insn U16 offset place v c kind value cv s e
store_by_kind program held state machine a eight insn U32 offset dst (Stack place) v c kind value set cv s e = stack_part program held state machine a eight insn U32 offset place v c kind value cv s e
store_by_kind program held state machine a eight insn size offset dst (Packet id off range) v c kind value set cv s e =
    let first = ok_then (packet_access off range offset (size_bytes size)) (λ from. storable_number kind >>= (λ _. Ok state)) s e
    in let second = ok_then (storable_number kind) (λ _. Ok state) s first.1.1
    in let same : state ≡ s = ok_same (Ok state) state s refl second.1.1
    in let n = narrow_is_number (kind_scope_of program.maps held a.ids machine) kind value second.0 second.1.0 cv
    in let found = range_found (pos off +ℤ offset) (size_bytes size) range _ first.0 first.1.0
    in subst (λ s. FallsOn program held s machine (machine.slot + slot_count insn) (store_step program insn machine v offset size value)) same
    (subst (λ v. FallsOn program held state machine (machine.slot + slot_count insn) (store_step program insn machine v offset size value)) (sym c.is)
    (subst (λ value. FallsOn program held state machine (machine.slot + slot_count insn)
    (store_step program insn machine (PacketPointer machine.generation (pos (a.ids.base id + off))) offset size value)) (sym n.1)
    (packet_stored program held state machine a insn size id off range first.0 n.0 offset c.reached found.0 found.1)))
store_by_kind program held state machine a eight insn size offset dst Unset v c kind value set cv s e = cc
store_by_kind program held state machine a eight insn size offset dst (Scalar i) v c kind value set cv s e = cc
store_by_kind program held state machine a eight insn size offset dst Ctx v c kind value set cv s e = cc
store_by_kind program held state machine a eight insn size offset dst PacketEnd v c kind value set cv s e = cc
store_by_kind program held state machine a eight insn size offset dst (Map map) v c kind value set cv s e = cc
store_by_kind program held state machine a eight insn size offset dst (ValueOrNull map id) v c kind value set cv s e = cc
store_by_kind program held state machine a eight insn size offset dst (Value map id off) v c kind value set cv s e =
    let first = ok_then (value_access program.maps map off offset (size_bytes size)) (λ from. storable_number kind >>= (λ _. Ok state)) s e
    in let second = ok_then (storable_number kind) (λ _. Ok state) s first.1.1
    in let same : state ≡ s = ok_same (Ok state) state s refl second.1.1
    in let n = narrow_is_number (kind_scope_of program.maps held a.ids machine) kind value second.0 second.1.0 cv
    in let there = value_found program.maps map off offset (size_bytes size) first.0 c.at c.least c.most first.1.0
    in subst (λ s. FallsOn program held s machine (machine.slot + slot_count insn) (store_step program insn machine v offset size value)) same
    (subst (λ v. FallsOn program held state machine (machine.slot + slot_count insn) (store_step program insn machine v offset size value)) (sym c.is)
    (subst (λ value. FallsOn program held state machine (machine.slot + slot_count insn)
    (store_step program insn machine (CellPointer map c.cell.shard c.cell.id (pos c.at)) offset size value)) (sym n.1)
    (cell_stored program held state machine a insn size map c.cell.shard c.cell.id (pos c.at) offset there.from n.0 there.found c.held)))

-- ---- the instructions

immediate_of : (size : Size) (dst : Register) (offset immediate : ℤ) → FieldsFit (St size dst offset immediate) → twos_complement 64 immediate < 2 ^ 64
unfolding FieldsFit
immediate_of size dst offset immediate fits = immediate_fits immediate fits.1

pub store_sound : (program : Program) (held : Held) (state : State) (machine : MachineState) (size : Size) (dst : Register) (offset immediate : ℤ) (flow : Flow) →
    FieldsFit (St size dst offset immediate) → AreEight state → Abstracts program.maps held state machine →
    flow_of program.maps state machine.slot (St size dst offset immediate) ≡ Ok flow →
    Follows program held flow machine (St size dst offset immediate) (instruction_step program (St size dst offset immediate) machine)
store_sound program held state machine size dst offset immediate flow fits eight a e =
    let small : twos_complement 64 immediate < 2 ^ 64 = immediate_of size dst offset immediate fits
    in let made = falls_made (store_flow program.maps state size dst offset immediate) flow e
    in let first = ok_then (reads state dst) (λ _. store_of program.maps state size dst offset (Scalar (constant_of (twos_complement 64 immediate)))) made.0 made.1.0
    in subst (λ flow. Follows program held flow machine (St size dst offset immediate) (instruction_step program (St size dst offset immediate) machine)) (sym made.1.1)
    (store_by_kind program held state machine a eight (St size dst offset immediate) size offset dst (kind_of state dst) (register_value machine dst) (a.registers dst)
    (Scalar (constant_of (twos_complement 64 immediate))) (Number (twos_complement 64 immediate)) (λ n. cc)
    (record { number = twos_complement 64 immediate; is = refl; within = record { above = omega arith; below = omega arith }; word = small })
    made.0 first.1.1)

not_unset : (kind : Kind) (register : Register) (done : Unit {0}) → check_set kind register ≡ Ok done → kind ≡ Unset → ⊥
not_unset Unset register done e n = cc
not_unset (Scalar i) register done e n = cc
not_unset Ctx register done e n = cc
not_unset (Stack place) register done e n = cc
not_unset (Packet id off range) register done e n = cc
not_unset PacketEnd register done e n = cc
not_unset (Map map) register done e n = cc
not_unset (ValueOrNull map id) register done e n = cc
not_unset (Value map id off) register done e n = cc

pub store_register_sound : (program : Program) (held : Held) (state : State) (machine : MachineState) (size : Size) (dst src : Register) (offset : ℤ) (flow : Flow) →
    AreEight state → Abstracts program.maps held state machine →
    flow_of program.maps state machine.slot (Stx size dst src offset) ≡ Ok flow →
    Follows program held flow machine (Stx size dst src offset) (instruction_step program (Stx size dst src offset) machine)
store_register_sound program held state machine size dst src offset flow eight a e =
    let made = falls_made (store_register_flow program.maps state size dst src offset) flow e
    in let first = ok_then (reads_both state dst (Reg src)) (λ _. store_of program.maps state size dst offset (kind_of state src)) made.0 made.1.0
    in let second = ok_then (reads state dst) (λ _. reads state src) first.0 first.1.0
    in subst (λ flow. Follows program held flow machine (Stx size dst src offset) (instruction_step program (Stx size dst src offset) machine)) (sym made.1.1)
    (store_by_kind program held state machine a eight (Stx size dst src offset) size offset dst (kind_of state dst) (register_value machine dst) (a.registers dst)
    (kind_of state src) (register_value machine src) (not_unset (kind_of state src) src first.0 second.1.1) (a.registers src) made.0 first.1.1)
