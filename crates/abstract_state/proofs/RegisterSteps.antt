-- The instructions that change one register alone, and those that change none.
use Rattle.std.proofs.Common.{◌≡◌, ℕ, ◌+◌, ◌<◌, ◌≤◌, ◌^◌, List, zero-le, ℤ, pos, negsuc, Option, Some, None, Ok, Err, refl, sym, ◌∙◌, ap, subst, arith}
use Rattle.std.specs.Prelude.{slice_get}
use Rattle.std.specs.List.{AllByRecursion}
use Rattle.isa.specs.Alu.{neg_value, sign_extended, short_extension_bits}
use Rattle.isa.specs.Swap.{swap_result, swap_bits}
use Rattle.isa.proofs.shared.Bounds.{width_fits, neg_value-lt, movsx64-lt, movsx32-lt, swap_result-lt}
use Rattle.isa.specs.declared.operation.Width.{Width}
use Rattle.isa.specs.declared.operation.Extension.{Extension}
use Rattle.isa.specs.declared.operation.ShortExtension.{ShortExtension}
use Rattle.isa.specs.declared.operation.ByteOrder.{ByteOrder}
use Rattle.isa.specs.declared.operation.SwapWidth.{SwapWidth}
use Rattle.isa.specs.declared.operation.SwapWidth.TheVariants.{Swap16, Swap32, Swap64}
use Rattle.isa.specs.declared.operation.AluOp.{AluOp}
use Rattle.isa.specs.declared.operation.AluOp.TheVariants.{Mov}
use Rattle.isa.specs.declared.operation.SourceOperand.{SourceOperand}
use Rattle.isa.specs.declared.operation.SourceOperand.TheVariants.{Imm, Reg}
use Rattle.isa.specs.declared.operation.Register.{Register}
use Rattle.isa.specs.declared.operation.Register.TheVariants.{R0}
use Rattle.ebpf_decode.specs.declared.insn.Insn.{Insn}
use Rattle.ebpf_decode.specs.declared.insn.Insn.TheVariants.{Alu, Neg, Movsx, Movsx32, End, Ja, Ja32, Lddw, Ldmap, Exit}
use Rattle.ebpf_decode.specs.declared.map.MapDef.{MapDef}
use Rattle.ebpf_decode.specs.InstructionEncoding.{slot_count}
use Rattle.semantics.specs.RegisterValue.{RegisterValue, Number, MapPointer}
use Rattle.semantics.specs.MachineState.{MachineState, register_value}
use Rattle.semantics.specs.Program.{Program}
use Rattle.semantics.specs.PlanLimits.{HasImageSizes}
use Rattle.semantics.proofs.shared.PlanLemmas.{each_at}
use Rattle.semantics.specs.Arithmetic.{changed_number, source_value, alu_outcome}
use Rattle.semantics.specs.Semantics.{write_step, extended, map_pointer, exit_step, jump_step, instruction_step}
use Rattle.abstract_scalar.specs.declared.interval.Interval.{Interval}
use Rattle.abstract_scalar.specs.Intervals.{Covers, constant_of}
use Rattle.abstract_scalar.specs.Transfer.{neg_of, movsx64_of, movsx32_of, swap_of}
use Rattle.abstract_scalar.proofs.shared.Soundness.{constant_covers, neg_covers, movsx64_covers, movsx32_covers, swap_covers}
use Rattle.abstract_state.specs.declared.kind.Kind.{Kind}
use Rattle.abstract_state.specs.declared.kind.Kind.TheVariants.{Unset, Scalar, Ctx, Stack, Packet, PacketEnd, Map, ValueOrNull, Value}
use Rattle.abstract_state.specs.declared.flow.Flow.{Flow}
use Rattle.abstract_state.specs.declared.flow.Flow.TheVariants.{Ends, Falls, Jumps}
use Rattle.abstract_state.specs.declared.broken_rule.BrokenRule.TheVariants.{WrongKind, PointerLeak, UnknownMap}
use Rattle.abstract_state.specs.declared.state.State.{State}
use Rattle.abstract_state.specs.States.{◌>>=◌, kind_of, with_kind, value_size_of}
use Rattle.abstract_state.specs.Arithmetic.{source_kind, blamed, alu_kind, after_alu_of}
use Rattle.abstract_state.specs.Flow.{writable, check_set, reads, reads_operands, alu_flow, checked_number, operand_of, unary_flow, number_flow, known_map, map_flow, exit_kind, falls, flow_of}
use Rattle.abstract_state.specs.Abstraction.{Held, KindScope, KindCovers, IsNumberIn, kind_scope_of, Abstracts}
use Rattle.abstract_state.specs.Soundness.{EndsRun, JumpsOn, JumpsForward, Follows}
use Rattle.abstract_state.proofs.shared.Inverting.{err_not_ok, ok_value, ok_then}
use Rattle.abstract_state.proofs.shared.Following.{gives, wrote, falls_follow, moved_on, SourceFits, source_covers}
use Rattle.abstract_state.proofs.Operations.{Stands, number_changed, operation_gives}

-- what is known of the program's run before an instruction, and the slot after it
stands : (program : Program) (held : Held) (state : State) (machine : MachineState) (a : Abstracts program.maps held state machine) (insn : Insn) →
    0 < slot_count insn → Stands (kind_scope_of program.maps held a.ids machine) (machine.slot + slot_count insn)
stands program held state machine a insn h = record { later = omega arith; bases = a.bases }

-- ---- two operands

source_set : (state : State) (op : AluOp) (dst : Register) (source : SourceOperand) → reads_operands state op dst source ≡ Ok tt →
    check_set (source_kind state source) (blamed dst source) ≡ Ok tt
source_set state op dst (Imm immediate) e = refl
source_set state Mov dst (Reg register) e = e
source_set state op dst (Reg register) e =
    let p = ok_then (reads state dst) (λ _. reads state register) tt e in p.next

small_values : (maps : List MapDef) → AllByRecursion HasImageSizes maps → (map : ℕ) → value_size_of (slice_get maps map) ≤ 256
small_values maps sizes map = by_found (slice_get maps map) refl
  where
    by_found : (found : Option MapDef) → slice_get maps map ≡ found → value_size_of found ≤ 256
    by_found None is = zero-le
    by_found (Some definition) is = (each_at HasImageSizes maps map definition sizes is).value_size

pub alu_follows : (program : Program) (held : Held) (state : State) (machine : MachineState) (width : Width) (op : AluOp) (dst : Register) (source : SourceOperand) (flow : Flow) →
    Abstracts program.maps held state machine → AllByRecursion HasImageSizes program.maps → SourceFits source →
    flow_of program.maps state machine.slot (Alu width op dst source) ≡ Ok flow →
    Follows program held flow machine (Alu width op dst source) (instruction_step program (Alu width op dst source) machine)
unfolding slot_count
alu_follows program held state machine width op dst source flow a sizes fits e =
    falls_follow program held machine (Alu width op dst source) (instruction_step program (Alu width op dst source) machine)
    (alu_flow program.maps state machine.slot width op dst source) flow e
    (λ after is.
    let may = ok_then (writable dst) (λ _. reads_operands state op dst source >>= (λ _. after_alu_of program.maps state machine.slot width op dst source)) after is
    in let read = ok_then (reads_operands state op dst source) (λ _. after_alu_of program.maps state machine.slot width op dst source) after may.next
    in let made = ok_then (alu_kind program.maps state.version machine.slot width op (kind_of state dst) (source_kind state source) dst (blamed dst source))
    (λ kind. Ok (with_kind state dst kind)) after read.next
    in subst (λ x. Follows program held (Falls x) machine (Alu width op dst source) (instruction_step program (Alu width op dst source) machine))
    (ok_value (with_kind state dst made.value) after made.next)
    (wrote program held state machine (Alu width op dst source) dst made.value
    (alu_outcome width op (register_value machine dst) (source_value machine source)) a may.is
    (operation_gives (kind_scope_of program.maps held a.ids machine) state.version (machine.slot + slot_count (Alu width op dst source))
    (small_values program.maps sizes) width op
    (kind_of state dst) (source_kind state source) made.value (register_value machine dst) (source_value machine source) dst (blamed dst source)
    (stands program held state machine a (Alu width op dst source) (omega arith)) (source_set state op dst source read.is)
    (a.registers dst) (source_covers program.maps held state machine a source fits) made.is)))

-- ---- one operand

number_is : (s : KindScope) (kind : Kind) (register : Register) (i : Interval) (v : RegisterValue) → checked_number kind register ≡ Ok i → KindCovers s kind v → IsNumberIn i v
number_is s (Scalar j) register i v e c = subst (λ x. IsNumberIn x v) (ok_value j i e) c
number_is s Unset register i v e c = absurd (err_not_ok (WrongKind register) i e)
number_is s Ctx register i v e c = absurd (err_not_ok (WrongKind register) i e)
number_is s (Stack place) register i v e c = absurd (err_not_ok (WrongKind register) i e)
number_is s (Packet id off range) register i v e c = absurd (err_not_ok (WrongKind register) i e)
number_is s PacketEnd register i v e c = absurd (err_not_ok (WrongKind register) i e)
number_is s (Map map) register i v e c = absurd (err_not_ok (WrongKind register) i e)
number_is s (ValueOrNull map id) register i v e c = absurd (err_not_ok (WrongKind register) i e)
number_is s (Value map id off) register i v e c = absurd (err_not_ok (WrongKind register) i e)

unary_follows : (program : Program) (held : Held) (state : State) (machine : MachineState) (insn : Insn) (dst operand : Register)
    (change : Interval → Interval) (meaning : ℕ → ℕ) (flow : Flow) → Abstracts program.maps held state machine → 0 < slot_count insn →
    ((i : Interval) (n : ℕ) → Covers i n → Covers (change i) (meaning n)) → ((n : ℕ) → meaning n < 2 ^ 64) →
    falls (unary_flow state dst operand change) ≡ Ok flow →
    Follows program held flow machine insn (write_step insn machine dst (changed_number (register_value machine operand) meaning))
unary_follows program held state machine insn dst operand change meaning flow a positive sound fits e =
    falls_follow program held machine insn (write_step insn machine dst (changed_number (register_value machine operand) meaning))
    (unary_flow state dst operand change) flow e
    (λ after is.
    let read = ok_then (operand_of state dst operand) (λ i. Ok (with_kind state dst (Scalar (change i)))) after is
    in let may = ok_then (writable dst) (λ _. reads state operand >>= (λ _. checked_number (kind_of state operand) operand)) read.value read.is
    in let set = ok_then (reads state operand) (λ _. checked_number (kind_of state operand) operand) read.value may.next
    in subst (λ x. Follows program held (Falls x) machine insn (write_step insn machine dst (changed_number (register_value machine operand) meaning)))
    (ok_value (with_kind state dst (Scalar (change read.value))) after read.next)
    (wrote program held state machine insn dst (Scalar (change read.value)) (changed_number (register_value machine operand) meaning) a may.is
    (number_changed (kind_scope_of program.maps held a.ids machine) (machine.slot + slot_count insn) read.value (register_value machine operand) change meaning
    (stands program held state machine a insn positive) (λ n h. sound read.value n) (λ n h. fits n)
    (number_is (kind_scope_of program.maps held a.ids machine) (kind_of state operand) operand read.value (register_value machine operand) set.next
    (a.registers operand)))))

pub neg_follows : (program : Program) (held : Held) (state : State) (machine : MachineState) (width : Width) (dst : Register) (flow : Flow) →
    Abstracts program.maps held state machine → flow_of program.maps state machine.slot (Neg width dst) ≡ Ok flow →
    Follows program held flow machine (Neg width dst) (instruction_step program (Neg width dst) machine)
unfolding slot_count
neg_follows program held state machine width dst flow a e =
    unary_follows program held state machine (Neg width dst) dst dst (neg_of width) (neg_value width) flow a (omega arith)
    (λ i n c. neg_covers width i n c) (λ n. width_fits width (neg_value width n) (neg_value-lt width n)) e

pub movsx_follows : (program : Program) (held : Held) (state : State) (machine : MachineState) (extension : Extension) (dst src : Register) (flow : Flow) →
    Abstracts program.maps held state machine → flow_of program.maps state machine.slot (Movsx extension dst src) ≡ Ok flow →
    Follows program held flow machine (Movsx extension dst src) (instruction_step program (Movsx extension dst src) machine)
unfolding slot_count
movsx_follows program held state machine extension dst src flow a e =
    unary_follows program held state machine (Movsx extension dst src) dst src (movsx64_of extension) (extended extension) flow a (omega arith)
    (λ i n c. movsx64_covers extension i n c) (λ n. movsx64-lt extension n) e

pub movsx32_follows : (program : Program) (held : Held) (state : State) (machine : MachineState) (extension : ShortExtension) (dst src : Register) (flow : Flow) →
    Abstracts program.maps held state machine → flow_of program.maps state machine.slot (Movsx32 extension dst src) ≡ Ok flow →
    Follows program held flow machine (Movsx32 extension dst src) (instruction_step program (Movsx32 extension dst src) machine)
unfolding slot_count
movsx32_follows program held state machine extension dst src flow a e =
    unary_follows program held state machine (Movsx32 extension dst src) dst src (movsx32_of extension) (sign_extended (short_extension_bits extension) 32)
    flow a (omega arith) (λ i n c. movsx32_covers extension i n c)
    (λ n. let l : sign_extended (short_extension_bits extension) 32 n < 2 ^ 32 = movsx32-lt extension n in omega arith) e

swap_fits : (width : SwapWidth) (n : ℕ) → n < 2 ^ swap_bits width → n < 2 ^ 64
swap_fits Swap16 n h = omega arith
swap_fits Swap32 n h = omega arith
swap_fits Swap64 n h = h

pub end_follows : (program : Program) (held : Held) (state : State) (machine : MachineState) (order : ByteOrder) (width : SwapWidth) (dst : Register) (flow : Flow) →
    Abstracts program.maps held state machine → flow_of program.maps state machine.slot (End order width dst) ≡ Ok flow →
    Follows program held flow machine (End order width dst) (instruction_step program (End order width dst) machine)
unfolding slot_count
end_follows program held state machine order width dst flow a e =
    unary_follows program held state machine (End order width dst) dst dst (swap_of order width) (swap_result order width) flow a (omega arith)
    (λ i n c. swap_covers order width i n c) (λ n. swap_fits width (swap_result order width n) (swap_result-lt order width n)) e

-- ---- no operand

pub lddw_follows : (program : Program) (held : Held) (state : State) (machine : MachineState) (dst : Register) (value : ℕ) (flow : Flow) →
    Abstracts program.maps held state machine → value < 2 ^ 64 → flow_of program.maps state machine.slot (Lddw dst value) ≡ Ok flow →
    Follows program held flow machine (Lddw dst value) (instruction_step program (Lddw dst value) machine)
lddw_follows program held state machine dst value flow a fits e =
    falls_follow program held machine (Lddw dst value) (instruction_step program (Lddw dst value) machine) (number_flow state dst value) flow e
    (λ after is.
    let may = ok_then (writable dst) (λ _. Ok (with_kind state dst (Scalar (constant_of value)))) after is
    in subst (λ x. Follows program held (Falls x) machine (Lddw dst value) (instruction_step program (Lddw dst value) machine))
    (ok_value (with_kind state dst (Scalar (constant_of value))) after may.next)
    (wrote program held state machine (Lddw dst value) dst (Scalar (constant_of value)) (Ok (Number value)) a may.is
    (gives (kind_scope_of program.maps held a.ids machine) (machine.slot + slot_count (Lddw dst value)) (Scalar (constant_of value)) (Ok (Number value))
    (Number value) (omega arith) a.bases refl
    (record { number = value; is = refl; within = constant_covers value value refl; word = fits }))))

-- a map that the program has
pub record HasMap (program : Program) (map : ℤ) (kind : Kind) : Type 0 where
  pub place : ℕ
  pub definition : MapDef
  pub kind_is : kind ≡ Map place
  pub pointer : map_pointer program map ≡ Ok (MapPointer place)
  pub known : slice_get program.maps place ≡ Some definition

has_map : (program : Program) (place : ℕ) (kind : Kind) (found : Option MapDef) → slice_get program.maps place ≡ found →
    known_map program.maps (pos place) ≡ Ok kind → HasMap program (pos place) kind
has_map program place kind (Some definition) is e =
    record { place = place; definition = definition; kind_is = ok_value kind (Map place) (sym e ∙ rw is refl); pointer = rw is refl; known = is }
has_map program place kind None is e =
    let refused : known_map program.maps (pos place) ≡ Err UnknownMap = rw is refl
    in absurd (err_not_ok UnknownMap kind (sym refused ∙ e))

map_is : (program : Program) (map : ℤ) (kind : Kind) → known_map program.maps map ≡ Ok kind → HasMap program map kind
map_is program (pos place) kind e = has_map program place kind (slice_get program.maps place) refl e
map_is program (negsuc below) kind e = absurd (err_not_ok UnknownMap kind e)

pub ldmap_follows : (program : Program) (held : Held) (state : State) (machine : MachineState) (dst : Register) (map : ℤ) (flow : Flow) →
    Abstracts program.maps held state machine → flow_of program.maps state machine.slot (Ldmap dst map) ≡ Ok flow →
    Follows program held flow machine (Ldmap dst map) (instruction_step program (Ldmap dst map) machine)
ldmap_follows program held state machine dst map flow a e =
    falls_follow program held machine (Ldmap dst map) (instruction_step program (Ldmap dst map) machine) (map_flow program.maps state dst map) flow e
    (λ after is.
    let may = ok_then (writable dst) (λ _. known_map program.maps map >>= (λ kind. Ok (with_kind state dst kind))) after is
    in let known = ok_then (known_map program.maps map) (λ kind. Ok (with_kind state dst kind)) after may.next
    in let has = map_is program map known.value known.is
    in subst (λ x. Follows program held (Falls x) machine (Ldmap dst map) (instruction_step program (Ldmap dst map) machine))
    (ap (with_kind state dst) (sym has.kind_is) ∙ ok_value (with_kind state dst known.value) after known.next)
    (wrote program held state machine (Ldmap dst map) dst (Map has.place) (map_pointer program map) a may.is
    (gives (kind_scope_of program.maps held a.ids machine) (machine.slot + slot_count (Ldmap dst map)) (Map has.place) (map_pointer program map)
    (MapPointer has.place) (omega arith) a.bases has.pointer
    (record { is = refl; definition = has.definition; known = has.known }))))

-- ---- the end, and jumps

exits : (s : KindScope) (machine : MachineState) (kind : Kind) (v : RegisterValue) (flow : Flow) (program : Program) (held : Held) →
    KindCovers s kind v → exit_kind kind ≡ Ok flow → Follows program held flow machine Exit (exit_step machine v)
exits s machine (Scalar i) v flow program held c e =
    subst (λ f. Follows program held f machine Exit (exit_step machine v)) (ok_value Ends flow e)
    (subst (λ x. EndsRun machine (exit_step machine x)) (sym c.is) refl)
exits s machine Unset v flow program held c e = absurd (err_not_ok PointerLeak flow e)
exits s machine Ctx v flow program held c e = absurd (err_not_ok PointerLeak flow e)
exits s machine (Stack place) v flow program held c e = absurd (err_not_ok PointerLeak flow e)
exits s machine (Packet id off range) v flow program held c e = absurd (err_not_ok PointerLeak flow e)
exits s machine PacketEnd v flow program held c e = absurd (err_not_ok PointerLeak flow e)
exits s machine (Map map) v flow program held c e = absurd (err_not_ok PointerLeak flow e)
exits s machine (ValueOrNull map id) v flow program held c e = absurd (err_not_ok PointerLeak flow e)
exits s machine (Value map id off) v flow program held c e = absurd (err_not_ok PointerLeak flow e)

pub exit_follows : (program : Program) (held : Held) (state : State) (machine : MachineState) (flow : Flow) →
    Abstracts program.maps held state machine → flow_of program.maps state machine.slot Exit ≡ Ok flow →
    Follows program held flow machine Exit (instruction_step program Exit machine)
exit_follows program held state machine flow a e =
    let read = ok_then (reads state R0) (λ _. exit_kind (kind_of state R0)) flow e
    in exits (kind_scope_of program.maps held a.ids machine) machine (kind_of state R0) (register_value machine R0) flow program held (a.registers R0) read.next

-- a jump forward
pub jumps_to : (program : Program) (held : Held) (state : State) (machine : MachineState) (distance : ℤ) (n : ℕ) → distance ≡ pos n →
    Abstracts program.maps held state machine → JumpsOn program held state machine distance (jump_step machine distance)
jumps_to program held state machine distance n is a =
    subst (λ d. JumpsOn program held state machine d (jump_step machine d)) (sym is)
    (record {
      slot = machine.slot + 1 + n;
      target = refl;
      goes_on = record { at = refl; counted = refl; sound = moved_on program.maps held state machine (machine.slot + 1 + n) (machine.steps + 1) a (omega arith) };
    })

pub ja_follows : (program : Program) (held : Held) (state : State) (machine : MachineState) (distance : ℤ) (flow : Flow) →
    Abstracts program.maps held state machine → JumpsForward (Ja distance) → flow_of program.maps state machine.slot (Ja distance) ≡ Ok flow →
    Follows program held flow machine (Ja distance) (instruction_step program (Ja distance) machine)
ja_follows program held state machine distance flow a forward e =
    subst (λ f. Follows program held f machine (Ja distance) (jump_step machine distance)) (ok_value (Jumps state) flow e)
    (jumps_to program held state machine distance forward.0 forward.1 a)

pub ja32_follows : (program : Program) (held : Held) (state : State) (machine : MachineState) (distance : ℤ) (flow : Flow) →
    Abstracts program.maps held state machine → JumpsForward (Ja32 distance) → flow_of program.maps state machine.slot (Ja32 distance) ≡ Ok flow →
    Follows program held flow machine (Ja32 distance) (instruction_step program (Ja32 distance) machine)
ja32_follows program held state machine distance flow a forward e =
    subst (λ f. Follows program held f machine (Ja32 distance) (jump_step machine distance)) (ok_value (Jumps state) flow e)
    (jumps_to program held state machine distance forward.0 forward.1 a)
