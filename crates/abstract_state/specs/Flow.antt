-- What flows out of an instruction: the first rule that it breaks, or what is known on each of its edges.
use Rattle.std.specs.Prelude.{ℕ, true, false, ℤ, pos, negsuc, List, Option, Some, None, Ok, Err, slice_get}
use Rattle.isa.specs.Words.{twos_complement}
use Rattle.isa.specs.Atomic.{fetched_register}
use Rattle.isa.specs.declared.operation.Width.{Width}
use Rattle.isa.specs.declared.operation.AluOp.{AluOp}
use Rattle.isa.specs.declared.operation.AluOp.TheVariants.{Mov}
use Rattle.isa.specs.declared.operation.Test.{Test}
use Rattle.isa.specs.declared.operation.AtomicOp.{AtomicOp}
use Rattle.isa.specs.declared.operation.AtomicOp.TheVariants.{CompareExchange}
use Rattle.isa.specs.declared.operation.Size.{Size}
use Rattle.isa.specs.declared.operation.SourceOperand.{SourceOperand}
use Rattle.isa.specs.declared.operation.SourceOperand.TheVariants.{Imm, Reg}
use Rattle.isa.specs.declared.operation.Register.{Register}
use Rattle.isa.specs.declared.operation.Register.TheVariants.{R0, R1, R2, R3, R4, R10}
use Rattle.ebpf_decode.specs.declared.insn.Insn.{Insn}
use Rattle.ebpf_decode.specs.declared.insn.Insn.TheVariants.{Alu, Neg, Movsx, Movsx32, End, Ja, Ja32, JumpIf, Ldx, Ldxs, St, Stx}
use Rattle.ebpf_decode.specs.declared.insn.Insn.TheVariants.{AtomicUpdate, Lddw, Ldmap, Ldval, CallHelper, Exit}
use Rattle.ebpf_decode.specs.declared.map.MapDef.{MapDef}
use Rattle.ebpf_decode.specs.declared.map.MapKind.{MapKind}
use Rattle.ebpf_decode.specs.declared.map.MapKind.TheVariants.{Array}
use Rattle.abstract_scalar.specs.declared.interval.Interval.{Interval}
use Rattle.abstract_scalar.specs.Intervals.{constant_of}
use Rattle.abstract_scalar.specs.Transfer.{neg_of, movsx64_of, movsx32_of, swap_of}
use Rattle.abstract_state.specs.declared.kind.Kind.{Kind}
use Rattle.abstract_state.specs.declared.kind.Kind.TheVariants.{Unset, Scalar, Map, Value}
use Rattle.semantics.specs.declared.linux.Helper.{Helper}
use Rattle.semantics.specs.declared.linux.Helper.TheVariants.{MapLookupElem, MapUpdateElem, MapDeleteElem, KtimeGetNs, GetSmpProcessorId}
use Rattle.semantics.specs.declared.linux.Helper.TheVariants.{XdpAdjustHead}
use Rattle.abstract_state.specs.declared.flow.Flow.{Flow}
use Rattle.abstract_state.specs.declared.flow.Flow.TheVariants.{Ends, Falls, Jumps, Splits}
use Rattle.abstract_state.specs.declared.broken_rule.BrokenRule.TheVariants.{UnsetRegister, WrongKind, ValueBounds, ReadOnlyFp, PointerLeak}
use Rattle.abstract_state.specs.declared.broken_rule.BrokenRule.TheVariants.{UnknownMap, NotArrayMap}
use Rattle.abstract_state.specs.declared.state.State.{State}
use Rattle.abstract_state.specs.States.{Checked, ◌>>=◌, kind_of, with_kind}
use Rattle.abstract_state.specs.Places.{place_within, at_offset}
use Rattle.abstract_state.specs.Arithmetic.{source_kind, after_alu_of}
use Rattle.abstract_state.specs.Refinement.{allowed_test, refine_state}
use Rattle.abstract_state.specs.Access.{load_of, signed_load_of, store_of, atomic_of}
use Rattle.abstract_state.specs.Calls.{helper_at, checked_call}

-- ---- the rules that come first: R10 is not written, the helper and the map are known, and no register that is read is unset

-- the frame pointer is read-only
abbrev pub writable : Register → Checked (Unit {0})
writable R10 = Err ReadOnlyFp
writable register = Ok tt

abbrev pub fetch_writable : Option Register → Checked (Unit {0})
fetch_writable None = Ok tt
fetch_writable (Some register) = writable register

abbrev pub check_set : Kind → Register → Checked (Unit {0})
check_set Unset register = Err (UnsetRegister register)
check_set kind register = Ok tt

abbrev pub reads : State → Register → Checked (Unit {0})
reads state register = check_set (kind_of state register) register

abbrev pub reads_source : State → SourceOperand → Checked (Unit {0})
reads_source state (Imm immediate) = Ok tt
reads_source state (Reg register) = reads state register

abbrev pub reads_both : State → Register → SourceOperand → Checked (Unit {0})
reads_both state dst source = reads state dst >>= (λ _. reads_source state source)

-- a move does not read what it overwrites
abbrev pub reads_operands : State → AluOp → Register → SourceOperand → Checked (Unit {0})
reads_operands state Mov dst source = reads_source state source
reads_operands state op dst source = reads_both state dst source

-- compare-and-exchange also reads R0
abbrev pub reads_expected : State → AtomicOp → Checked (Unit {0})
reads_expected state CompareExchange = reads state R0
reads_expected state op = Ok tt

abbrev pub reads_atomic : State → AtomicOp → Register → Register → Checked (Unit {0})
reads_atomic state op dst src = reads state dst >>= (λ _. reads state src >>= (λ _. reads_expected state op))

-- a helper's arguments, upward
abbrev pub reads_arguments : State → Helper → Checked (Unit {0})
reads_arguments state MapLookupElem = reads_both state R1 (Reg R2)
reads_arguments state MapUpdateElem = reads_both state R1 (Reg R2) >>= (λ _. reads_both state R3 (Reg R4))
reads_arguments state MapDeleteElem = reads_both state R1 (Reg R2)
reads_arguments state KtimeGetNs = Ok tt
reads_arguments state GetSmpProcessorId = Ok tt
reads_arguments state XdpAdjustHead = reads_both state R1 (Reg R2)

-- ---- what an instruction leaves

abbrev pub alu_flow : List MapDef → State → ℕ → Width → AluOp → Register → SourceOperand → Checked State
alu_flow maps state slot width op dst source =
    writable dst >>= (λ _. reads_operands state op dst source >>= (λ _. after_alu_of maps state slot width op dst source))

-- the number that an operation with one operand reads
abbrev pub checked_number : Kind → Register → Checked Interval
checked_number (Scalar i) register = Ok i
checked_number other register = Err (WrongKind register)

abbrev pub operand_of : State → Register → Register → Checked Interval
operand_of state dst operand = writable dst >>= (λ _. reads state operand >>= (λ _. checked_number (kind_of state operand) operand))

abbrev pub unary_flow : State → Register → Register → (Interval → Interval) → Checked State
unary_flow state dst operand change = operand_of state dst operand >>= (λ i. Ok (with_kind state dst (Scalar (change i))))

abbrev pub load_flow : State → Register → Register → Checked State → Checked State
load_flow state dst source after = writable dst >>= (λ _. reads state source >>= (λ _. after))

abbrev pub store_flow : List MapDef → State → Size → Register → ℤ → ℤ → Checked State
store_flow maps state size dst offset immediate =
    reads state dst >>= (λ _. store_of maps state size dst offset (Scalar (constant_of (twos_complement 64 immediate))))

abbrev pub store_register_flow : List MapDef → State → Size → Register → Register → ℤ → Checked State
store_register_flow maps state size dst src offset =
    reads_both state dst (Reg src) >>= (λ _. store_of maps state size dst offset (kind_of state src))

abbrev pub atomic_flow : List MapDef → State → Width → AtomicOp → Register → Register → ℤ → Checked State
atomic_flow maps state width op dst src offset =
    fetch_writable (fetched_register op src) >>=
    (λ _. reads_atomic state op dst src >>= (λ _. atomic_of maps state width op dst src offset))

-- the number of a wide instruction
abbrev pub number_flow : State → Register → ℕ → Checked State
number_flow state dst value = writable dst >>= (λ _. Ok (with_kind state dst (Scalar (constant_of value))))

-- a map by its place in the image's list
abbrev pub known_map : List MapDef → ℤ → Checked Kind
known_map maps (pos map) = map_or_fault (slice_get maps map) map where
  map_or_fault : Option MapDef → ℕ → Checked Kind
  map_or_fault (Some definition) place = Ok (Map place)
  map_or_fault None place = Err UnknownMap
known_map maps (negsuc below) = Err UnknownMap

abbrev pub map_flow : List MapDef → State → Register → ℤ → Checked State
map_flow maps state dst map = writable dst >>= (λ _. known_map maps map >>= (λ kind. Ok (with_kind state dst kind)))

-- the size of an array's values; the element 0 of an array alone is always there
abbrev pub array_size : MapKind → ℕ → Checked ℕ
array_size Array size = Ok size
array_size kind size = Err NotArrayMap

-- an address in the value of an array's element 0
abbrev pub address_in : Option MapDef → ℕ → ℕ → ℕ → Checked Kind
address_in (Some definition) map slot offset =
    array_size definition.kind definition.value_size >>= (λ size.
    place_within (pos offset) size ValueBounds >>= (λ at. Ok (Value map slot (at_offset at))))
address_in None map slot offset = Err UnknownMap

abbrev pub checked_value_address : List MapDef → ℕ → ℤ → ℕ → Checked Kind
checked_value_address maps slot (pos map) offset = address_in (slice_get maps map) map slot offset
checked_value_address maps slot (negsuc below) offset = Err UnknownMap

abbrev pub address_flow : List MapDef → State → ℕ → Register → ℤ → ℕ → Checked State
address_flow maps state slot dst map offset =
    writable dst >>= (λ _. checked_value_address maps slot map offset >>= (λ kind. Ok (with_kind state dst kind)))

abbrev pub call_flow : List MapDef → State → ℕ → ℤ → Checked State
call_flow maps state slot number =
    helper_at number >>= (λ helper. reads_arguments state helper >>= (λ _. checked_call maps state slot helper))

-- a conditional jump
abbrev pub test_flow : State → Width → Test → Register → SourceOperand → Checked Flow
test_flow state width test dst source =
    reads_both state dst source >>= (λ _.
    allowed_test width test (kind_of state dst) (source_kind state source) dst source >>= (λ _.
    Ok (Splits (refine_state state width test dst source true) (refine_state state width test dst source false))))

-- R0 is the verdict, a number
abbrev pub verdict_kind : Kind → Checked (Unit {0})
verdict_kind (Scalar i) = Ok tt
verdict_kind other = Err PointerLeak

abbrev pub exit_kind : Kind → Checked Flow
exit_kind kind = verdict_kind kind >>= (λ _. Ok Ends)

abbrev pub exit_flow : State → Checked Flow
exit_flow state = reads state R0 >>= (λ _. exit_kind (kind_of state R0))

abbrev pub falls : Checked State → Checked Flow
falls after = after >>= (λ state. Ok (Falls state))

-- ---- one equation for each instruction

abbrev pub flow_of : List MapDef → State → ℕ → Insn → Checked Flow
flow_of maps state slot (Alu width op dst source) = falls (alu_flow maps state slot width op dst source)
flow_of maps state slot (Neg width dst) = falls (unary_flow state dst dst (neg_of width))
flow_of maps state slot (Movsx extension dst src) = falls (unary_flow state dst src (movsx64_of extension))
flow_of maps state slot (Movsx32 extension dst src) = falls (unary_flow state dst src (movsx32_of extension))
flow_of maps state slot (End order width dst) = falls (unary_flow state dst dst (swap_of order width))
flow_of maps state slot (Lddw dst value) = falls (number_flow state dst value)
flow_of maps state slot (Ldmap dst map) = falls (map_flow maps state dst map)
flow_of maps state slot (Ldval dst map offset) = falls (address_flow maps state slot dst map offset)
flow_of maps state slot (Ldx size dst src offset) = falls (load_flow state dst src (load_of maps state size dst src offset))
flow_of maps state slot (Ldxs extension dst src offset) =
    falls (load_flow state dst src (signed_load_of maps state extension dst src offset))
flow_of maps state slot (St size dst offset immediate) = falls (store_flow maps state size dst offset immediate)
flow_of maps state slot (Stx size dst src offset) = falls (store_register_flow maps state size dst src offset)
flow_of maps state slot (AtomicUpdate width op dst src offset) = falls (atomic_flow maps state width op dst src offset)
flow_of maps state slot (CallHelper helper) = falls (call_flow maps state slot helper)
flow_of maps state slot (Ja distance) = Ok (Jumps state)
flow_of maps state slot (Ja32 distance) = Ok (Jumps state)
flow_of maps state slot (JumpIf width test dst source distance) = test_flow state width test dst source
flow_of maps state slot Exit = exit_flow state
