-- What breaks a rule: the causes of each number, distinguished by the instruction and by what is known before it.
use Rattle.std.specs.Prelude.{ℕ, ◌+◌, ◌==◌, ℤ, pos, negsuc, ◌+ℤ◌, List, length, Option, Some, None, slice_get, if◌then◌else◌}
use Rattle.isa.specs.declared.operation.SourceOperand.{SourceOperand}
use Rattle.isa.specs.declared.operation.SourceOperand.TheVariants.{Imm, Reg}
use Rattle.isa.specs.declared.operation.Register.{Register}
use Rattle.isa.specs.declared.operation.Register.TheVariants.{R1, R4}
use Rattle.isa.specs.InstructionCodes.{size_bytes, extension_size, width_size}
use Rattle.ebpf_decode.specs.declared.insn.Insn.{Insn}
use Rattle.ebpf_decode.specs.declared.insn.Insn.TheVariants.{Alu, Neg, Movsx, Movsx32, End, JumpIf, Ldx, Ldxs, St, Stx, AtomicUpdate, Ldval}
use Rattle.ebpf_decode.specs.declared.insn.Insn.TheVariants.{CallHelper}
use Rattle.ebpf_decode.specs.declared.map.MapDef.{MapDef}
use Rattle.semantics.specs.Program.{value_size_of}
use Rattle.abstract_scalar.specs.declared.interval.Interval.{Interval}
use Rattle.abstract_scalar.specs.Intervals.{is_single}
use Rattle.abstract_state.specs.declared.kind.Kind.{Kind}
use Rattle.abstract_state.specs.declared.kind.Kind.TheVariants.{Unset, Scalar, Stack, Packet, ValueOrNull, Value}
use Rattle.semantics.specs.Linux.{helper_of}
use Rattle.semantics.specs.declared.linux.Helper.{Helper}
use Rattle.semantics.specs.declared.linux.Helper.TheVariants.{XdpAdjustHead}
use Rattle.abstract_state.specs.declared.broken_rule.BrokenRule.{BrokenRule}
use Rattle.abstract_state.specs.declared.broken_rule.BrokenRule.TheVariants as rule
use Rattle.abstract_state.specs.declared.state.State.{State}
use Rattle.abstract_state.specs.States.{kind_of}
use Rattle.verifier.specs.declared.reject.Reject.{Reject}
use Rattle.verifier.specs.declared.reject.Reject.TheVariants.{JumpBackward, JumpOutside, JumpIntoWide, FallsOff}
use Rattle.reasons.specs.declared.cause.Access.{Access}
use Rattle.reasons.specs.declared.cause.Role.{Role}
use Rattle.reasons.specs.declared.cause.Role.TheVariants.{Computes, Tests, Loads, Stores, Updates, Calls, Others}
use Rattle.reasons.specs.declared.cause.Cause.{Cause}
use Rattle.reasons.specs.declared.cause.Cause.TheVariants.{JumpsBack, JumpsOutside, JumpsIntoWide, RunsPastEnd, NoPathLeads, NotWritten}
use Rattle.reasons.specs.declared.cause.Cause.TheVariants.{NullNotTested, NotAnAddress, PointerArithmetic, UnknownDelta, TestOfKinds}
use Rattle.reasons.specs.declared.cause.Cause.TheVariants.{AtomicElsewhere, ExpectedPointer, BeforeBase, NoTestShows, ComparedForFewer}
use Rattle.reasons.specs.declared.cause.Cause.TheVariants.{PacketOffsetLeaves, PacketOffsetUnknown, OutsideStack, StackPointerLeaves}
use Rattle.reasons.specs.declared.cause.Cause.TheVariants.{ArgumentOutsideStack, LoadUnwritten, ArgumentUnwritten, OutsideValue}
use Rattle.reasons.specs.declared.cause.Cause.TheVariants.{ValuePointerLeaves, AddressPastValue, StackMisaligned, ValueMisaligned}
use Rattle.reasons.specs.declared.cause.Cause.TheVariants.{AtomicOffsetUnknown, ContextStore, NoContextField, FramePointerWritten}
use Rattle.reasons.specs.declared.cause.Cause.TheVariants.{NoHelper, WantsMap, WantsContext, WantsStack, WantsNumber, VerdictPointer}
use Rattle.reasons.specs.declared.cause.Cause.TheVariants.{PartOfPointer, PointerStored, NoMap, NoArray}

-- ---- the instruction

abbrev pub role_of : Insn → Role
role_of (Alu width op dst source) = Computes
role_of (Neg width dst) = Computes
role_of (Movsx extension dst src) = Computes
role_of (Movsx32 extension dst src) = Computes
role_of (End order width dst) = Computes
role_of (JumpIf width test dst source distance) = Tests
role_of (Ldx size dst src offset) = Loads
role_of (Ldxs extension dst src offset) = Loads
role_of (St size dst offset immediate) = Stores
role_of (Stx size dst src offset) = Stores
role_of (AtomicUpdate width op dst src offset) = Updates
role_of (CallHelper helper) = Calls
role_of insn = Others

abbrev pub access : Kind → ℤ → ℕ → Option Access
access base offset count = Some (record { base = base; offset = offset; count = count })

-- the place in memory that the instruction touches
abbrev pub access_of : State → Insn → Option Access
access_of state (Ldx size dst src offset) = access (kind_of state src) offset (size_bytes size)
access_of state (Ldxs extension dst src offset) = access (kind_of state src) offset (size_bytes (extension_size extension))
access_of state (St size dst offset immediate) = access (kind_of state dst) offset (size_bytes size)
access_of state (Stx size dst src offset) = access (kind_of state dst) offset (size_bytes size)
access_of state (AtomicUpdate width op dst src offset) = access (kind_of state dst) offset (size_bytes (width_size width))
access_of state insn = None

abbrev pub base_in : Option Access → Kind
base_in (Some access) = access.base
base_in None = Unset

abbrev pub base_of : State → Insn → Kind
base_of state insn = base_in (access_of state insn)

-- the number in a register by which a pointer is moved
abbrev pub interval_in : Kind → Option Interval
interval_in (Scalar i) = Some i
interval_in other = None

abbrev pub moved_by : State → SourceOperand → Option Interval
moved_by state (Reg register) = interval_in (kind_of state register)
moved_by state (Imm immediate) = None

abbrev pub source_interval : State → Insn → Option Interval
source_interval state (Alu width op dst source) = moved_by state source
source_interval state insn = None

-- ---- 36: a kind that the instruction does not take

abbrev pub computed : Kind → Cause
computed (ValueOrNull map id) = NullNotTested
computed (Scalar i) = UnknownDelta
computed other = PointerArithmetic

abbrev pub updated : Kind → Cause
updated (ValueOrNull map id) = NullNotTested
updated (Value map id off) = ExpectedPointer
updated other = AtomicElsewhere

abbrev pub addressed : Kind → Cause
addressed (ValueOrNull map id) = NullNotTested
addressed other = NotAnAddress

-- by what the instruction does, the kind of the register that is blamed, and what it touches memory from
abbrev pub wrong_kind : Role → Kind → Kind → Cause
wrong_kind Tests blamed base = TestOfKinds
wrong_kind Computes blamed base = computed blamed
wrong_kind Updates blamed base = updated base
wrong_kind role blamed base = addressed blamed

-- ---- 37: the packet

-- an access from a place on, where this many bytes from the base are known; where none are, no comparison shows any
abbrev pub beyond : ℕ → ℕ → ℤ → ℕ → ℕ → Cause
beyond base stands (pos from) count known =
    if known == 0 then NoTestShows base stands (from + count) else ComparedForFewer base stands (from + count) known
beyond base stands (negsuc below) count known = BeforeBase

abbrev pub packet_cause_at : Kind → ℤ → ℕ → Cause
packet_cause_at (Packet id off range) offset count = beyond id off (pos off +ℤ offset) count range
packet_cause_at other offset count = PacketOffsetLeaves

abbrev pub packet_cause : Access → Cause
packet_cause access = packet_cause_at access.base access.offset access.count

abbrev pub moved_packet : Option Interval → Cause
moved_packet (Some i) = if is_single i then PacketOffsetLeaves else PacketOffsetUnknown i.high
moved_packet None = PacketOffsetLeaves

abbrev pub packet_bounds_at : Option Access → Option Interval → Cause
packet_bounds_at (Some access) by = packet_cause access
packet_bounds_at None by = moved_packet by

abbrev pub packet_bounds : State → Insn → Cause
packet_bounds state insn = packet_bounds_at (access_of state insn) (source_interval state insn)

-- ---- 38 and 39: the stack

abbrev pub stack_bounds : Role → Cause
stack_bounds Computes = StackPointerLeaves
stack_bounds Calls = ArgumentOutsideStack
stack_bounds role = OutsideStack

abbrev pub stack_unset : Role → Cause
stack_unset Calls = ArgumentUnwritten
stack_unset role = LoadUnwritten

-- ---- 40: a map's value

abbrev pub value_size_at : List MapDef → Kind → ℕ
value_size_at maps (Value map id off) = value_size_of (slice_get maps map)
value_size_at maps other = 0

abbrev pub named_size : List MapDef → ℤ → ℕ
named_size maps (pos map) = value_size_of (slice_get maps map)
named_size maps (negsuc below) = 0

abbrev pub value_bounds : List MapDef → State → Insn → Cause
value_bounds maps state (Ldval dst map offset) = AddressPastValue (named_size maps map)
value_bounds maps state (Alu width op dst source) = ValuePointerLeaves (value_size_at maps (kind_of state dst))
value_bounds maps state insn = OutsideValue (value_size_at maps (base_of state insn))

-- ---- 41: no multiple of the size

abbrev pub misaligned_from : Kind → ℕ → Cause
misaligned_from (Value map id off) count = if off.low == off.high then ValueMisaligned count else AtomicOffsetUnknown
misaligned_from other count = StackMisaligned count

abbrev pub misaligned : Access → Cause
misaligned access = misaligned_from access.base access.count

abbrev pub misaligned_at : Option Access → Cause
misaligned_at (Some access) = misaligned access
misaligned_at None = AtomicOffsetUnknown

-- ---- 42: the context

abbrev pub context_access : Role → Cause
context_access Loads = NoContextField
context_access role = ContextStore

-- ---- 45: an argument, by what the helper takes in the register

abbrev pub helper_called : Insn → Option Helper
helper_called (CallHelper number) = helper_of number
helper_called insn = None

abbrev pub head_argument : Register → Cause
head_argument R1 = WantsContext
head_argument register = WantsNumber

abbrev pub wanted_argument : Register → Cause
wanted_argument R1 = WantsMap
wanted_argument R4 = WantsNumber
wanted_argument register = WantsStack

abbrev pub bad_argument : Option Helper → Register → Cause
bad_argument (Some XdpAdjustHead) register = head_argument register
bad_argument helper register = wanted_argument register

-- ---- 46: a pointer that could be read as a number

abbrev pub pointer_stored : Kind → Cause
pointer_stored (Stack place) = PartOfPointer
pointer_stored other = PointerStored

abbrev pub pointer_leak : Role → Kind → Cause
pointer_leak Loads base = PartOfPointer
pointer_leak Stores base = pointer_stored base
pointer_leak Updates base = pointer_stored base
pointer_leak role base = VerdictPointer

-- ---- all rules

-- why the instruction breaks the rule in the state
abbrev pub cause_of : List MapDef → State → Insn → BrokenRule → Cause
cause_of maps state insn (rule.UnsetRegister register) = NotWritten
cause_of maps state insn (rule.WrongKind register) = wrong_kind (role_of insn) (kind_of state register) (base_of state insn)
cause_of maps state insn rule.PacketBounds = packet_bounds state insn
cause_of maps state insn rule.StackBounds = stack_bounds (role_of insn)
cause_of maps state insn rule.StackUnset = stack_unset (role_of insn)
cause_of maps state insn rule.ValueBounds = value_bounds maps state insn
cause_of maps state insn rule.Misaligned = misaligned_at (access_of state insn)
cause_of maps state insn rule.ContextAccess = context_access (role_of insn)
cause_of maps state insn rule.ReadOnlyFp = FramePointerWritten
cause_of maps state insn rule.UnknownHelper = NoHelper
cause_of maps state insn (rule.BadArgument register) = bad_argument (helper_called insn) register
cause_of maps state insn rule.PointerLeak = pointer_leak (role_of insn) (base_of state insn)
cause_of maps state insn rule.UnknownMap = NoMap (length maps)
cause_of maps state insn rule.NotArrayMap = NoArray

-- of a program without structure
abbrev pub cause_of_structure : Reject → Cause
cause_of_structure (JumpBackward slot) = JumpsBack
cause_of_structure (JumpOutside slot) = JumpsOutside
cause_of_structure (JumpIntoWide slot) = JumpsIntoWide
cause_of_structure (FallsOff slot) = RunsPastEnd
cause_of_structure reject = NoPathLeads
