-- Which tests are allowed, and what is known on their two edges (RFC 9669, section 4.3).
use Rattle.std.specs.Prelude.{ℕ, ◌+◌, Bool, true, false, not, pos, Option, Some, None, Ok, Err, if◌then◌else◌}
use Rattle.std.specs.Ordering.{int_eq}
use Rattle.isa.specs.declared.operation.Width.{Width}
use Rattle.isa.specs.declared.operation.Width.TheVariants.{Bits64}
use Rattle.isa.specs.declared.operation.Test.{Test}
use Rattle.isa.specs.declared.operation.Test.TheVariants.{Eq, Gt, Ge, Ne, Lt, Le}
use Rattle.isa.specs.declared.operation.Register.{Register}
use Rattle.isa.specs.declared.operation.SourceOperand.{SourceOperand}
use Rattle.isa.specs.declared.operation.SourceOperand.TheVariants.{Imm}
use Rattle.abstract_scalar.specs.declared.interval.Interval.{Interval}
use Rattle.abstract_scalar.specs.Intervals.{is_single}
use Rattle.abstract_scalar.specs.Cuts.{refine_of}
use Rattle.abstract_state.specs.declared.kind.Kind.{Kind}
use Rattle.abstract_state.specs.declared.kind.Kind.TheVariants.{Scalar, Packet, PacketEnd, ValueOrNull}
use Rattle.abstract_state.specs.declared.fact.Fact.{Fact}
use Rattle.abstract_state.specs.declared.fact.Fact.TheVariants.{Nothing, Null, Range}
use Rattle.abstract_state.specs.declared.broken_rule.BrokenRule.TheVariants.{WrongKind}
use Rattle.abstract_state.specs.declared.state.State.{State}
use Rattle.abstract_state.specs.States.{Checked, kind_of, with_kind}
use Rattle.abstract_state.specs.Arithmetic.{source_kind, blamed}
use Rattle.abstract_state.specs.Facts.{told}

-- ---- what is allowed

-- the null test: whole registers are equal to, or differ from, the immediate 0
abbrev pub is_null_test : Width → Test → SourceOperand → Bool
is_null_test Bits64 Eq (Imm immediate) = int_eq immediate (pos 0)
is_null_test Bits64 Ne (Imm immediate) = int_eq immediate (pos 0)
is_null_test width test source = false

-- the unsigned orders of whole registers
abbrev pub is_order : Width → Test → Bool
is_order Bits64 Gt = true
is_order Bits64 Ge = true
is_order Bits64 Lt = true
is_order Bits64 Le = true
is_order width test = false

-- where a test is refused, the register to blame
abbrev pub wrong : {A : Type 0} → Register → Checked A
wrong register = Err (WrongKind register)

abbrev pub against_scalar : Kind → Register → Checked (Unit {0})
against_scalar (Scalar j) source = Ok tt
against_scalar other source = wrong source

abbrev pub against_end : Kind → Register → Checked (Unit {0})
against_end PacketEnd source = Ok tt
against_end other source = wrong source

abbrev pub against_packet : Kind → Register → Checked (Unit {0})
against_packet (Packet id off range) source = Ok tt
against_packet other source = wrong source

abbrev pub when : Bool → Register → Checked (Unit {0}) → Checked (Unit {0})
when allowed register go = if allowed then go else wrong register

abbrev pub allowed_test : Width → Test → Kind → Kind → Register → SourceOperand → Checked (Unit {0})
allowed_test width test (Scalar i) other dst source = against_scalar other (blamed dst source)
allowed_test width test (ValueOrNull map id) other dst source = when (is_null_test width test source) dst (Ok tt)
allowed_test width test (Packet id off range) other dst source = when (is_order width test) dst (against_end other (blamed dst source))
allowed_test width test PacketEnd other dst source = when (is_order width test) dst (against_packet other (blamed dst source))
allowed_test width test kind other dst source = wrong dst

-- ---- what an edge says

-- on the edge where the two are equal
abbrev pub is_equal_edge : Test → Bool → Bool
is_equal_edge Eq taken = taken
is_equal_edge test taken = not taken

-- of a packet pointer against the packet's end: at most there, before it, or nothing
abbrev pub range_before_end : Test → Bool → ℕ → ℕ → Fact
range_before_end Gt false id off = Range id off
range_before_end Ge false id off = Range id (off + 1)
range_before_end Lt true id off = Range id (off + 1)
range_before_end Le true id off = Range id off
range_before_end test taken id off = Nothing

-- of the packet's end against a packet pointer
abbrev pub range_after_end : Test → Bool → ℕ → ℕ → Fact
range_after_end Gt true id off = Range id (off + 1)
range_after_end Ge true id off = Range id off
range_after_end Lt false id off = Range id off
range_after_end Le false id off = Range id (off + 1)
range_after_end test taken id off = Nothing

abbrev pub fact_of_end : Test → Bool → Kind → Fact
fact_of_end test taken (Packet id off range) = range_after_end test taken id off
fact_of_end test taken other = Nothing

abbrev pub fact_of : Test → Bool → Kind → Kind → Fact
fact_of test taken (ValueOrNull map id) other = Null id (is_equal_edge test taken)
fact_of test taken (Packet id off range) other = range_before_end test taken id off
fact_of test taken PacketEnd other = fact_of_end test taken other
fact_of test taken kind other = Nothing

-- a number against a single number
abbrev pub cut_kind : Width → Test → Bool → Interval → Kind → Kind
cut_kind width test taken i (Scalar j) = if is_single j then Scalar (refine_of width test i j.low taken) else Scalar i
cut_kind width test taken i other = Scalar i

-- of a number its cut, of a pointer nothing
abbrev pub number_cut : Width → Test → Bool → Kind → Kind → Option Kind
number_cut width test taken (Scalar i) other = Some (cut_kind width test taken i other)
number_cut width test taken kind other = None

abbrev pub refined : Option Kind → Fact → State → Register → State
refined (Some kind) fact state dst = with_kind state dst kind
refined None fact state dst = told fact state

-- what is known on the edge where the test is taken, or on the one where it isn't
abbrev pub refine_state : State → Width → Test → Register → SourceOperand → Bool → State
refine_state state width test dst source taken =
    refined (number_cut width test taken (kind_of state dst) (source_kind state source))
    (fact_of test taken (kind_of state dst) (source_kind state source)) state dst
