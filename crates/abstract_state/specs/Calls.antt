-- Calls of helpers on kinds (RFC 9669, section 4.3.1; numbers as in bpf(2)).
use Rattle.std.specs.Prelude.{ℕ, ◌+◌, Bool, ◌&&◌, ℤ, nat_le, List, ◌∷◌, Option, Some, None, Ok, Err, drop, slice_get, if◌then◌else◌}
use Rattle.isa.specs.declared.operation.Register.{Register}
use Rattle.isa.specs.declared.operation.Register.TheVariants.{R1, R2, R3, R4}
use Rattle.ebpf_decode.specs.declared.map.MapDef.{MapDef}
use Rattle.abstract_scalar.specs.Intervals.{interval_of, full_of}
use Rattle.abstract_state.specs.declared.kind.Kind.{Kind}
use Rattle.abstract_state.specs.declared.kind.Kind.TheVariants.{Unset, Scalar, Ctx, Stack, Map, ValueOrNull}
use Rattle.semantics.specs.Linux.{helper_of}
use Rattle.semantics.specs.declared.linux.Helper.{Helper}
use Rattle.semantics.specs.declared.linux.Helper.TheVariants.{MapLookupElem, MapUpdateElem, MapDeleteElem, KtimeGetNs, GetSmpProcessorId}
use Rattle.semantics.specs.declared.linux.Helper.TheVariants.{XdpAdjustHead}
use Rattle.abstract_state.specs.declared.fact.Fact.TheVariants.{HeadMoved}
use Rattle.abstract_state.specs.declared.broken_rule.BrokenRule.{BrokenRule}
use Rattle.abstract_state.specs.declared.broken_rule.BrokenRule.TheVariants.{BadArgument, UnknownHelper, StackBounds, StackUnset}
use Rattle.abstract_state.specs.declared.state.State.{State}
use Rattle.abstract_state.specs.States.{Checked, ◌>>=◌, kind_of, stack_size, value_size_of, key_size_of}
use Rattle.abstract_state.specs.Words.{are_bytes_set}
use Rattle.abstract_state.specs.Facts.{told}

-- ---- which helpers there are

abbrev pub known_helper : Option Helper → Checked Helper
known_helper (Some helper) = Ok helper
known_helper None = Err UnknownHelper

-- the helper of Linux's number
abbrev pub helper_at : ℤ → Checked Helper
helper_at number = known_helper (helper_of number)

-- ---- arguments; R1 is the first

abbrev pub checked_map_argument : Kind → Register → Checked ℕ
checked_map_argument (Map map) register = Ok map
checked_map_argument other register = Err (BadArgument register)

abbrev pub stack_argument : Kind → Register → Checked ℕ
stack_argument (Stack place) register = Ok place
stack_argument other register = Err (BadArgument register)

abbrev pub checked_number_argument : Kind → Register → Checked (Unit {0})
checked_number_argument (Scalar i) register = Ok tt
checked_number_argument other register = Err (BadArgument register)

abbrev pub checked_context_argument : Kind → Register → Checked (Unit {0})
checked_context_argument Ctx register = Ok tt
checked_context_argument other register = Err (BadArgument register)

-- this many bytes of the stack lie inside it
abbrev pub is_inside_stack : ℕ → ℕ → Bool
is_inside_stack place count = nat_le (place + count) stack_size

abbrev pub when_all : Bool → BrokenRule → Checked (Unit {0})
when_all holds why = if holds then Ok tt else Err why

-- a key alone, as a lookup or a deletion takes it
abbrev pub key_arguments : List MapDef → State → Checked ℕ
key_arguments maps state =
    checked_map_argument (kind_of state R1) R1 >>= (λ map.
    stack_argument (kind_of state R2) R2 >>= (λ key.
    when_all (is_inside_stack key (key_size_of (slice_get maps map))) StackBounds >>= (λ _.
    when_all (are_bytes_set state key (key_size_of (slice_get maps map))) StackUnset >>= (λ _.
    Ok map))))

-- a key and a value, as an update takes them: both are inside the stack before the bytes of either are looked at
abbrev pub update_arguments : List MapDef → State → Checked ℕ
update_arguments maps state =
    checked_map_argument (kind_of state R1) R1 >>= (λ map.
    stack_argument (kind_of state R2) R2 >>= (λ key.
    stack_argument (kind_of state R3) R3 >>= (λ value.
    checked_number_argument (kind_of state R4) R4 >>= (λ _.
    when_all (is_inside_stack key (key_size_of (slice_get maps map)) && is_inside_stack value (value_size_of (slice_get maps map)))
    StackBounds >>= (λ _.
    when_all (are_bytes_set state key (key_size_of (slice_get maps map)) && are_bytes_set state value (value_size_of (slice_get maps map)))
    StackUnset >>= (λ _.
    Ok map))))))

abbrev pub head_arguments : State → Checked (Unit {0})
head_arguments state = checked_context_argument (kind_of state R1) R1 >>= (λ _. checked_number_argument (kind_of state R2) R2)

-- ---- what a call leaves

-- R0 has the answer, and R1 to R5 nothing
abbrev pub after_return : Kind → State → State
after_return answer state = record state { registers = answer ∷ Unset ∷ Unset ∷ Unset ∷ Unset ∷ Unset ∷ drop 6 state.registers }

abbrev pub any_number : Kind
any_number = Scalar (full_of 64)

abbrev pub checked_call : List MapDef → State → ℕ → Helper → Checked State
checked_call maps state slot MapLookupElem = key_arguments maps state >>= (λ map. Ok (after_return (ValueOrNull map slot) state))
checked_call maps state slot MapUpdateElem = update_arguments maps state >>= (λ _. Ok (after_return any_number state))
checked_call maps state slot MapDeleteElem = key_arguments maps state >>= (λ _. Ok (after_return any_number state))
checked_call maps state slot KtimeGetNs = Ok (after_return any_number state)
checked_call maps state slot GetSmpProcessorId = Ok (after_return (Scalar (interval_of 0 7)) state)
checked_call maps state slot XdpAdjustHead = head_arguments state >>= (λ _. Ok (after_return any_number (told HeadMoved state)))
