-- Loads, stores and atomic operations on kinds (RFC 9669, section 5).
use Rattle.std.specs.Prelude.{ℕ, ◌/◌, ◌%◌, Bool, true, false, ℤ, List, Option, Some, None, Ok, Err, if◌then◌else◌}
use Rattle.isa.specs.Words.{width_bits}
use Rattle.isa.specs.Atomic.{fetched_register}
use Rattle.isa.specs.declared.operation.Width.{Width}
use Rattle.isa.specs.declared.operation.Size.{Size}
use Rattle.isa.specs.declared.operation.Size.TheVariants.{U32}
use Rattle.isa.specs.declared.operation.Extension.{Extension}
use Rattle.isa.specs.declared.operation.AtomicOp.{AtomicOp}
use Rattle.isa.specs.declared.operation.AtomicOp.TheVariants.{CompareExchange}
use Rattle.isa.specs.declared.operation.Register.{Register}
use Rattle.isa.specs.declared.operation.Register.TheVariants.{R0}
use Rattle.isa.specs.InstructionCodes.{extension_size, width_size, size_bytes}
use Rattle.ebpf_decode.specs.declared.map.MapDef.{MapDef}
use Rattle.semantics.specs.Linux.{field_at}
use Rattle.semantics.specs.declared.linux.ContextField.{ContextField}
use Rattle.semantics.specs.declared.linux.ContextField.TheVariants.{Data, DataEnd, IngressIfindex, RxQueueIndex}
use Rattle.abstract_scalar.specs.Intervals.{constant_of, interval_of, full_of}
use Rattle.abstract_state.specs.declared.kind.Kind.{Kind}
use Rattle.abstract_state.specs.declared.kind.Kind.TheVariants.{Scalar, Ctx, Stack, Packet, PacketEnd, Value}
use Rattle.abstract_state.specs.declared.broken_rule.BrokenRule.TheVariants.{WrongKind, ContextAccess}
use Rattle.abstract_state.specs.declared.state.State.{State}
use Rattle.abstract_state.specs.States.{Checked, ◌>>=◌, kind_of, with_kind, word_of, with_word}
use Rattle.abstract_state.specs.Places.{stack_access, packet_access, value_access, atomic_access}
use Rattle.abstract_state.specs.Words.{loaded_number, word_loaded, storable, storable_number, word_stored}

-- ---- loads

-- the fields of the context: the packet, its end, and two numbers
abbrev pub field_kind : State → Option ContextField → Checked Kind
field_kind state (Some Data) = Ok (Packet 0 0 state.start_range)
field_kind state (Some DataEnd) = Ok PacketEnd
field_kind state (Some IngressIfindex) = Ok (Scalar (constant_of 1))
field_kind state (Some RxQueueIndex) = Ok (Scalar (interval_of 0 7))
field_kind state None = Err ContextAccess

abbrev pub context_kind : State → ℤ → Checked Kind
context_kind state place = field_kind state (field_at place)

abbrev pub context_loaded : State → Size → ℤ → Checked Kind
context_loaded state U32 place = context_kind state place
context_loaded state size place = Err ContextAccess

-- what a load of this many bytes returns
abbrev pub loaded_kind : List MapDef → State → Size → Kind → ℤ → Register → Checked Kind
loaded_kind maps state size Ctx offset source = context_loaded state size offset
loaded_kind maps state size (Stack place) offset source =
    stack_access place offset (size_bytes size) >>= (λ from. word_loaded state size from (word_of state (from / 8)))
loaded_kind maps state size (Packet id off range) offset source =
    packet_access off range offset (size_bytes size) >>= (λ from. Ok (loaded_number size))
loaded_kind maps state size (Value map id off) offset source =
    value_access maps map off offset (size_bytes size) >>= (λ from. Ok (loaded_number size))
loaded_kind maps state size other offset source = Err (WrongKind source)

-- a sign-extending load reads no field of the context, and returns any number
abbrev pub signed_loaded : List MapDef → State → Extension → Kind → ℤ → Register → Checked Kind
signed_loaded maps state extension Ctx offset source = Err ContextAccess
signed_loaded maps state extension kind offset source =
    loaded_kind maps state (extension_size extension) kind offset source >>= (λ loaded. Ok (Scalar (full_of 64)))

abbrev pub load_of : List MapDef → State → Size → Register → Register → ℤ → Checked State
load_of maps state size dst source offset =
    loaded_kind maps state size (kind_of state source) offset source >>= (λ kind. Ok (with_kind state dst kind))

abbrev pub signed_load_of : List MapDef → State → Extension → Register → Register → ℤ → Checked State
signed_load_of maps state extension dst source offset =
    signed_loaded maps state extension (kind_of state source) offset source >>= (λ kind. Ok (with_kind state dst kind))

-- ---- stores

abbrev pub stack_stored : State → Size → ℕ → Kind → State
stack_stored state size from kind = with_word state (from / 8) (word_stored size (from % 8) kind (word_of state (from / 8)))

-- the place is tested first, and then what is stored
abbrev pub stored : List MapDef → State → Size → Kind → ℤ → Register → Kind → Checked State
stored maps state size Ctx offset dst kind = Err ContextAccess
stored maps state size (Stack place) offset dst kind =
    stack_access place offset (size_bytes size) >>= (λ from. storable size kind >>= (λ _. Ok (stack_stored state size from kind)))
stored maps state size (Packet id off range) offset dst kind =
    packet_access off range offset (size_bytes size) >>= (λ from. storable_number kind >>= (λ _. Ok state))
stored maps state size (Value map id off) offset dst kind =
    value_access maps map off offset (size_bytes size) >>= (λ from. storable_number kind >>= (λ _. Ok state))
stored maps state size other offset dst kind = Err (WrongKind dst)

abbrev pub store_of : List MapDef → State → Size → Register → ℤ → Kind → Checked State
store_of maps state size dst offset kind = stored maps state size (kind_of state dst) offset dst kind

-- ---- atomic operations, on values of maps alone

abbrev pub with_fetched_kind : State → Option Register → Width → State
with_fetched_kind state None width = state
with_fetched_kind state (Some register) width = with_kind state register (Scalar (full_of (width_bits width)))

abbrev pub is_number : Kind → Bool
is_number (Scalar i) = true
is_number other = false

-- compare-and-exchange reads a number from R0
abbrev pub expects : AtomicOp → Kind → Checked (Unit {0})
expects CompareExchange kind = if is_number kind then Ok tt else Err (WrongKind R0)
expects op kind = Ok tt

abbrev pub checked_atomic : List MapDef → State → Width → AtomicOp → Kind → ℤ → Register → Register → Checked State
checked_atomic maps state width op (Value map id off) offset dst src =
    atomic_access maps map off offset (size_bytes (width_size width)) >>= (λ from.
    storable_number (kind_of state src) >>= (λ _.
    expects op (kind_of state R0) >>= (λ _.
    Ok (with_fetched_kind state (fetched_register op src) width))))
checked_atomic maps state width op other offset dst src = Err (WrongKind dst)

abbrev pub atomic_of : List MapDef → State → Width → AtomicOp → Register → Register → ℤ → Checked State
atomic_of maps state width op dst src offset = checked_atomic maps state width op (kind_of state dst) offset dst src
