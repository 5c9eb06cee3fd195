-- What a load reads from a word of the stack, and what a store leaves there.
use Rattle.std.specs.Prelude.{ℕ, zero, suc, ◌+◌, ◌/◌, ◌%◌, ◌&&◌, Bool, true, false, List, ◌++◌, take, drop, replicate, slice_index_or, Ok}
use Rattle.std.specs.Prelude.{Err, if◌then◌else◌}
use Rattle.isa.specs.declared.operation.Size.{Size}
use Rattle.isa.specs.declared.operation.Size.TheVariants.{U64}
use Rattle.isa.specs.InstructionCodes.{size_bytes, size_bits}
use Rattle.abstract_scalar.specs.Intervals.{full_of}
use Rattle.abstract_state.specs.declared.kind.Kind.{Kind}
use Rattle.abstract_state.specs.declared.kind.Kind.TheVariants.{Scalar}
use Rattle.abstract_state.specs.declared.kind.StackWord.{StackWord}
use Rattle.abstract_state.specs.declared.kind.StackWord.TheVariants.{Spilled, Bytes}
use Rattle.abstract_state.specs.declared.broken_rule.BrokenRule.TheVariants.{StackUnset, PointerLeak}
use Rattle.abstract_state.specs.declared.state.State.{State}
use Rattle.abstract_state.specs.States.{Checked, word_of}
use Rattle.abstract_state.specs.Join.{bytes_of_word}

-- every number that a zero-extending load of the size returns
abbrev pub loaded_number : Size → Kind
loaded_number size = Scalar (full_of (size_bits size))

-- ---- loads

-- whether a byte of the stack was written, and is no part of a pointer
abbrev pub is_byte_set : State → ℕ → Bool
is_byte_set state place = slice_index_or (bytes_of_word (word_of state (place / 8))) (place % 8) false

-- this many bytes from a place on
abbrev pub are_bytes_set : State → ℕ → ℕ → Bool
are_bytes_set state place zero = true
are_bytes_set state place (suc count) = is_byte_set state place && are_bytes_set state (place + 1) count

abbrev pub bytes_loaded : State → Size → ℕ → Checked Kind
bytes_loaded state size from = if are_bytes_set state from (size_bytes size) then Ok (loaded_number size) else Err StackUnset

-- a narrower load reads the bytes of a number, and no part of a pointer
abbrev pub narrow_loaded : Size → Kind → Checked Kind
narrow_loaded size (Scalar i) = Ok (loaded_number size)
narrow_loaded size other = Err PointerLeak

abbrev pub spilled_loaded : Size → Kind → Checked Kind
spilled_loaded U64 kind = Ok kind
spilled_loaded size kind = narrow_loaded size kind

abbrev pub word_loaded : State → Size → ℕ → StackWord → Checked Kind
word_loaded state size from (Spilled kind) = spilled_loaded size kind
word_loaded state size from (Bytes set) = bytes_loaded state size from

-- ---- stores

-- any register can be spilled whole, and of a number also a part
abbrev pub storable_number : Kind → Checked (Unit {0})
storable_number (Scalar i) = Ok tt
storable_number other = Err PointerLeak

abbrev pub storable : Size → Kind → Checked (Unit {0})
storable U64 kind = Ok tt
storable size kind = storable_number kind

abbrev pub with_set : List Bool → ℕ → ℕ → List Bool
with_set set from count = take from set ++ replicate count true ++ drop (from + count) set

-- a narrower store leaves the bytes of a number as they are known; of a pointer only its own bytes are then known
abbrev pub word_stored : Size → ℕ → Kind → StackWord → StackWord
word_stored U64 from kind word = Spilled kind
word_stored size from kind word = Bytes (with_set (bytes_of_word word) from (size_bytes size))
