-- Where an access may go: inside what is known to be there, and, on the stack and in values, at a multiple of its size. (A load or a
-- store of a value at an offset that is not one known number needs no alignment.)
use Rattle.std.specs.Prelude.{ℕ, ◌+◌, ◌%◌, ◌==◌, nat_le, ℤ, pos, negsuc, ◌+ℤ◌, List, Ok, Err, slice_get, if◌then◌else◌}
use Rattle.ebpf_decode.specs.declared.map.MapDef.{MapDef}
use Rattle.abstract_state.specs.declared.kind.Offsets.{Offsets}
use Rattle.abstract_state.specs.declared.broken_rule.BrokenRule.{BrokenRule}
use Rattle.abstract_state.specs.declared.broken_rule.BrokenRule.TheVariants.{PacketBounds, StackBounds, ValueBounds, Misaligned}
use Rattle.abstract_state.specs.States.{Checked, ◌>>=◌, stack_size, value_size_of}

-- a place from 0 to a limit
abbrev pub place_within : ℤ → ℕ → BrokenRule → Checked ℕ
place_within (pos place) limit why = if nat_le place limit then Ok place else Err why
place_within (negsuc below) limit why = Err why

-- where this many bytes begin that end at a limit or before
abbrev pub range_within : ℤ → ℕ → ℕ → BrokenRule → Checked ℕ
range_within (pos place) count limit why = if nat_le (place + count) limit then Ok place else Err why
range_within (negsuc below) count limit why = Err why

abbrev pub aligned : ℕ → ℕ → Checked ℕ
aligned place count = if place % count == 0 then Ok place else Err Misaligned

abbrev pub stack_access : ℕ → ℤ → ℕ → Checked ℕ
stack_access place offset count =
    range_within (pos place +ℤ offset) count stack_size StackBounds >>= (λ from. aligned from count)

abbrev pub packet_access : ℕ → ℕ → ℤ → ℕ → Checked ℕ
packet_access off range offset count = range_within (pos off +ℤ offset) count range PacketBounds

-- ---- values of maps: an address may lie at any offset of an interval

abbrev pub at_offset : ℕ → Offsets
at_offset off = record { low = off; high = off }

-- both ends of what was moved, from 0 to the value's size
abbrev pub offsets_within : List MapDef → ℕ → ℤ → ℤ → Checked Offsets
offsets_within maps map low high =
    place_within low (value_size_of (slice_get maps map)) ValueBounds >>= (λ from.
    place_within high (value_size_of (slice_get maps map)) ValueBounds >>= (λ to.
    Ok (record { low = from; high = to })))

-- from the lowest offset and from the highest this many bytes lie in the value: where the first begin
abbrev pub value_range : List MapDef → ℕ → Offsets → ℤ → ℕ → Checked ℕ
value_range maps map off offset count =
    range_within (pos off.low +ℤ offset) count (value_size_of (slice_get maps map)) ValueBounds >>= (λ from.
    range_within (pos off.high +ℤ offset) count (value_size_of (slice_get maps map)) ValueBounds >>= (λ last.
    Ok from))

-- a load or a store at a single offset is at a multiple of its size
abbrev pub value_access : List MapDef → ℕ → Offsets → ℤ → ℕ → Checked ℕ
value_access maps map off offset count =
    value_range maps map off offset count >>= (λ from. if off.low == off.high then aligned from count else Ok from)

-- and an atomic operation always, so that its offset is a single one
abbrev pub atomic_access : List MapDef → ℕ → Offsets → ℤ → ℕ → Checked ℕ
atomic_access maps map off offset count =
    value_range maps map off offset count >>= (λ from. if off.low == off.high then aligned from count else Err Misaligned)
