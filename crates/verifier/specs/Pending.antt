-- What a sweep holds in memory of what is known: at the slot where it is, and what jumps brought to later slots.
use Rattle.std.specs.Prelude.{◌≡◌, ℕ, ◌<◌, Bool, true, false, Option, Some, None, slice_index_or}
use Rattle.std.specs.declared.boxed.Box.{Box}
use Rattle.std.specs.declared.alloc.Global.{Global}
use Rattle.abstract_state.specs.declared.state.State.{State}
use Rattle.verifier.specs.declared.pending.KnownHere.{KnownHere}
use Rattle.verifier.specs.declared.pending.Pending.{Pending}

-- a state, where a path leads
abbrev pub known_if : Bool → State → Option State
known_if true state = Some state
known_if false state = None

abbrev pub known_entry : KnownHere → Option State
known_entry entry = known_if entry.is_reached entry.state

abbrev pub unboxed : Option (Box State Global) → Option State
unboxed None = None
unboxed (Some known) = Some known.value

-- what jumps brought to a slot
abbrev pub pending_at : Pending → ℕ → Option State
pending_at pending slot = unboxed (slice_index_or pending.states.items slot None)

-- above this slot nothing was changed
abbrev pub AreKeptAbove : ℕ → Pending → Pending → Type 0
AreKeptAbove slot old new = (other : ℕ) → slot < other → pending_at new other ≡ pending_at old other
