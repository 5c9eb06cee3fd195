-- What is known where two paths meet: what both know.
use Rattle.std.specs.Prelude.{ℕ, Bool, true, ◌&&◌, ◌==◌, List, [], ◌∷◌, min, max, if◌then◌else◌}
use Rattle.ebpf_decode.specs.declared.version.Version.{Version}
use Rattle.ebpf_decode.specs.declared.version.Version.TheVariants.{V1, V2}
use Rattle.abstract_scalar.specs.declared.interval.Interval.{Interval}
use Rattle.abstract_scalar.specs.Intervals.{hull_of}
use Rattle.abstract_state.specs.declared.kind.Kind.{Kind}
use Rattle.abstract_state.specs.declared.kind.Kind.TheVariants.{Unset, Scalar, Ctx, Stack, Packet, PacketEnd, Map, ValueOrNull, Value}
use Rattle.abstract_state.specs.declared.kind.Offsets.{Offsets}
use Rattle.abstract_state.specs.declared.kind.StackWord.{StackWord}
use Rattle.abstract_state.specs.declared.kind.StackWord.TheVariants.{Spilled, Bytes}
use Rattle.abstract_state.specs.declared.state.State.{State}
use Rattle.abstract_state.specs.States.{no_bytes, all_bytes}

-- the items of two lists, pair by pair
abbrev pub zip_with : {A B C : Type 0} → (A → B → C) → List A → List B → List C
zip_with f [] ys = []
zip_with f (x ∷ xs) [] = []
zip_with f (x ∷ xs) (y ∷ ys) = f x y ∷ zip_with f xs ys

-- ---- kinds: two intervals give their hull, in version 2 also two addresses in one value; equal kinds stay, and any other pair may not
-- be read

abbrev pub join_scalar : Interval → Kind → Kind
join_scalar i (Scalar j) = Scalar (hull_of i j)
join_scalar i other = Unset

abbrev pub join_ctx : Kind → Kind
join_ctx Ctx = Ctx
join_ctx other = Unset

abbrev pub join_stack : ℕ → Kind → Kind
join_stack place (Stack other) = if place == other then Stack place else Unset
join_stack place other = Unset

-- of two ranges the smaller is known on both paths
abbrev pub join_packet : ℕ → ℕ → ℕ → Kind → Kind
join_packet id off range (Packet other place known) =
    if (id == other) && (off == place) then Packet id off (min range known) else Unset
join_packet id off range other = Unset

abbrev pub join_end : Kind → Kind
join_end PacketEnd = PacketEnd
join_end other = Unset

abbrev pub join_map : ℕ → Kind → Kind
join_map map (Map other) = if map == other then Map map else Unset
join_map map other = Unset

abbrev pub join_nullable : ℕ → ℕ → Kind → Kind
join_nullable map id (ValueOrNull other found) = if (map == other) && (id == found) then ValueOrNull map id else Unset
join_nullable map id other = Unset

-- the offsets from the lowest to the highest of either
abbrev pub hull_of_offsets : Offsets → Offsets → Offsets
hull_of_offsets a b = record { low = min a.low b.low; high = max a.high b.high }

-- in version 1 only the same offsets of a value stay; in version 2 any two give their hull
abbrev pub may_join : Version → Offsets → Offsets → Bool
may_join V1 a b = (a.low == b.low) && (a.high == b.high)
may_join V2 a b = true

abbrev pub join_value : Version → ℕ → ℕ → Offsets → Kind → Kind
join_value version map id off (Value other found place) =
    if (map == other) && (id == found) && may_join version off place then Value map id (hull_of_offsets off place) else Unset
join_value version map id off other = Unset

abbrev pub join_kind : Version → Kind → Kind → Kind
join_kind version Unset b = Unset
join_kind version (Scalar i) b = join_scalar i b
join_kind version Ctx b = join_ctx b
join_kind version (Stack place) b = join_stack place b
join_kind version (Packet id off range) b = join_packet id off range b
join_kind version PacketEnd b = join_end b
join_kind version (Map map) b = join_map map b
join_kind version (ValueOrNull map id) b = join_nullable map id b
join_kind version (Value map id off) b = join_value version map id off b

-- ---- words of the stack

-- a spilled register whose kind may still be read
abbrev pub spilled : Kind → StackWord
spilled Unset = Bytes no_bytes
spilled kind = Spilled kind

-- the bytes of a spilled register: those of a number can be read, those of a pointer can't
abbrev pub bytes_of_kind : Kind → List Bool
bytes_of_kind (Scalar i) = all_bytes
bytes_of_kind other = no_bytes

abbrev pub bytes_of_word : StackWord → List Bool
bytes_of_word (Spilled kind) = bytes_of_kind kind
bytes_of_word (Bytes set) = set

abbrev pub join_bytes : List Bool → StackWord → StackWord
join_bytes set word = Bytes (zip_with (λ a b. a && b) set (bytes_of_word word))

abbrev pub join_spilled : Version → Kind → StackWord → StackWord
join_spilled version kind (Spilled other) = spilled (join_kind version kind other)
join_spilled version kind (Bytes set) = join_bytes (bytes_of_kind kind) (Bytes set)

abbrev pub join_word : Version → StackWord → StackWord → StackWord
join_word version (Spilled kind) word = join_spilled version kind word
join_word version (Bytes set) word = join_bytes set word

-- ---- states

-- both are states of one program, whose version decides
abbrev pub join_of : State → State → State
join_of a b = record {
  version = a.version;
  registers = zip_with (join_kind a.version) a.registers b.registers;
  stack = zip_with (join_word a.version) a.stack b.stack;
  start_range = min a.start_range b.start_range;
}
