-- What a fact about an id changes: every register and spilled word with that id.
use Rattle.std.specs.Prelude.{ℕ, Bool, ◌==◌, max, map, if◌then◌else◌}
use Rattle.abstract_scalar.specs.Intervals.{constant_of}
use Rattle.abstract_state.specs.declared.kind.Kind.{Kind}
use Rattle.abstract_state.specs.declared.kind.Kind.TheVariants.{Unset, Scalar, Packet, PacketEnd, ValueOrNull, Value}
use Rattle.abstract_state.specs.declared.kind.StackWord.{StackWord}
use Rattle.abstract_state.specs.declared.kind.StackWord.TheVariants.{Spilled, Bytes}
use Rattle.abstract_state.specs.declared.fact.Fact.{Fact}
use Rattle.abstract_state.specs.declared.fact.Fact.TheVariants.{Nothing, Null, Range, HeadMoved}
use Rattle.abstract_state.specs.declared.state.State.{State}
use Rattle.abstract_state.specs.Places.{at_offset}
use Rattle.abstract_state.specs.Join.{spilled}

-- a value that is not 0 is live from its first byte on
abbrev pub told_null : ℕ → Bool → Kind → Kind
told_null id is_null (ValueOrNull map found) =
    if id == found then (if is_null then Scalar (constant_of 0) else Value map found (at_offset 0)) else ValueOrNull map found
told_null id is_null kind = kind

abbrev pub told_range : ℕ → ℕ → Kind → Kind
told_range id range (Packet base off known) = if id == base then Packet base off (max known range) else Packet base off known
told_range id range kind = kind

abbrev pub told_moved : Kind → Kind
told_moved (Packet id off range) = Unset
told_moved PacketEnd = Unset
told_moved kind = kind

abbrev pub told_kind : Fact → Kind → Kind
told_kind Nothing kind = kind
told_kind (Null id is_null) kind = told_null id is_null kind
told_kind (Range id range) kind = told_range id range kind
told_kind HeadMoved kind = told_moved kind

abbrev pub told_word : Fact → StackWord → StackWord
told_word fact (Spilled kind) = spilled (told_kind fact kind)
told_word fact (Bytes set) = Bytes set

-- the packet's start is the base of id 0
abbrev pub told_start : Fact → ℕ → ℕ
told_start (Range id range) known = if id == 0 then max known range else known
told_start HeadMoved known = 0
told_start fact known = known

abbrev pub told : Fact → State → State
told fact state = record state {
  registers = map (told_kind fact) state.registers;
  stack = map (told_word fact) state.stack;
  start_range = told_start fact state.start_range;
}
