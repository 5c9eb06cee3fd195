-- What a state says of a run: what the kinds of its registers and the words of its stack represent (abstract interpretation:
-- the run's state lies in the concretization).
use Rattle.std.specs.Prelude.{◌≡◌, ◌⊎◌, ℕ, ◌+◌, ◌*◌, ◌<◌, ◌≤◌, ◌^◌, Bool, true, false, ℤ, pos, List, length, take, drop, All, IsTrue}
use Rattle.std.specs.Prelude.{Option, Some, None, Ok, slice_get, slice_index_or}
use Rattle.isa.specs.declared.operation.Register.{Register}
use Rattle.isa.specs.declared.operation.Size.TheVariants.{U64}
use Rattle.ebpf_decode.specs.declared.map.MapDef.{MapDef}
use Rattle.semantics.specs.declared.call.CellRef.{CellRef}
use Rattle.semantics.specs.RegisterValue.{RegisterValue, Number, ContextPointer, StackPointer, PacketPointer, MapPointer, CellPointer}
use Rattle.semantics.specs.RegisterValue as meaning
use Rattle.semantics.specs.MachineState.{StackByte, Unwritten, Written, MachineState, register_value}
use Rattle.semantics.specs.Memory.{stack_place}
pub use Rattle.semantics.specs.ServedCalls.{Held}
use Rattle.semantics.specs.Semantics.{stored_places}
use Rattle.abstract_scalar.specs.declared.interval.Interval.{Interval}
use Rattle.abstract_scalar.specs.Intervals.{Covers}
use Rattle.abstract_state.specs.declared.kind.Kind.{Kind}
use Rattle.abstract_state.specs.declared.kind.Kind.TheVariants.{Unset, Scalar, Ctx, Stack, Packet, PacketEnd, Map, ValueOrNull, Value}
use Rattle.abstract_state.specs.declared.kind.Offsets.{Offsets}
use Rattle.abstract_state.specs.declared.kind.StackWord.{StackWord}
use Rattle.abstract_state.specs.declared.kind.StackWord.TheVariants.{Spilled, Bytes}
use Rattle.abstract_state.specs.declared.state.State.{State}
use Rattle.abstract_state.specs.States.{kind_of, word_of}
use Rattle.abstract_state.specs.Places.{at_offset}

-- ---- what the ids of a state represent

pub record Ids : Type 0 where
  -- the place of the packet that an id counts from
  pub base : ℕ → ℕ
  -- what the lookup of an id found
  pub found : ℕ → Option CellRef

-- what a kind may speak of: the maps, what is held, the ids, the slot of the next instruction, and the packet as it now is
pub record KindScope : Type 0 where
  pub maps : List MapDef
  pub held : Held
  pub ids : Ids
  pub slot : ℕ
  pub generation : ℕ
  pub size : ℕ

-- ---- values

-- a number of the interval
pub record IsNumberIn (i : Interval) (value : RegisterValue) : Type 0 where
  pub number : ℕ
  pub is : value ≡ Number number
  pub within : Covers i number
  pub word : number < 2 ^ 64

-- a place of the stack, counted from the lowest
pub record IsStackPlace (place : ℕ) (value : RegisterValue) : Type 0 where
  pub at : ℤ
  pub is : value ≡ StackPointer at
  pub counted : stack_place at ≡ pos place

-- a place past the base of an id of an earlier slot; the range from there lies in the packet
pub record IsPacketPlace (scope : KindScope) (id off range : ℕ) (value : RegisterValue) : Type 0 where
  pub is : value ≡ PacketPointer scope.generation (pos (scope.ids.base id + off))
  pub reached : 0 < range → scope.ids.base id + range ≤ scope.size
  pub earlier : id < scope.slot
  -- an offset past a base has 16 bits
  pub near : off ≤ 65535

pub record IsKnownMap (scope : KindScope) (map : ℕ) (value : RegisterValue) : Type 0 where
  pub is : value ≡ MapPointer map
  pub definition : MapDef
  pub known : slice_get scope.maps map ≡ Some definition

-- a byte of a cell that the lookup of an earlier slot found, and that is held: at one of the offsets
pub record IsLiveCell (scope : KindScope) (map id : ℕ) (off : Offsets) (value : RegisterValue) : Type 0 where
  pub cell : CellRef
  pub found : scope.ids.found id ≡ Some cell
  pub at : ℕ
  pub least : off.low ≤ at
  pub most : at ≤ off.high
  pub is : value ≡ CellPointer map cell.shard cell.id (pos at)
  pub held : IsTrue (scope.held map cell.shard cell.id)
  pub earlier : id < scope.slot

-- what a lookup of an earlier slot found: 0, or a cell that is held
pub record IsNoCellFound (scope : KindScope) (id : ℕ) (value : RegisterValue) : Type 0 where
  pub found : scope.ids.found id ≡ None
  pub is : value ≡ Number 0
  pub earlier : id < scope.slot

abbrev pub IsLookedUp : KindScope → ℕ → ℕ → RegisterValue → Type 0
IsLookedUp scope map id value = IsNoCellFound scope id value ⊎ IsLiveCell scope map id (at_offset 0) value

-- the value is one that the kind represents
abbrev pub KindCovers : KindScope → Kind → RegisterValue → Type 0
KindCovers scope Unset value = Unit {0}
KindCovers scope (Scalar i) value = IsNumberIn i value
KindCovers scope Ctx value = value ≡ ContextPointer
KindCovers scope (Stack place) value = IsStackPlace place value
KindCovers scope (Packet id off range) value = IsPacketPlace scope id off range value
KindCovers scope PacketEnd value = value ≡ meaning.PacketEnd scope.generation
KindCovers scope (Map map) value = IsKnownMap scope map value
KindCovers scope (ValueOrNull map id) value = IsLookedUp scope map id value
KindCovers scope (Value map id off) value = IsLiveCell scope map id off value

-- ---- the stack

-- a place that holds a byte
pub record IsByte (place : StackByte) : Type 0 where
  pub byte : ℕ
  pub is : place ≡ Written byte
  pub small : byte < 256

-- eight places hold what a store of a value of this kind leaves
pub record IsSpilled (scope : KindScope) (kind : Kind) (places : List StackByte) : Type 0 where
  pub value : RegisterValue
  pub covered : KindCovers scope kind value
  pub stored : stored_places value U64 ≡ Ok places

-- the bytes that are set were written
abbrev pub AreSetBytesWritten : List Bool → List StackByte → Type 0
AreSetBytesWritten set places = (k : ℕ) → slice_index_or set k false ≡ true → IsByte (slice_index_or places k Unwritten)

abbrev pub WordCovers : KindScope → StackWord → List StackByte → Type 0
WordCovers scope (Spilled kind) places = IsSpilled scope kind places
WordCovers scope (Bytes set) places = AreSetBytesWritten set places

-- the eight places of a word
abbrev pub places_of : ℕ → List StackByte → List StackByte
places_of word stack = take 8 (drop (8 * word) stack)

-- ---- states

abbrev pub kind_scope_of : List MapDef → Held → Ids → MachineState → KindScope
kind_scope_of maps held ids machine = record {
  maps = maps;
  held = held;
  ids = ids;
  slot = machine.slot;
  generation = machine.generation;
  size = length machine.frame.bytes;
}

-- the lists have their lengths, and numbers their ranges, whatever is known
pub record IsMachine (state : State) (machine : MachineState) : Type 0 where
  pub eleven : length machine.registers ≡ 11
  pub eleven_kinds : length state.registers ≡ 11
  pub stack_size : length machine.stack ≡ 512
  pub word_count : length state.stack ≡ 64
  pub worker : machine.worker < 8
  pub time : machine.now < 2 ^ 64
  pub frame : All (λ byte. byte < 256) machine.frame.bytes

-- the state is sound for the run's state
pub record Abstracts (maps : List MapDef) (held : Held) (state : State) (machine : MachineState) : Type 0 where
  pub ids : Ids
  pub registers : (register : Register) →
      KindCovers (kind_scope_of maps held ids machine) (kind_of state register) (register_value machine register)
  pub stack : (word : ℕ) → word < 64 →
      WordCovers (kind_scope_of maps held ids machine) (word_of state word) (places_of word machine.stack)
  pub start : 0 < state.start_range → state.start_range ≤ length machine.frame.bytes
  -- each addition moves a base by less than twice 2 ^ 16
  pub bases : (id : ℕ) → ids.base id ≤ 131070 * id
  pub is_machine : IsMachine state machine
