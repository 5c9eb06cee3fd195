-- A port to maps in memory: the list of what it was asked, with the answers.
use Rattle.std.specs.Prelude.{◌≡◌, ℕ, ◌+◌, ◌<◌, ◌≤◌, ◌==◌, ℤ, Bool, true, false, ◌&&◌, ◌||◌, not, nat_lt, bytes_eq, List, [], ◌∷◌, ◌++◌}
use Rattle.std.specs.Prelude.{length, count_by, Option, Some, None, slice_get, if◌then◌else◌}
use Rattle.std.specs.List.{list_any}
use Rattle.ebpf_decode.specs.declared.map.MapDef.{MapDef}
use Rattle.ebpf_decode.specs.declared.map.MapKind.{MapKind}
use Rattle.ebpf_decode.specs.declared.map.MapKind.TheVariants.{Hash, Array, LruHash}
use Rattle.semantics.specs.LittleEndian.{number_of_bytes}
use Rattle.semantics.specs.Linux.{errno_code, success}
use Rattle.semantics.specs.declared.linux.Errno.TheVariants.{TooBig}
use Rattle.control.specs.declared.update_list.MadeUpdate.{MadeUpdate}
use Rattle.control.specs.MapUpdates.{UpdateBytes, IsInArray}

pub record UpdateListState : Type 0 where
  -- the maps that there are
  pub maps : List MapDef
  -- how many updates there is room for
  pub room : ℕ
  -- what was asked, in order
  pub made : List MadeUpdate

-- the update put this key into this map
abbrev pub is_of : ℕ → List ℕ → MadeUpdate → Bool
is_of map key made = made.map == map && bytes_eq made.key key && made.is_present

-- the update brought a new key into this map
abbrev pub is_new_in : ℕ → MadeUpdate → Bool
is_new_in map made = made.map == map && made.is_new

abbrev pub is_known : List MadeUpdate → ℕ → List ℕ → Bool
is_known made map key = list_any (is_of map key) made

-- whether the map takes the key: an array has its indices, a hash map keeps what it has and has room for this many keys, an LRU map makes
-- room
abbrev pub is_taken_by : MapKind → List MadeUpdate → ℕ → List ℕ → ℕ → Bool
is_taken_by Array made map key most = length key == 4 && nat_lt (number_of_bytes key) most
is_taken_by Hash made map key most = is_known made map key || nat_lt (count_by (is_new_in map) made) most
is_taken_by LruHash made map key most = true

abbrev pub is_taken_in : List MadeUpdate → UpdateBytes → Option MapDef → Bool
is_taken_in made update (Some definition) = is_taken_by definition.kind made update.map update.key definition.max_entries
is_taken_in made update None = false

abbrev pub is_taken : UpdateListState → UpdateBytes → Bool
is_taken state update = is_taken_in state.made update (slice_get state.maps update.map)

-- 0, or that the map is full or the index out of range
abbrev pub answer_if : Bool → ℤ
answer_if true = success
answer_if false = errno_code TooBig

-- the entry of an update
abbrev pub made_of : UpdateListState → UpdateBytes → MadeUpdate
made_of state update = record {
  map = update.map;
  key = update.key;
  value = update.value;
  is_present = is_taken state update;
  is_new = is_taken state update && not (is_known state.made update.map update.key);
}

-- the update is answered and noted
pub record IsUpdateNoted (before : UpdateListState) (update : UpdateBytes) (answer : ℤ) (after : UpdateListState) : Type 0 where
  pub answer_is : answer ≡ answer_if (is_taken before update)
  pub state_is : after ≡ record { maps = before.maps; room = before.room; made = before.made ++ made_of before update ∷ [] }

-- there is no room, and nothing is changed
pub record IsWithoutRoom (before : UpdateListState) (after : UpdateListState) : Type 0 where
  pub no_room : before.room ≤ length before.made
  pub state_is : after ≡ before
