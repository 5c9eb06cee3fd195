-- The maps of steering as a controller writes them, without journals: what they hold that a table of shares is made of, and what they
-- answer.
use Rattle.std.specs.Prelude.{◌≡◌, ℕ, ◌==◌, ℤ, Bool, ◌||◌, not, nat_lt, bytes_eq, List, [], ◌∷◌, ◌++◌, length, set, slice_index}
use Rattle.std.specs.Prelude.{if◌then◌else◌}
use Rattle.std.specs.List.{list_any}
use Rattle.semantics.specs.LittleEndian.{number_of_bytes}
use Rattle.conntrack.specs.SteeringMaps.{map_place}
use Rattle.conntrack.specs.declared.steering_maps.SteeringMap.TheVariants.{Backends, Ring, Vips}
use Rattle.control.specs.MapUpdates.{UpdateBytes}
use Rattle.control.specs.ListOfUpdates.{answer_if}

pub record MapsState : Type 0 where
  -- how many slots the lookup table has
  pub size : ℕ
  -- the word of each slot: its owner's number and one, or 0
  pub words : List ℕ
  -- the record of each backend, by its number
  pub backends : List (List ℕ)
  -- the keys of the services, the oldest first
  pub keys : List (List ℕ)

-- the number in the first four bytes, the lowest first; 0 where there are fewer
abbrev pub front_word : List ℕ → ℕ
front_word bytes =
    if nat_lt (length bytes) 4 then 0
    else number_of_bytes (slice_index bytes 0 ∷ slice_index bytes 1 ∷ slice_index bytes 2 ∷ slice_index bytes 3 ∷ [])

-- an item is put at a place that there is
abbrev pub with_item_at : {A : Type 0} → List A → ℕ → A → List A
with_item_at items place item = if nat_lt place (length items) then set items place item else items

abbrev pub is_key_of : List (List ℕ) → List ℕ → Bool
is_key_of keys key = list_any (λ other. bytes_eq other key) keys

-- the map of services takes a key that it has, and new ones while it has fewer than 64
abbrev pub is_key_taken : List (List ℕ) → List ℕ → Bool
is_key_taken keys key = is_key_of keys key || nat_lt (length keys) 64

-- the keys after an update of the map of services
abbrev pub keys_with : List (List ℕ) → List ℕ → List (List ℕ)
keys_with keys key = if is_key_of keys key then keys else (if nat_lt (length keys) 64 then (keys ++ key ∷ []) else keys)

-- the map of services is the first one; every other map takes what it is asked
abbrev pub written_answer : MapsState → UpdateBytes → ℤ
written_answer state update = answer_if (not (update.map == map_place Vips) || is_key_taken state.keys update.key)

-- the lookup table is the third map, and the backends are the fourth
abbrev pub after_update : MapsState → UpdateBytes → MapsState
after_update state update = record {
  size = state.size;
  words = if update.map == map_place Ring then with_item_at state.words (front_word update.key) (front_word update.value) else state.words;
  backends = if update.map == map_place Backends then with_item_at state.backends (front_word update.key) update.value else state.backends;
  keys = if update.map == map_place Vips then keys_with state.keys update.key else state.keys;
}

-- the update is answered, and made
pub record IsUpdateAnswered (before : MapsState) (update : UpdateBytes) (answer : ℤ) (after : MapsState) : Type 0 where
  pub answer_is : answer ≡ written_answer before update
  pub state_is : after ≡ after_update before update

-- no update meets a full journal, since there is none
abbrev pub IsNeverRefused : MapsState → UpdateBytes → MapsState → Type 0
IsNeverRefused before update after = ⊥
