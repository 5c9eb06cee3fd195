-- A table while backends take turns: for each slot the place of its owner in the list, or a mark that it is free.
use Rattle.std.specs.Prelude.{◌≡◌, ◌≢◌, ℕ, ◌+◌, ◌-◌, ◌/◌, ◌%◌, ◌<◌, ◌==◌, List, length, take, map, slice_index, slice_index_or, Contains}
use Rattle.std.specs.Prelude.{count_by}
use Rattle.maglev.specs.declared.preference.Preference.{Preference}
use Rattle.maglev.specs.Population.{preferred_slot, IsFirstFree, no_backend, backend_of_turn}

-- the slot is the first of the preferences that the table marks as free
pub record IsFirstMarked (size : ℕ) (preference : Preference) (table : List ℕ) (free slot : ℕ) : Type 0 where
  pub choice : ℕ
  pub preferred : slot ≡ preferred_slot size preference choice
  pub is_free : slice_index table slot ≡ free
  pub earlier_owned : (earlier : ℕ) → earlier < choice → slice_index table (preferred_slot size preference earlier) ≢ free

-- `left` is what is left of the preferences, once those that were taken are passed over
pub record IsRestOf (size : ℕ) (preference : Preference) (taken : List ℕ) (left : Preference) : Type 0 where
  pub passed : ℕ
  pub same_number : left.number ≡ preference.number
  pub same_skip : left.skip ≡ preference.skip
  pub begins : left.offset ≡ preferred_slot size preference passed
  pub passed_taken : (earlier : ℕ) → earlier < passed → Contains taken (preferred_slot size preference earlier)

-- the backend in this place of the list
abbrev pub preference_at : List Preference → ℕ → Preference
preference_at backends place = slice_index_or backends place no_backend

-- how many of this many turns belong to the backend in this place
abbrev pub turns_of : ℕ → ℕ → ℕ → ℕ
turns_of backends place turns = (turns + (backends - 1 - place)) / backends

-- what this many turns leave: the table, and what is left of each preference list
pub record AreTurnsTaken (size free : ℕ) (backends : List Preference) (turns : ℕ) (table : List ℕ) (left : List Preference) : Type 0 where
  -- the slots in the order in which they were taken
  pub taken : List ℕ
  pub each_turn : length taken ≡ turns
  pub first_free : (turn : ℕ) → turn < turns → IsFirstFree size (backend_of_turn backends turn) (take turn taken) (slice_index taken turn)
  pub within : (turn : ℕ) → turn < turns → slice_index taken turn < size
  -- what the table shows
  pub slots : length table ≡ size
  pub owned : (turn : ℕ) → turn < turns → slice_index table (slice_index taken turn) ≡ turn % length backends
  pub owned_is_taken : (slot : ℕ) → slot < size → slice_index table slot ≢ free → Contains taken slot
  pub places : (slot : ℕ) → slot < size → slice_index table slot ≢ free → slice_index table slot < length backends
  pub free_left : count_by (λ place. place == free) table + turns ≡ size
  pub shares : (place : ℕ) → place < length backends → count_by (λ owner. owner == place) table ≡ turns_of (length backends) place turns
  -- what is left of the preferences
  pub same_length : length left ≡ length backends
  pub rest : (place : ℕ) → place < length backends → IsRestOf size (preference_at backends place) taken (preference_at left place)

-- the numbers of the owners, for a table of their places
abbrev pub owners_of : List Preference → List ℕ → List ℕ
owners_of backends table = map (λ place. (preference_at backends place).number) table
