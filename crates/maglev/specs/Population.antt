-- Maglev's population of a lookup table (Maglev, NSDI 2016, section 3.4): backends take turns, and each turn takes
-- the first slot of its backend's preferences that no earlier turn took.
use Rattle.std.specs.Prelude.{◌≡◌, ℕ, ◌+◌, ◌-◌, ◌*◌, ◌/◌, ◌%◌, ◌<◌, ◌⊎◌, ◌==◌, List, Some, length, take, slice_get, slice_index}
use Rattle.std.specs.Prelude.{slice_index_or, map, Contains, All, count_by}
use Rattle.maglev.specs.declared.preference.Preference.{Preference}

-- the slot that a backend prefers in this place, where place 0 is its first choice
abbrev pub preferred_slot : ℕ → Preference → ℕ → ℕ
preferred_slot size preference choice = (preference.offset + choice * preference.skip) % size

-- an offset and a skip that a table of this size may be populated by
pub record IsPreference (size : ℕ) (preference : Preference) : Type 0 where
  pub offset_below : preference.offset < size
  pub skip_positive : 0 < preference.skip
  pub skip_below : preference.skip < size

-- the first `size` preferences are a permutation of the slots: each is a slot, and each slot is one of them, once
pub record IsPermutationOfSlots (size : ℕ) (preference : Preference) : Type 0 where
  pub within : (choice : ℕ) → choice < size → preferred_slot size preference choice < size
  pub every_slot : (slot : ℕ) → slot < size → (choice : ℕ) × (choice < size) × (preferred_slot size preference choice ≡ slot)
  pub once : (i j : ℕ) → i < size → j < size → preferred_slot size preference i ≡ preferred_slot size preference j → i ≡ j

-- the slot is the first of the preferences that no earlier turn took
pub record IsFirstFree (size : ℕ) (preference : Preference) (taken : List ℕ) (slot : ℕ) : Type 0 where
  pub choice : ℕ
  pub preferred : slot ≡ preferred_slot size preference choice
  pub free : ¬ Contains taken slot
  pub earlier_taken : (earlier : ℕ) → earlier < choice → Contains taken (preferred_slot size preference earlier)

-- what is past the end of a list of backends
abbrev pub no_backend : Preference
no_backend = record { number = 0; offset = 0; skip = 0 }

-- the backend whose turn it is: turn t belongs to backend t mod N
abbrev pub backend_of_turn : List Preference → ℕ → Preference
backend_of_turn backends turn = slice_index_or backends (turn % length backends) no_backend

-- the table that the backends' turns make: the numbers of the owners, by slot
pub record IsPopulation (size : ℕ) (backends : List Preference) (owners : List ℕ) : Type 0 where
  -- the slots in the order in which they were taken, one in each turn
  pub taken : List ℕ
  pub turns : length taken ≡ size
  pub slots : length owners ≡ size
  pub first_free : (turn : ℕ) → turn < size → IsFirstFree size (backend_of_turn backends turn) (take turn taken) (slice_index taken turn)
  pub owned : (turn : ℕ) → turn < size → slice_get owners (slice_index taken turn) ≡ Some (backend_of_turn backends turn).number

-- no other table is a population of these backends
abbrev pub IsOnlyPopulation : ℕ → List Preference → List ℕ → Type 0
IsOnlyPopulation size backends owners = (others : List ℕ) → IsPopulation size backends others → others ≡ owners

-- the numbers of the backends, in the order of the list
abbrev pub preference_numbers : List Preference → List ℕ
preference_numbers backends = map (λ backend. backend.number) backends

-- how many slots a backend owns
abbrev pub share_of : ℕ → List ℕ → ℕ
share_of number owners = count_by (λ owner. owner == number) owners

-- each of the backends owns the floor or the ceiling of size / N slots
abbrev pub IsBalanced : List ℕ → List ℕ → Type 0
IsBalanced numbers owners =
    let size = length owners in
    let backends = length numbers in
    All (λ number. (share_of number owners ≡ size / backends) ⊎ (share_of number owners ≡ (size + backends - 1) / backends)) numbers
