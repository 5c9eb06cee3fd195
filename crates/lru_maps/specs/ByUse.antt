-- A shard's table beside the history of a shard: the present keys, each with its cell, in the order of their last uses.
use Rattle.std.specs.Prelude.{◌≡◌, ℕ, ◌<◌, ◌==◌, false, not, List, ◌∷◌, length, find, filter, Some, None, bytes_eq}
use Rattle.std.specs.List.{AllByRecursion}
use Rattle.std.specs.Map.{lookup, remove_entry}
use Rattle.lru.specs.LruCache.{promoted}
use Rattle.semantics.specs.declared.call.Entry.{Entry}
use Rattle.semantics.specs.declared.plan.PresentKey.{PresentKey}
use Rattle.semantics.specs.LeastRecentlyUsed.{uses, last_use, least_recently_used}
use Rattle.semantics.specs.SequentialShard.{cell_of_present}
use Rattle.semantics.specs.UseLaws.{ArePairwise}
use Rattle.lru_maps.specs.LruTable.{last_of, all_but_last_entry}

-- the first key was used later than the other
abbrev pub IsUsedLater : List Entry → List ℕ × ℕ → List ℕ × ℕ → Type 0
IsUsedLater history one other = last_use other.0 history < last_use one.0 history

abbrev pub HaveOtherKeys : PresentKey → PresentKey → Type 0
HaveOtherKeys one other = one.key ≡ other.key → ⊥

abbrev pub HaveOtherCells : PresentKey → PresentKey → Type 0
HaveOtherCells one other = one.cell ≡ other.cell → ⊥

pub record IsByUse (history : List Entry) (present : List PresentKey) (entries : List (List ℕ × ℕ)) : Type 0 where
  pub count : length present ≡ length entries
  pub cells : (key : List ℕ) → cell_of_present present key ≡ lookup (bytes_eq key) entries
  pub falling : ArePairwise (IsUsedLater history) entries
  pub keys_apart : ArePairwise HaveOtherKeys present
  pub cells_apart : ArePairwise HaveOtherCells present

-- ---- laws

-- the last key of the table is the history's least recently used one
abbrev pub LastIsLeast : Type 0
LastIsLeast =
    (history : List Entry) (present : List PresentKey) (entries : List (List ℕ × ℕ)) (key : List ℕ) (id : ℕ) →
    IsByUse history present entries → last_of entries ≡ Some (key, id) →
    least_recently_used history present ≡ Some (record { key = key; cell = id })

-- an entry that is no use of any key leaves the order
abbrev pub OthersKeepOrder : Type 0
OthersKeepOrder =
    (entry : Entry) (older : List Entry) (present : List PresentKey) (entries : List (List ℕ × ℕ)) →
    IsByUse older present entries → ((key : List ℕ) → uses key entry ≡ false) →
    IsByUse (entry ∷ older) present entries

-- a use of a present key brings it to the front
abbrev pub UseBringsForward : Type 0
UseBringsForward =
    (entry : Entry) (older : List Entry) (present : List PresentKey) (entries : List (List ℕ × ℕ)) (key : List ℕ) (id : ℕ) →
    IsByUse older present entries → ((q : List ℕ) → uses q entry ≡ bytes_eq key q) →
    cell_of_present present key ≡ Some id → IsByUse (entry ∷ older) present (promoted (bytes_eq key) entries)

-- a new key with a cell of its own is at the front
abbrev pub NewKeyIsFirst : Type 0
NewKeyIsFirst =
    (entry : Entry) (older : List Entry) (present : List PresentKey) (entries : List (List ℕ × ℕ)) (key : List ℕ) (id : ℕ) →
    IsByUse older present entries → ((q : List ℕ) → uses q entry ≡ bytes_eq key q) →
    cell_of_present present key ≡ None → AllByRecursion (λ (one : PresentKey). id ≡ one.cell → ⊥) present →
    IsByUse (entry ∷ older) (record { key = key; cell = id } ∷ present) ((key, id) ∷ entries)

-- a key that is taken out with its cell leaves the others in order
abbrev pub RemovalKeepsOrder : Type 0
RemovalKeepsOrder =
    (history : List Entry) (present : List PresentKey) (entries : List (List ℕ × ℕ)) (key : List ℕ) (gone : PresentKey) →
    IsByUse history present entries →
    find (λ (one : PresentKey). bytes_eq one.key key) present ≡ Some gone →
    IsByUse history (filter (λ (one : PresentKey). not (one.cell == gone.cell)) present) (remove_entry (bytes_eq key) entries)

-- and so does an eviction
abbrev pub EvictionKeepsOrder : Type 0
EvictionKeepsOrder =
    (history : List Entry) (present : List PresentKey) (entries : List (List ℕ × ℕ)) (key : List ℕ) (id : ℕ) →
    IsByUse history present entries → last_of entries ≡ Some (key, id) →
    IsByUse history (filter (λ (one : PresentKey). not (one.cell == id)) present) (all_but_last_entry entries)
