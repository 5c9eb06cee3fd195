-- What each change leaves of a table of keys beside a history: keys of an LRU map are in the order of their last uses.
use Rattle.std.proofs.Common.{◌≡◌, ℕ, ◌+◌, Bool, true, false, cond, not, List, ◌∷◌, length, Option, Some, None, arith, refl, sym, ◌∙◌, ap}
use Rattle.std.specs.Prelude.{◌==◌, is_some, filter, find, option_map, bytes_eq, if◌then◌else◌}
use Rattle.std.specs.List.{AllByRecursion}
use Rattle.ebpf_decode.specs.declared.map.MapKind.TheVariants.{Array}
use Rattle.semantics.specs.declared.call.Entry.{Entry}
use Rattle.semantics.specs.declared.plan.ShardPlan.{ShardPlan}
use Rattle.semantics.specs.declared.plan.PresentKey.{PresentKey}
use Rattle.semantics.specs.LeastRecentlyUsed.{uses}
use Rattle.semantics.specs.SequentialShard.{SequentialShard, cell_of_present, cell_of_key}
use Rattle.semantics.specs.UseLaws.{ArePairwise}
use Rattle.plain_maps.specs.HashTable.{cell_of}
use Rattle.lru_maps.proofs.shared.ByUse.{by_use_on, by_use_touched, by_use_new, by_use_removed}
use Rattle.shard_core.specs.declared.keys.KeyTable.{KeyTable}
use Rattle.shard_core.specs.declared.keys.KeyTable.TheVariants.{Indices, Hashed, Recent}
use Rattle.shard_core.specs.KeyTables.{cell_in, FitsPlan, HasKeys, IsKeyed, touched_in, IsInserted, IsRemoved}
use Rattle.shard_core.proofs.StateLemmas.{IsGone, key_gone}

-- the entry is a use of no key, or of this one alone
abbrev pub IsNoUse : Entry → Type 0
IsNoUse entry = (q : List ℕ) → uses q entry ≡ false

abbrev pub IsUseOf : Entry → List ℕ → Type 0
IsUseOf entry key = (q : List ℕ) → uses q entry ≡ bytes_eq key q

-- ---- the cell of a key

pub cell_in_is : (keys : KeyTable) (plan : ShardPlan) (history : List Entry) (state : SequentialShard) (key : List ℕ) → FitsPlan keys plan → HasKeys keys history state.present → cell_in keys key ≡ cell_of_key plan state key
cell_in_is (Indices indices) plan history state key fits has = rw (fits.0, fits.1, fits.2) refl
cell_in_is (Hashed keys) plan history state key fits has = rw fits.0 (has.1 key)
cell_in_is (Recent keys) plan history state key fits has = rw fits.0 (sym (has.cells key))

-- of a map with keys
pub cell_in_present : (keys : KeyTable) (history : List Entry) (present : List PresentKey) (key : List ℕ) → IsKeyed keys → HasKeys keys history present → cell_in keys key ≡ cell_of_present present key
cell_in_present (Indices indices) history present key keyed has = absurd keyed
cell_in_present (Hashed keys) history present key keyed has = has.1 key
cell_in_present (Recent keys) history present key keyed has = sym (has.cells key)

pub keyed_kind : (keys : KeyTable) (plan : ShardPlan) → IsKeyed keys → FitsPlan keys plan → plan.definition.kind ≡ Array → ⊥
keyed_kind (Indices indices) plan keyed fits same = keyed
keyed_kind (Hashed keys) plan keyed fits same = let both = sym fits.0 ∙ same in cc
keyed_kind (Recent keys) plan keyed fits same = let both = sym fits.0 ∙ same in cc

-- ---- an entry that uses no key

pub keys_on : (keys : KeyTable) (entry : Entry) (older : List Entry) (present : List PresentKey) → IsNoUse entry → HasKeys keys older present → HasKeys keys (entry ∷ older) present
keys_on (Indices indices) entry older present none has = has
keys_on (Hashed keys) entry older present none has = has
keys_on (Recent keys) entry older present none has = by_use_on entry older present keys.entries has none

-- ---- a use of a key that is there

pub fits_touched : (keys : KeyTable) (plan : ShardPlan) (key : List ℕ) → FitsPlan keys plan → FitsPlan (touched_in key keys) plan
fits_touched (Indices indices) plan key fits = fits
fits_touched (Hashed keys) plan key fits = fits
fits_touched (Recent keys) plan key fits = fits

pub keys_touched : (keys : KeyTable) (entry : Entry) (older : List Entry) (present : List PresentKey) (key : List ℕ) (cell : ℕ) → IsUseOf entry key → cell_in keys key ≡ Some cell → HasKeys keys older present
    → HasKeys (touched_in key keys) (entry ∷ older) present
keys_touched (Indices indices) entry older present key cell used found has = has
keys_touched (Hashed keys) entry older present key cell used found has = has
keys_touched (Recent keys) entry older present key cell used found has = by_use_touched entry older present keys.entries has key used cell (has.cells key ∙ found)

-- ---- a new key

pub inserted_keyed : (keys keys_after : KeyTable) (key : List ℕ) (id : ℕ) → IsInserted key id keys keys_after → IsKeyed keys
inserted_keyed (Indices indices) keys_after key id inserted = inserted
inserted_keyed (Hashed keys) keys_after key id inserted = tt
inserted_keyed (Recent keys) keys_after key id inserted = tt

pub fits_inserted : (keys keys_after : KeyTable) (plan : ShardPlan) (key : List ℕ) (id : ℕ) → IsInserted key id keys keys_after → FitsPlan keys plan → FitsPlan keys_after plan
fits_inserted (Indices indices) keys_after plan key id inserted fits = absurd inserted
fits_inserted (Hashed keys) (Indices indices) plan key id inserted fits = absurd inserted
fits_inserted (Hashed keys) (Recent later) plan key id inserted fits = absurd inserted
fits_inserted (Hashed keys) (Hashed later) plan key id inserted fits = (fits.0, inserted.0 ∙ fits.1, inserted.1 ∙ fits.2)
fits_inserted (Recent keys) keys_after plan key id inserted fits = rw inserted fits

inserted_finds : (key q : List ℕ) (cell : ℕ) (test : Bool) (present : List PresentKey) (before : Option ℕ) → before ≡ cell_of_present present q →
    cond test (Some cell) before ≡ option_map (λ (found : PresentKey). found.cell) (cond test (Some (record { key = key; cell = cell })) (find (λ (one : PresentKey). bytes_eq one.key q) present))
inserted_finds key q cell true present before same = refl
inserted_finds key q cell false present before same = same

pub keys_inserted : (keys keys_after : KeyTable) (entry : Entry) (older : List Entry) (present : List PresentKey) (key : List ℕ) (id : ℕ) → IsUseOf entry key → cell_of_present present key ≡ None
    → AllByRecursion (λ (one : PresentKey). id ≡ one.cell → ⊥) present → IsInserted key id keys keys_after → HasKeys keys older present → HasKeys keys_after (entry ∷ older) (record { key = key; cell = id } ∷ present)
keys_inserted (Indices indices) keys_after entry older present key id used absent other inserted has = absurd inserted
keys_inserted (Hashed keys) (Indices indices) entry older present key id used absent other inserted has = absurd inserted
keys_inserted (Hashed keys) (Recent later) entry older present key id used absent other inserted has = absurd inserted
keys_inserted (Hashed keys) (Hashed later) entry older present key id used absent other inserted has = (
  inserted.2 ∙ ap (λ n. n + 1) has.0 ∙ omega arith,
  λ q. inserted.3 q ∙ inserted_finds key q id (bytes_eq key q) present (cell_of keys q) (has.1 q),
)
keys_inserted (Recent keys) keys_after entry older present key id used absent other inserted has = rw inserted (by_use_new entry older present keys.entries has key used id absent other)

-- ---- a key that goes

pub fits_removed : (keys keys_after : KeyTable) (plan : ShardPlan) (key : List ℕ) → IsRemoved key keys keys_after → FitsPlan keys plan → FitsPlan keys_after plan
fits_removed (Indices indices) keys_after plan key removed fits = absurd removed
fits_removed (Hashed keys) (Indices indices) plan key removed fits = absurd removed
fits_removed (Hashed keys) (Recent later) plan key removed fits = absurd removed
fits_removed (Hashed keys) (Hashed later) plan key removed fits = (fits.0, removed.0 ∙ fits.1, removed.1 ∙ fits.2)
fits_removed (Recent keys) keys_after plan key removed fits = rw removed fits

one_gone : (test : Bool) (count before : ℕ) → count + (if test then 1 else 0) ≡ before → test ≡ true → count + 1 ≡ before
one_gone true count before same is = same
one_gone false count before same is = cc

pub keys_removed : (keys keys_after : KeyTable) (history : List Entry) (present : List PresentKey) (key : List ℕ) (gone : PresentKey) → find (λ (one : PresentKey). bytes_eq one.key key) present ≡ Some gone
    → ArePairwise (λ (one other : PresentKey). one.key ≡ other.key → ⊥) present → ArePairwise (λ (one other : PresentKey). one.cell ≡ other.cell → ⊥) present
    → IsRemoved key keys keys_after → HasKeys keys history present → HasKeys keys_after history (filter (λ (one : PresentKey). not (one.cell == gone.cell)) present)
keys_removed (Indices indices) keys_after history present key gone found differ apart removed has = absurd removed
keys_removed (Hashed keys) (Indices indices) history present key gone found differ apart removed has = absurd removed
keys_removed (Hashed keys) (Recent later) history present key gone found differ apart removed has = absurd removed
keys_removed (Hashed keys) (Hashed later) history present key gone found differ apart removed has =
    let left : IsGone key gone present = key_gone key gone present found differ apart in
    let there : cell_of keys key ≡ Some gone.cell = has.1 key ∙ ap (option_map (λ (one : PresentKey). one.cell)) found in
    let counted : length later.entries + 1 ≡ length keys.entries = one_gone (is_some (cell_of keys key)) _ _ removed.2 (ap is_some there) in
    (omega (arith, counted, has.0, left.count), λ q. removed.3 q ∙ ap (cond (bytes_eq key q) None) (has.1 q) ∙ sym (left.finds q))
keys_removed (Recent keys) keys_after history present key gone found differ apart removed has = rw removed (by_use_removed history present keys.entries has key gone found)
