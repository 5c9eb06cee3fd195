-- What a map, or one shard of it, holds after its calls, as one list, whatever the map's kind: each key that is there with the bytes of its
-- value, in the order of the keys.
use Rattle.std.specs.Prelude.{◌≡◌, ℕ, List, reverse, Option, None, option_map, bytes_eq, if◌then◌else◌}
use Rattle.std.specs.Ordering.{on, nat_cmp}
use Rattle.std.specs.declared.cmp.Ordering.{Ordering}
use Rattle.std.specs.Cmp.Lexicographic.{slice_cmp}
use Rattle.std.specs.List.Sorted.{IsStrictlySortedBy}
use Rattle.std.specs.Map.{lookup, keys_of}
use Rattle.ebpf_decode.specs.declared.map.MapKind.{MapKind}
use Rattle.ebpf_decode.specs.declared.map.MapKind.TheVariants.{Array}
use Rattle.semantics.specs.declared.plan.ShardPlan.{ShardPlan}
use Rattle.semantics.specs.SequentialShard.{SequentialShard, cell_of_key, cell_bytes}
use Rattle.semantics.specs.History.{is_own_key}
use Rattle.shard_core.specs.JournaledShard.{JournaledShard, state_of}

-- the value that a key of the shard has in a state; none where the shard lacks the key, or where the key is no key of this shard
abbrev pub value_of_key : ShardPlan → SequentialShard → List ℕ → Option (List ℕ)
value_of_key plan state key = if is_own_key plan key then option_map (cell_bytes state) (cell_of_key plan state key) else None

-- the bytes that order a map's keys: of an array those of the index from the highest on, which is last in the key
abbrev pub ordering_bytes : MapKind → List ℕ → List ℕ
ordering_bytes Array key = reverse key
ordering_bytes kind key = key

-- the order of a map's keys: an array's by their index, others byte by byte
abbrev pub key_order : MapKind → List ℕ → List ℕ → Ordering
key_order kind = on (ordering_bytes kind) (slice_cmp nat_cmp)

-- the entries are all that there are: their keys rise, and each key has its value there, or is absent where it has none
pub record AreContents (kind : MapKind) (value : List ℕ → Option (List ℕ)) (entries : List (List ℕ × List ℕ)) : Type 0 where
  pub rising : IsStrictlySortedBy (key_order kind) (keys_of entries)
  pub each : (key : List ℕ) → lookup (bytes_eq key) entries ≡ value key

-- all that the shard holds in the state that its journal leads to
abbrev pub AreContentsOfShard : JournaledShard → List (List ℕ × List ℕ) → Type 0
AreContentsOfShard shard entries = AreContents shard.plan.definition.kind (value_of_key shard.plan (state_of shard)) entries

-- ---- law

-- there is one such list
abbrev pub ContentsAreOne : Type 0
ContentsAreOne =
    (kind : MapKind) (value : List ℕ → Option (List ℕ)) (one other : List (List ℕ × List ℕ)) →
    AreContents kind value one → AreContents kind value other → one ≡ other
