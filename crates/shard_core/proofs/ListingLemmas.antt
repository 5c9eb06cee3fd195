-- What the keys and the cells of a shard say of the values that its state has.
use Rattle.std.proofs.Common.{◌≡◌, ℕ, Bool, true, false, List, Option, Some, None, IsTrue, refl, sym, ap, ◌∙◌, subst}
use Rattle.std.specs.Prelude.{option_map, is_some, if◌then◌else◌}
use Rattle.std.specs.List.{All}
use Rattle.std.proofs.lemmas.Bool.{false≢true}
use Rattle.std.proofs.lemmas.List.Elements.{All-from_recursion}
use Rattle.ebpf_decode.specs.declared.map.MapKind.TheVariants.{Array}
use Rattle.semantics.specs.declared.call.Entry.{Entry}
use Rattle.semantics.specs.declared.plan.ShardPlan.{ShardPlan}
use Rattle.semantics.specs.PlanLimits.{IsPlan, IsIndexSize}
use Rattle.semantics.specs.History.{is_own_key, IsLegalHistory}
use Rattle.semantics.specs.SequentialShard.{SequentialShard, cell_of_present, cell_of_key, cell_bytes, shard_after}
use Rattle.semantics.proofs.shared.KeptLemmas.{found_kept}
use Rattle.map_cells.specs.CellTable.{CellTable, cell_of_id, is_kept_id, bytes_of_cell, bytes_of_id}
use Rattle.plain_maps.specs.Listed.{ListsAll}
use Rattle.plain_maps.proofs.shared.Listing.{each_found}
use Rattle.shard_core.specs.declared.keys.KeyTable.{KeyTable}
use Rattle.shard_core.specs.declared.keys.KeyTable.TheVariants.{Indices, Hashed, Recent}
use Rattle.shard_core.specs.KeyTables.{cell_there, CanBeListed, FitsPlan, HasKeys}
use Rattle.shard_core.specs.Sections.{epoch_at}
use Rattle.shard_core.specs.ShardFields.{IsContents}
use Rattle.shard_core.specs.Listing.{value_of_key}
use Rattle.shard_core.proofs.ContentLemmas.{kept_bytes}
use Rattle.shard_core.proofs.OwnKeyLemmas.{OwnKeys, own_after, found_own}

-- ---- the cell of a key that is there

of_four : (plan : ShardPlan) → IsPlan plan → plan.definition.kind ≡ Array → plan.definition.key_size ≡ 4
of_four plan is kind = subst (λ k. IsIndexSize k plan.definition.key_size) kind is.limits.index_size

keyed : (own : Bool) (cell : Option ℕ) → ((id : ℕ) → cell ≡ Some id → own ≡ true) → cell ≡ (if own then cell else None)
keyed true cell owns = refl
keyed false None owns = refl
keyed false (Some id) owns = absurd (false≢true (owns id refl))

pub there_is : (keys : KeyTable) (plan : ShardPlan) (history : List Entry) (state : SequentialShard) (key : List ℕ) → IsPlan plan → FitsPlan keys plan → HasKeys keys history state.present → OwnKeys plan state.present
    → cell_there keys plan.part key ≡ (if is_own_key plan key then cell_of_key plan state key else None)
there_is (Indices indices) plan history state key is fits has own = rw (of_four plan is fits.0, fits.0, fits.1, fits.2) refl
there_is (Hashed keys) plan history state key is fits has own =
    let cell : cell_of_key plan state key ≡ cell_of_present state.present key = rw fits.0 refl in
    rw (has.1 key, cell) (keyed (is_own_key plan key) (cell_of_present state.present key) (λ id found. found_own plan state.present key id own found))
there_is (Recent keys) plan history state key is fits has own =
    let cell : cell_of_key plan state key ≡ cell_of_present state.present key = rw fits.0 refl in
    rw (sym (has.cells key), cell) (keyed (is_own_key plan key) (cell_of_present state.present key) (λ id found. found_own plan state.present key id own found))

pub can_list : (keys : KeyTable) (plan : ShardPlan) → IsPlan plan → FitsPlan keys plan → CanBeListed keys plan.part
can_list (Indices indices) plan is fits = rw (fits.1, fits.2) (is.part, is.equal_parts)
can_list (Hashed keys) plan is fits = rw fits.1 is.limits.key_size
can_list (Recent keys) plan is fits = tt

-- ---- its bytes

module _ (plan : ShardPlan) (history : List Entry) (cells : CellTable) (keys : KeyTable) (is : IsPlan plan) (legal : IsLegalHistory plan history)
    (contents : IsContents plan (epoch_at plan history) history (shard_after plan history) cells keys) where
  found_bytes : (key : List ℕ) (cell : ℕ) → cell_of_key plan (shard_after plan history) key ≡ Some cell → cell_of_id cells cell ≡ Some (cell_bytes (shard_after plan history) cell)
  found_bytes key cell found =
      kept_bytes plan history (shard_after plan history) cells keys cell contents (found_kept plan.definition.kind plan history key cell refl is.equal_parts is.limits.some_part found)

  same_bytes_at : (key : List ℕ) (cell : Option ℕ) → cell_of_key plan (shard_after plan history) key ≡ cell → option_map (bytes_of_id cells) cell ≡ option_map (cell_bytes (shard_after plan history)) cell
  same_bytes_at key None found = refl
  same_bytes_at key (Some cell) found = ap (λ bytes. Some (bytes_of_cell bytes)) (found_bytes key cell found)

  there : (key : List ℕ) → cell_there keys plan.part key ≡ (if is_own_key plan key then cell_of_key plan (shard_after plan history) key else None)
  there key = there_is keys plan history (shard_after plan history) key is contents.fits contents.has (own_after plan history legal)

  -- the bytes of a key's cell are the value that the state has
  pub value_is : (key : List ℕ) → option_map (bytes_of_id cells) (cell_there keys plan.part key) ≡ value_of_key plan (shard_after plan history) key
  value_is key = ap (option_map (bytes_of_id cells)) (there key) ∙ by_test (is_own_key plan key)
    where
      by_test : (own : Bool) → option_map (bytes_of_id cells) (if own then cell_of_key plan (shard_after plan history) key else None)
          ≡ (if own then option_map (cell_bytes (shard_after plan history)) (cell_of_key plan (shard_after plan history) key) else None)
      by_test true = same_bytes_at key (cell_of_key plan (shard_after plan history) key) refl
      by_test false = refl

  found_there : (key : List ℕ) (cell : ℕ) → cell_there keys plan.part key ≡ Some cell → cell_of_key plan (shard_after plan history) key ≡ Some cell
  found_there key cell found = by_test (is_own_key plan key) (sym (there key) ∙ found)
    where
      by_test : (own : Bool) → (if own then cell_of_key plan (shard_after plan history) key else None) ≡ Some cell → cell_of_key plan (shard_after plan history) key ≡ Some cell
      by_test true is = is
      by_test false is = absurd (cc is)

  -- each cell that is listed is kept
  pub all_kept : (listed : List (List ℕ × ℕ)) → ListsAll (cell_there keys plan.part) listed → All (λ (entry : List ℕ × ℕ). IsTrue (is_kept_id cells entry.1)) listed
  all_kept listed lists =
      All-from_recursion (λ (entry : List ℕ × ℕ). IsTrue (is_kept_id cells entry.1)) listed
      (each_found (λ cell. IsTrue (is_kept_id cells cell)) listed lists.apart
      (λ key cell found. ap is_some (found_bytes key cell (found_there key cell (sym (lists.each key) ∙ found)))))
