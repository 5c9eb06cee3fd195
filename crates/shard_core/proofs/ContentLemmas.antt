-- What each change leaves of cells and keys.
use Rattle.std.proofs.Common.{◌≡◌, ◌⊎◌, ℕ, ◌+◌, ◌-◌, ◌<◌, Bool, true, false, ◌||◌, nat_lt, List, [], ◌∷◌, length, Option, Some, None, arith, refl, sym, ◌∙◌, ap, subst, inl, inr}
use Rattle.std.specs.Prelude.{◌==◌, IsTrue}
use Rattle.std.specs.List.{AllByRecursion, list_any}
use Rattle.std.proofs.lemmas.List.{replicate_more, length-set, length-append}
use Rattle.std.proofs.lemmas.Bool.Decides.{nat_tests}
use Rattle.ebpf_decode.specs.declared.map.MapKind.{MapKind}
use Rattle.ebpf_decode.specs.declared.map.MapKind.TheVariants.{Array, Hash, LruHash}
use Rattle.semantics.specs.declared.call.Caller.{Caller}
use Rattle.semantics.specs.declared.call.Call.TheVariants.{Lookup}
use Rattle.semantics.specs.declared.call.Reply.{Reply}
use Rattle.semantics.specs.declared.call.Reply.TheVariants.{Null}
use Rattle.semantics.specs.declared.call.Entry.{Entry}
use Rattle.semantics.specs.declared.plan.ShardPlan.{ShardPlan}
use Rattle.semantics.specs.declared.plan.PresentKey.{PresentKey}
use Rattle.semantics.specs.declared.plan.RetiredCell.{RetiredCell}
use Rattle.semantics.specs.SequentialShard.{SequentialShard, cell_of_present, cell_bytes, with_cell, with_new_key, is_kept, is_kept_of_kind, lookup_reply}
use Rattle.map_cells.specs.CellTable.{CellTable, cell_of_id, with_new_cell, with_bytes}
use Rattle.lru_maps.proofs.shared.ByUse.{use_by_lookup, no_use_by_lookup}
use Rattle.shard_core.specs.declared.keys.KeyTable.{KeyTable}
use Rattle.shard_core.specs.KeyTables.{cell_in, touched_in, FitsPlan, HasKeys, IsInserted}
use Rattle.shard_core.specs.Contents.{filled_table}
use Rattle.shard_core.specs.ShardFields.{HasAllPlaces, IsContents}
use Rattle.shard_core.proofs.MirrorLemmas.{within_table, mirrors_set, mirrors_push}
use Rattle.shard_core.proofs.KeyLemmas.{IsNoUse, IsUseOf, keyed_kind, keys_on, fits_touched, keys_touched, inserted_keyed, fits_inserted, keys_inserted}

-- ---- the opening

pub one_more_filled : (value : List ℕ) (places ids count : ℕ) → with_new_cell (filled_table value places ids count) value ≡ filled_table value places ids (count + 1)
one_more_filled value places ids count =
    let left : places - count - 1 ≡ places - (count + 1) = omega arith in
    rw (left, replicate_more count (Some value)) refl

-- ---- the same cells

pub contents_with : (plan : ShardPlan) {epochs : ℕ → ℕ} (history later : List Entry) (state : SequentialShard) (cells : CellTable) (keys keys_after : KeyTable) → IsContents plan epochs history state cells keys → FitsPlan keys_after plan → HasKeys keys_after later state.present
    → IsContents plan epochs later state cells keys_after
contents_with plan history later state cells keys keys_after contents fits has = record {
  sized = contents.sized;
  counted = contents.counted;
  mirrored = contents.mirrored;
  retired = contents.retired;
  id_room = contents.id_room;
  balance = contents.balance;
  fits = fits;
  has = has;
}

-- after an entry that uses no key
pub contents_on : (plan : ShardPlan) {epochs : ℕ → ℕ} (entry : Entry) (history : List Entry) (state : SequentialShard) (cells : CellTable) (keys : KeyTable) → IsNoUse entry → IsContents plan epochs history state cells keys → IsContents plan epochs (entry ∷ history) state cells keys
contents_on plan entry history state cells keys none contents =
    contents_with plan history (entry ∷ history) state cells keys keys contents contents.fits (keys_on keys entry history state.present none contents.has)

-- and after a Lookup
pub contents_looked : (plan : ShardPlan) {epochs : ℕ → ℕ} (who : Caller) (number : ℕ) (key : List ℕ) (found : Option ℕ) (history : List Entry) (state : SequentialShard) (cells : CellTable) (keys keys_after : KeyTable) → found ≡ cell_in keys key → keys_after ≡ touched_in key keys
    → (found ≡ None → keys_after ≡ keys) → IsContents plan epochs history state cells keys → IsContents plan epochs (record { who = who; call = Lookup number key; reply = lookup_reply plan found } ∷ history) state cells keys_after
contents_looked plan who number key None history state cells keys keys_after is touched unchanged contents =
    rw (unchanged refl) (contents_on plan (record { who = who; call = Lookup number key; reply = Null }) history state cells keys (λ q. no_use_by_lookup q key number Null refl) contents)
contents_looked plan who number key (Some cell) history state cells keys keys_after is touched unchanged contents =
    let reply : Reply = lookup_reply plan (Some cell) in
    let entry : Entry = record { who = who; call = Lookup number key; reply = lookup_reply plan (Some cell) } in
    rw touched (contents_with plan history (entry ∷ history) state cells keys (touched_in key keys) contents (fits_touched keys plan key contents.fits)
    (keys_touched keys entry history state.present key cell (λ q. use_by_lookup q key number reply refl) (sym is) contents.has))

-- ---- a kept cell is read

pub kept_bytes : (plan : ShardPlan) {epochs : ℕ → ℕ} (history : List Entry) (state : SequentialShard) (cells : CellTable) (keys : KeyTable) (cell : ℕ) → IsContents plan epochs history state cells keys → IsTrue (is_kept plan state cell) → cell_of_id cells cell ≡ Some (cell_bytes state cell)
kept_bytes plan history state cells keys cell contents kept = contents.mirrored cell kept

-- ---- and written

kept_of_written : (kind : MapKind) (state : SequentialShard) (cell : ℕ) (bytes : List ℕ) (id : ℕ) → IsTrue (is_kept_of_kind kind (with_cell state cell bytes) id) → IsTrue (is_kept_of_kind kind state id)
kept_of_written Array state cell bytes id kept = subst (λ count. nat_lt id count ≡ true) (length-set state.cells cell bytes) kept
kept_of_written Hash state cell bytes id kept = kept
kept_of_written LruHash state cell bytes id kept = kept

balance_of_written : (kind : MapKind) (plan : ShardPlan) (state : SequentialShard) (cells : CellTable) (cell : ℕ) (bytes : List ℕ) → HasAllPlaces kind plan state cells → HasAllPlaces kind plan (with_cell state cell bytes) (with_bytes cells cell bytes)
balance_of_written Array plan state cells cell bytes balance = tt
balance_of_written Hash plan state cells cell bytes balance = balance
balance_of_written LruHash plan state cells cell bytes balance = balance

pub contents_written : (plan : ShardPlan) {epochs : ℕ → ℕ} (history later : List Entry) (state : SequentialShard) (cells : CellTable) (keys keys_after : KeyTable) (cell : ℕ) (bytes : List ℕ) → IsTrue (is_kept plan state cell) → IsContents plan epochs history state cells keys
    → FitsPlan keys_after plan → HasKeys keys_after later state.present → IsContents plan epochs later (with_cell state cell bytes) (with_bytes cells cell bytes) keys_after
contents_written plan history later state cells keys keys_after cell bytes kept contents fits has =
    let within : cell < length cells.cells = within_table cells.cells cell (cell_bytes state cell) (contents.mirrored cell kept) in
    record {
      sized = contents.sized;
      counted = length-set cells.cells cell (Some bytes) ∙ contents.counted ∙ sym (length-set state.cells cell bytes);
      mirrored = mirrors_set (is_kept plan state) (is_kept plan (with_cell state cell bytes)) cells.cells state.cells cell bytes contents.counted within
          (kept_of_written plan.definition.kind state cell bytes) contents.mirrored;
      retired = contents.retired;
      id_room = contents.id_room;
      balance = balance_of_written plan.definition.kind plan state cells cell bytes contents.balance;
      fits = fits;
      has = has;
    }

-- ---- a new key

kept_of_new : (state : SequentialShard) (key value : List ℕ) (id : ℕ) → IsTrue (is_kept_of_kind Hash (with_new_key state key value) id) → IsTrue (is_kept_of_kind Hash state id) ⊎ (id ≡ length state.cells)
kept_of_new state key value id kept = by_test (length state.cells == id) refl kept
  where
    by_test : (test : Bool) → (length state.cells == id) ≡ test
        → ((test || list_any (λ (one : PresentKey). one.cell == id) state.present) || list_any (λ (one : RetiredCell). one.cell == id) state.retired) ≡ true
        → IsTrue (is_kept_of_kind Hash state id) ⊎ (id ≡ length state.cells)
    by_test true is kept = inr (grind (arith, nat_tests))
    by_test false is kept = inl kept

kept_of_created : (kind : MapKind) (state : SequentialShard) (key value : List ℕ) (id : ℕ) → (kind ≡ Array → ⊥) → IsTrue (is_kept_of_kind kind (with_new_key state key value) id) → IsTrue (is_kept_of_kind kind state id) ⊎ (id ≡ length state.cells)
kept_of_created Array state key value id keyed kept = absurd (keyed refl)
kept_of_created Hash state key value id keyed kept = kept_of_new state key value id kept
kept_of_created LruHash state key value id keyed kept = kept_of_new state key value id kept

balance_of_created : (kind : MapKind) (plan : ShardPlan) (state : SequentialShard) (cells : CellTable) (key value : List ℕ) → (kind ≡ Array → ⊥) → 0 < cells.free → HasAllPlaces kind plan state cells
    → HasAllPlaces kind plan (with_new_key state key value) (with_new_cell cells value)
balance_of_created Array plan state cells key value keyed free balance = absurd (keyed refl)
balance_of_created Hash plan state cells key value keyed free balance = (balance.0, omega (arith, free, balance.1))
balance_of_created LruHash plan state cells key value keyed free balance = (balance.0, omega (arith, free, balance.1))

pub contents_created : (plan : ShardPlan) {epochs : ℕ → ℕ} (entry : Entry) (history : List Entry) (state : SequentialShard) (cells : CellTable) (keys keys_after : KeyTable) (key value : List ℕ) → 0 < cells.free → IsUseOf entry key
    → cell_of_present state.present key ≡ None → AllByRecursion (λ (one : PresentKey). length state.cells ≡ one.cell → ⊥) state.present
    → IsInserted key (length cells.cells) keys keys_after → IsContents plan epochs history state cells keys
    → IsContents plan epochs (entry ∷ history) (with_new_key state key value) (with_new_cell cells value) keys_after
contents_created plan entry history state cells keys keys_after key value free used absent other inserted contents =
    let keyed : plan.definition.kind ≡ Array → ⊥ = keyed_kind keys plan (inserted_keyed keys keys_after key (length cells.cells) inserted) contents.fits in
    record {
      sized = contents.sized;
      counted = length-append cells.cells (Some value ∷ []) ∙ ap (λ n. n + 1) contents.counted ∙ sym (length-append state.cells (value ∷ []));
      mirrored = mirrors_push (is_kept plan state) (is_kept plan (with_new_key state key value)) cells.cells state.cells value contents.counted
          (λ id. kept_of_created plan.definition.kind state key value id keyed) contents.mirrored;
      retired = contents.retired;
      id_room = contents.id_room;
      balance = balance_of_created plan.definition.kind plan state cells key value keyed free contents.balance;
      fits = fits_inserted keys keys_after plan key (length cells.cells) inserted contents.fits;
      has = keys_inserted keys keys_after entry history state.present key (length state.cells) used absent other (subst (λ id. IsInserted key id keys keys_after) contents.counted inserted) contents.has;
    }
