-- What an Update and a Delete ask of cells and keys, and leave of them.
use Rattle.std.proofs.Common.{◌≡◌, ◌≢◌, ◌⊎◌, ℕ, zero, suc, ◌+◌, ◌*◌, ◌/◌, ◌%◌, ◌<◌, ◌≤◌, Bool, true, false, cond, not, nat_lt, nat_le, ℤ, pos, negsuc, List, [], ◌∷◌, length, Option, Some, None, arith, refl, sym, ◌∙◌, ap, subst, inl, inr}
use Rattle.std.specs.Prelude.{◌==◌, ◌&&◌, IsTrue, is_some, filter, find, option_map, bytes_eq, if◌then◌else◌}
use Rattle.std.specs.List.{AllByRecursion}
use Rattle.std.proofs.lemmas.Nat.{div-add-mod'}
use Rattle.std.proofs.lemmas.Bool.{lt-ltb, le-ltb}
use Rattle.std.proofs.lemmas.Bool.Decides.{nat_tests}
use Rattle.ebpf_decode.specs.declared.map.MapKind.{MapKind}
use Rattle.ebpf_decode.specs.declared.map.MapKind.TheVariants.{Array, Hash, LruHash}
use Rattle.semantics.specs.declared.call.Caller.{Caller}
use Rattle.semantics.specs.declared.call.Call.TheVariants.{Update, Delete, Reclaim}
use Rattle.semantics.specs.declared.call.Reply.TheVariants.{Answer}
use Rattle.semantics.specs.declared.call.Entry.{Entry}
use Rattle.semantics.specs.declared.plan.ShardPlan.{ShardPlan}
use Rattle.semantics.specs.declared.plan.PresentKey.{PresentKey}
use Rattle.semantics.specs.declared.plan.RetiredCell.{RetiredCell}
use Rattle.semantics.specs.declared.linux.Errno.TheVariants.{TooBig, NoMemory, Invalid}
use Rattle.semantics.specs.declared.linux.UpdateFlags.{UpdateFlags}
use Rattle.semantics.specs.declared.linux.UpdateFlags.TheVariants.{Any, NoExist, Exist}
use Rattle.semantics.specs.Linux.{errno_code, success, update_flags_of}
use Rattle.semantics.specs.ShardPlan.{capacity}
use Rattle.semantics.specs.PlanLimits.{IsPlan}
use Rattle.semantics.specs.Reclamation.{is_reclaimable}
use Rattle.semantics.specs.LeastRecentlyUsed.{is_done, least_recently_used}
use Rattle.semantics.specs.SequentialShard as S
use Rattle.semantics.specs.SequentialShard.{SequentialShard, opening_cells, cell_of_present, cell_of_key, with_new_key, with_value, without_found, after_eviction, updated_where, is_hash, is_full_of_keys, has_free_cell, update_answer_by, update_answer, delete_answer_of_kind, delete_answer, present_key, reclaimable_cells, shard_after_call, shard_after, is_kept}
use Rattle.semantics.specs.History.{IsLegalHistory}
use Rattle.semantics.proofs.shared.HoldingLemmas.{each_weaker, each_find, IsSound, sound_after, array_after}
use Rattle.semantics.proofs.shared.KeptLemmas.{found_kept}
use Rattle.semantics.proofs.shared.IdLemmas.{ids_are_few}
use Rattle.semantics.proofs.shared.UseLemmas.{keys_differ, first_parts}
use Rattle.map_cells.specs.CellTable.{CellTable, with_retired, is_below, freed_below}
use Rattle.map_cells.specs.CellTable as T
use Rattle.lru_maps.specs.LruTable.{LruTable, last_of, without_victim}
use Rattle.lru_maps.specs.ByUse.{IsByUse}
use Rattle.lru_maps.proofs.shared.ByUse.{victim_found, victim_is_least, by_use_evicted, use_by_update, no_use_by_update}
use Rattle.shard_core.specs.declared.keys.KeyTable.{KeyTable}
use Rattle.shard_core.specs.declared.keys.KeyTable.TheVariants.{Indices, Hashed, Recent}
use Rattle.shard_core.specs.KeyTables.{cell_in, FitsPlan, IsKeyed, IsRemoved, IsInserted, touched_in, is_full_of, victim_cell, without_victim_in}
use Rattle.shard_core.specs.Sections.{ReaderEpochs, with_epoch_after, retires, epoch_at, readers_of}
use Rattle.shard_core.specs.Contents.{CanCreate, CanRetire, IsPut, with_evicted}
use Rattle.shard_core.specs.ShardFields.{waiting, HasAllPlaces, IsContents}
use Rattle.shard_core.proofs.EpochLemmas.{EndsEpoch, IsFloorOf, with_retirement, epochs_end, stamps_given, each_of_both, floor_tells}
use Rattle.shard_core.proofs.StateLemmas.{apart_after, key_gone, IsGone}
use Rattle.shard_core.proofs.KeyLemmas.{IsNoUse, IsUseOf, keyed_kind, cell_in_is, cell_in_present, fits_touched, keys_touched, fits_removed, keys_removed}
use Rattle.shard_core.proofs.ContentLemmas.{contents_on, contents_written, contents_created}
use Rattle.shard_core.proofs.RetireLemmas.{oldest_count, not_retired, latest_stamp, contents_retired, contents_freed, IsFloorFor, freed_are}
use Rattle.shard_core.proofs.StepLemmas.{table_keeps}

-- ---- answers of 0

none_left : (answer : ℤ) (updated state : SequentialShard) → answer ≢ pos 0 → updated_where answer updated state ≡ state
none_left (pos zero) updated state other = absurd (other refl)
none_left (pos (suc n)) updated state other = let some : (suc n == 0) ≡ false = grind (arith, nat_tests) in rw some refl
none_left (negsuc n) updated state other = refl

zero_or_other : (answer : ℤ) → (answer ≡ pos 0) ⊎ (answer ≢ pos 0)
zero_or_other (pos zero) = inl refl
zero_or_other (pos (suc n)) = inr (λ same. cc)
zero_or_other (negsuc n) = inr (λ same. cc)

new_zero : (hash full free : Bool) → hash ≡ true → (if hash && full then errno_code TooBig else (if free then success else errno_code NoMemory)) ≡ pos 0 → (full ≡ false) × (free ≡ true)
new_zero true true free is answer = cc
new_zero true false true is answer = (refl, refl)
new_zero true false false is answer = cc
new_zero false full free is answer = cc

new_free : (hash full free : Bool) → (if hash && full then errno_code TooBig else (if free then success else errno_code NoMemory)) ≡ pos 0 → free ≡ true
new_free true true free answer = cc
new_free true false true answer = refl
new_free true false false answer = cc
new_free false full true answer = refl
new_free false full false answer = cc

-- a new key had a free cell
keyed_zero : (kind : MapKind) (plan : ShardPlan) (state : SequentialShard) (flags : UpdateFlags) → (kind ≡ Array → ⊥) → update_answer_by kind plan state (Some flags) None ≡ pos 0 → has_free_cell plan state ≡ true
keyed_zero Array plan state flags keyed answer = absurd (keyed refl)
keyed_zero Hash plan state Any keyed answer = new_free (is_hash plan.definition.kind) (is_full_of_keys plan state) (has_free_cell plan state) answer
keyed_zero Hash plan state NoExist keyed answer = new_free (is_hash plan.definition.kind) (is_full_of_keys plan state) (has_free_cell plan state) answer
keyed_zero Hash plan state Exist keyed answer = cc
keyed_zero LruHash plan state Any keyed answer = new_free (is_hash plan.definition.kind) (is_full_of_keys plan state) (has_free_cell plan state) answer
keyed_zero LruHash plan state NoExist keyed answer = new_free (is_hash plan.definition.kind) (is_full_of_keys plan state) (has_free_cell plan state) answer
keyed_zero LruHash plan state Exist keyed answer = cc

known_flags : (kind : MapKind) (plan : ShardPlan) (state : SequentialShard) (flags : Option UpdateFlags) → (kind ≡ Array → ⊥) → update_answer_by kind plan state flags None ≡ pos 0 → has_free_cell plan state ≡ true
known_flags kind plan state None keyed answer = cc
known_flags kind plan state (Some flags) keyed answer = keyed_zero kind plan state flags keyed answer

-- a hash shard was not full
hash_zero : (plan : ShardPlan) (state : SequentialShard) (flags : Option UpdateFlags) → plan.definition.kind ≡ Hash → update_answer_by Hash plan state flags None ≡ pos 0 → (is_full_of_keys plan state ≡ false) × (has_free_cell plan state ≡ true)
hash_zero plan state None is answer = cc
hash_zero plan state (Some Any) is answer = new_zero (is_hash plan.definition.kind) (is_full_of_keys plan state) (has_free_cell plan state) (ap is_hash is) answer
hash_zero plan state (Some NoExist) is answer = new_zero (is_hash plan.definition.kind) (is_full_of_keys plan state) (has_free_cell plan state) (ap is_hash is) answer
hash_zero plan state (Some Exist) is answer = cc

array_zero : (plan : ShardPlan) (state : SequentialShard) (flags : Option UpdateFlags) → update_answer_by Array plan state flags None ≡ pos 0 → ⊥
array_zero plan state None answer = cc
array_zero plan state (Some Any) answer = cc
array_zero plan state (Some NoExist) answer = cc
array_zero plan state (Some Exist) answer = cc

-- the answer to an absent key, by the kind
absent_answer : (kind : MapKind) (plan : ShardPlan) (state : SequentialShard) (key : List ℕ) (flags : ℕ) → plan.definition.kind ≡ kind → cell_of_key plan state key ≡ None → update_answer plan state key flags ≡ update_answer_by kind plan state (update_flags_of flags) None
absent_answer kind plan state key flags is absent =
    ap (λ k. update_answer_by k plan state (update_flags_of flags) (cell_of_key plan state key)) is
    ∙ ap (λ cell. update_answer_by kind plan state (update_flags_of flags) cell) absent

-- ---- an Update

pub put_kept : (plan : ShardPlan) (history : List Entry) (cells : CellTable) (keys : KeyTable) (key : List ℕ) (cell : ℕ) → IsPlan plan → IsContents plan (epoch_at plan history) history (shard_after plan history) cells keys
    → cell_in keys key ≡ Some cell → IsTrue (T.is_kept_id cells cell)
put_kept plan history cells keys key cell is contents found =
    table_keeps plan history (shard_after plan history) cells keys cell contents
    (found_kept plan.definition.kind plan history key cell refl is.equal_parts is.limits.some_part (sym (cell_in_is keys plan history (shard_after plan history) key contents.fits contents.has) ∙ found))

-- a key that is found is present
found_by : (cell : ℕ) (found : Option PresentKey) → option_map (λ (one : PresentKey). one.cell) found ≡ Some cell → (gone : PresentKey) × (found ≡ Some gone) × (gone.cell ≡ cell)
found_by cell None is = absurd cc
found_by cell (Some gone) is = (gone, refl, cc)

some_present : (key : List ℕ) (gone : PresentKey) (present : List PresentKey) → find (λ (one : PresentKey). bytes_eq one.key key) present ≡ Some gone → 1 ≤ length present
some_present key gone [] found = absurd cc
some_present key gone (one ∷ rest) found = omega arith

keyed_balance : (kind : MapKind) (plan : ShardPlan) (state : SequentialShard) (cells : CellTable) → (kind ≡ Array → ⊥) → HasAllPlaces kind plan state cells
    → (cells.places ≡ 2 * capacity plan) × (cells.free + (length state.present + length state.retired) ≡ 2 * capacity plan)
keyed_balance Array plan state cells keyed balance = absurd (keyed refl)
keyed_balance Hash plan state cells keyed balance = balance
keyed_balance LruHash plan state cells keyed balance = balance

-- the cell of a key that is there can be retired
can_retire_by : (plan : ShardPlan) (history : List Entry) (cells : CellTable) (keys : KeyTable) (key : List ℕ) (cell : ℕ) → IsKeyed keys → IsPlan plan → IsContents plan (epoch_at plan history) history (shard_after plan history) cells keys
    → cell_in keys key ≡ Some cell → CanRetire cells cell (readers_of plan history).present
can_retire_by plan history cells keys key cell keyed is contents found =
    let balance = keyed_balance plan.definition.kind plan (shard_after plan history) cells (keyed_kind keys plan keyed contents.fits) contents.balance in
    let by = found_by cell (find (λ (one : PresentKey). bytes_eq one.key key) (shard_after plan history).present) (sym (cell_in_present keys history (shard_after plan history).present key keyed contents.has) ∙ found) in
    let some : 1 ≤ length (shard_after plan history).present = some_present key by.0 (shard_after plan history).present by.1 in
    let apart : AllByRecursion (λ (old : RetiredCell). by.0.cell ≡ old.cell → ⊥) (shard_after plan history).retired =
    each_find (λ (one : PresentKey). AllByRecursion (λ (old : RetiredCell). one.cell ≡ old.cell → ⊥) (shard_after plan history).retired) (λ (one : PresentKey). bytes_eq one.key key) (shard_after plan history).present by.0 (sound_after plan history).apart by.1 in
    let waits : length cells.retired ≡ length (shard_after plan history).retired = ap length contents.retired ∙ oldest_count (epoch_at plan history) (shard_after plan history).retired in
    record {
      kept = put_kept plan history cells keys key cell is contents found;
      once = not_retired (epoch_at plan history) cell cells (shard_after plan history).retired contents.retired
          (each_weaker (λ (old : RetiredCell). by.0.cell ≡ old.cell → ⊥) (λ (old : RetiredCell). old.cell ≡ cell → ⊥) (λ old other same. other (by.2 ∙ sym same)) (shard_after plan history).retired apart);
      room = omega (arith, waits, some, balance.0, balance.1);
      latest = latest_stamp (epoch_at plan history) (epoch_at plan history (length history)) cells (shard_after plan history).retired contents.retired (stamps_given plan history);
    }

free_by : (plan : ShardPlan) (history : List Entry) (cells : CellTable) (keys : KeyTable) (key : List ℕ) (flags : ℕ) → IsKeyed keys → IsContents plan (epoch_at plan history) history (shard_after plan history) cells keys
    → update_answer plan (shard_after plan history) key flags ≡ pos 0 → cell_of_key plan (shard_after plan history) key ≡ None → 0 < cells.free
free_by plan history cells keys key flags keyed contents done absent =
    let kind : plan.definition.kind ≡ Array → ⊥ = keyed_kind keys plan keyed contents.fits in
    let balance = keyed_balance plan.definition.kind plan (shard_after plan history) cells kind contents.balance in
    let free : has_free_cell plan (shard_after plan history) ≡ true = known_flags plan.definition.kind plan (shard_after plan history) (update_flags_of flags) kind
    (sym (absent_answer plan.definition.kind plan (shard_after plan history) key flags refl absent) ∙ done) in
    let unused : length (shard_after plan history).present + length (shard_after plan history).retired < 2 * capacity plan = grind (arith, nat_tests) in
    omega (arith, balance.1, unused)

ids_by : (plan : ShardPlan) (history : List Entry) (cells : CellTable) (keys : KeyTable) → IsContents plan (epoch_at plan history) history (shard_after plan history) cells keys → length history < plan.reserve → length cells.cells < cells.ids
ids_by plan history cells keys contents room =
    let few : length (shard_after plan history).cells ≤ length (opening_cells plan.definition.kind plan) + length history = ids_are_few plan history in
    omega (arith, few, room, contents.counted, contents.id_room)

-- what goes for a new key is the last key
victim_is : (keys : LruTable) (cell : ℕ) → victim_cell (Recent keys) ≡ Some cell → (key : List ℕ) × (last_of keys.entries ≡ Some (key, cell))
victim_is keys cell found = by_full (is_full_of keys) found
  where
    by_last : (last : Option (List ℕ × ℕ)) → last_of keys.entries ≡ last → option_map (λ (entry : List ℕ × ℕ). entry.1) last ≡ Some cell → (key : List ℕ) × (last_of keys.entries ≡ Some (key, cell))
    by_last None is found = absurd cc
    by_last (Some entry) is found = let same : entry.1 ≡ cell = cc in (entry.0, is ∙ ap (λ id. Some (entry.0, id)) same)

    by_full : (full : Bool) → (if full then option_map (λ (entry : List ℕ × ℕ). entry.1) (last_of keys.entries) else None) ≡ Some cell → (key : List ℕ) × (last_of keys.entries ≡ Some (key, cell))
    by_full true found = by_last (last_of keys.entries) refl found
    by_full false found = absurd cc

-- the last key is found with its cell
last_cell : (keys : LruTable) (history : List Entry) (present : List PresentKey) (key : List ℕ) (id : ℕ) → IsByUse history present keys.entries → last_of keys.entries ≡ Some (key, id) → cell_in (Recent keys) key ≡ Some id
last_cell keys history present key id has last = sym (has.cells key) ∙ ap (option_map (λ (one : PresentKey). one.cell)) (victim_found history present keys.entries has key id last)

room_by : (plan : ShardPlan) (history : List Entry) (cells : CellTable) (keys : KeyTable) (key : List ℕ) (flags : ℕ) → IsPlan plan → IsContents plan (epoch_at plan history) history (shard_after plan history) cells keys
    → length history < plan.reserve → update_answer plan (shard_after plan history) key flags ≡ pos 0 → cell_of_key plan (shard_after plan history) key ≡ None → CanCreate cells keys (readers_of plan history).present
room_by plan history cells (Indices indices) key flags is contents room done absent =
    absurd (array_zero plan (shard_after plan history) (update_flags_of flags) (sym (absent_answer Array plan (shard_after plan history) key flags contents.fits.0 absent) ∙ done))
room_by plan history cells (Hashed table) key flags is contents room done absent =
    let tests = hash_zero plan (shard_after plan history) (update_flags_of flags) contents.fits.0 (sym (absent_answer Hash plan (shard_after plan history) key flags contents.fits.0 absent) ∙ done) in
    let below : length (shard_after plan history).present < capacity plan = grind (arith, nat_tests, tests.0) in
    record {
      free = free_by plan history cells (Hashed table) key flags tt contents done absent;
      ids = ids_by plan history cells (Hashed table) contents room;
      room = omega (arith, below, contents.has.0, contents.fits.2);
      victim = (λ cell none. absurd cc);
    }
room_by plan history cells (Recent table) key flags is contents room done absent = record {
  free = free_by plan history cells (Recent table) key flags tt contents done absent;
  ids = ids_by plan history cells (Recent table) contents room;
  room = tt;
  victim = (λ cell found. let last = victim_is table cell found in
      can_retire_by plan history cells (Recent table) last.0 cell tt is contents (last_cell table history (shard_after plan history).present last.0 cell contents.has last.1));
}

pub put_room : (plan : ShardPlan) (history : List Entry) (cells : CellTable) (keys : KeyTable) (key : List ℕ) (flags : ℕ) (code : ℤ) (readers : ReaderEpochs) → IsPlan plan → IsContents plan (epoch_at plan history) history (shard_after plan history) cells keys
    → length history < plan.reserve → readers ≡ readers_of plan history → code ≡ update_answer plan (shard_after plan history) key flags → code ≡ pos 0 → cell_in keys key ≡ None → CanCreate cells keys readers.present
put_room plan history cells keys key flags code readers is contents room are answered done absent =
    rw are (room_by plan history cells keys key flags is contents room (sym answered ∙ done) (sym (cell_in_is keys plan history (shard_after plan history) key contents.fits contents.has) ∙ absent))

-- ---- a new key in a full LRU shard

abbrev of_last : List ℕ → ℕ → PresentKey
of_last key id = record { key = key; cell = id }

contents_evicted : (epochs : ℕ → ℕ) (plan : ShardPlan) (history : List Entry) (state : SequentialShard) (cells : CellTable) (keys : LruTable) (key : List ℕ) (id place : ℕ) → last_of keys.entries ≡ Some (key, id) → IsContents plan epochs history state cells (Recent keys)
    → IsContents plan epochs history (S.without_key state place (of_last key id)) (with_retired cells id (epochs place)) (Recent (without_victim keys))
contents_evicted epochs plan history state cells keys key id place last contents =
    contents_retired epochs plan history state cells (Recent keys) (Recent (without_victim keys)) key (of_last key id) place tt (victim_found history state.present keys.entries contents.has key id last)
    contents.has.keys_apart contents.has.cells_apart contents contents.fits (by_use_evicted history state.present keys.entries contents.has key id last)

some_last : (entries : List (List ℕ × ℕ)) → 0 < length entries → (key : List ℕ) × (id : ℕ) × (last_of entries ≡ Some (key, id))
some_last [] some = absurd (omega (arith, some))
some_last (entry ∷ []) some = (entry.0, entry.1, refl)
some_last (entry ∷ other ∷ entries) some = some_last (other ∷ entries) (omega arith)

some_capacity : (plan : ShardPlan) → IsPlan plan → 0 < capacity plan
some_capacity plan is =
    let whole : plan.definition.max_entries / plan.parts * plan.parts + plan.definition.max_entries % plan.parts ≡ plan.definition.max_entries = div-add-mod' plan.definition.max_entries plan.parts in
    by_zero (plan.definition.max_entries / plan.parts) whole
  where
    by_zero : (count : ℕ) → count * plan.parts + plan.definition.max_entries % plan.parts ≡ plan.definition.max_entries → 0 < count
    by_zero zero whole = let equal = is.equal_parts in let some = is.some_entries in absurd (omega (arith, whole, equal, some))
    by_zero (suc count) whole = omega arith

same_full : (plan : ShardPlan) (history : List Entry) (state : SequentialShard) (keys : LruTable) → FitsPlan (Recent keys) plan → IsByUse history state.present keys.entries → is_full_of_keys plan state ≡ is_full_of keys
same_full plan history state keys fits has = ap (λ count. nat_le (capacity plan) count) has.count ∙ ap (λ most. nat_le most (length keys.entries)) (sym fits.2)

not_full : (plan : ShardPlan) (history : List Entry) (state : SequentialShard) → is_full_of_keys plan state ≡ false → after_eviction plan history state ≡ state
not_full plan history state is = rw is refl

evicted_is : (plan : ShardPlan) (history : List Entry) (state : SequentialShard) (gone : PresentKey) → is_full_of_keys plan state ≡ true → least_recently_used history state.present ≡ Some gone
    → after_eviction plan history state ≡ S.without_key state (length history) gone
evicted_is plan history state gone full least = rw (full, least) refl

others_below : (shard : SequentialShard) → IsSound shard → AllByRecursion (λ (one : PresentKey). length shard.cells ≡ one.cell → ⊥) shard.present
others_below shard sound = each_weaker (λ (one : PresentKey). one.cell < length shard.cells) (λ (one : PresentKey). length shard.cells ≡ one.cell → ⊥) (λ one under same. omega (arith, under, same)) shard.present sound.present

none_gone : (test : Bool) (before : Option ℕ) → before ≡ None → cond test None before ≡ None
none_gone true before none = refl
none_gone false before none = none

-- what the code has made of cells and keys is what the definition says of the state
created_recent : (plan : ShardPlan) (entry : Entry) (history : List Entry) (cells cells_after : CellTable) (table : LruTable) (keys_after : KeyTable) (readers_after : ReaderEpochs) (key value : List ℕ) → IsPlan plan
    → IsContents plan (epoch_at plan history) history (shard_after plan history) cells (Recent table) → 0 < cells.free → IsUseOf entry key → cell_of_present (shard_after plan history).present key ≡ None
    → IsPut None key value cells (Recent table) (readers_of plan history) cells_after keys_after readers_after
    → IsContents plan (epoch_at plan history) (entry ∷ history) (with_new_key (after_eviction plan history (shard_after plan history)) key value) cells_after keys_after
created_recent plan entry history cells cells_after table keys_after readers_after key value is contents free used absent put = by_full (is_full_of table) refl
  where
    full_is : is_full_of_keys plan (shard_after plan history) ≡ is_full_of table
    full_is = same_full plan history (shard_after plan history) table contents.fits contents.has

    by_full : (full : Bool) → is_full_of table ≡ full → IsContents plan (epoch_at plan history) (entry ∷ history) (with_new_key (after_eviction plan history (shard_after plan history)) key value) cells_after keys_after
    by_full false not_yet =
        let none : victim_cell (Recent table) ≡ None = rw not_yet refl in
        let stays : without_victim_in (Recent table) ≡ Recent table = rw not_yet refl in
        let inserted : IsInserted key (length cells.cells) (Recent table) keys_after = subst (λ keys. IsInserted key (length cells.cells) keys keys_after) stays put.1 in
        let made : cells_after ≡ T.with_new_cell cells value = put.0 ∙ ap (λ victim. T.with_new_cell (with_evicted victim (epoch_at plan history (length history)) cells) value) none in
        rw (not_full plan history (shard_after plan history) (full_is ∙ not_yet), made)
        (contents_created plan entry history (shard_after plan history) cells (Recent table) keys_after key value free used absent (others_below (shard_after plan history) (sound_after plan history)) inserted contents)
    by_full true full =
        let long : capacity plan ≤ length table.entries = (let test : nat_le table.capacity (length table.entries) ≡ true = full in let fits = contents.fits.2 in grind (arith, nat_tests)) in
        let last = some_last table.entries (let some : 0 < capacity plan = some_capacity plan is in omega (arith, some, long)) in
        let gone : PresentKey = of_last last.0 last.1 in
        let found = victim_found history (shard_after plan history).present table.entries contents.has last.0 last.1 last.2 in
        let least : least_recently_used history (shard_after plan history).present ≡ Some (of_last last.0 last.1) = victim_is_least history (shard_after plan history).present table.entries contents.has last.0 last.1 last.2 in
        let goes : victim_cell (Recent table) ≡ Some last.1 = rw (full, last.2) refl in
        let fewer : without_victim_in (Recent table) ≡ Recent (without_victim table) = rw full refl in
        let inserted : IsInserted key (length cells.cells) (Recent (without_victim table)) keys_after = subst (λ keys. IsInserted key (length cells.cells) keys keys_after) fewer put.1 in
        let made : cells_after ≡ T.with_new_cell (with_retired cells last.1 (epoch_at plan history (length history))) value = put.0 ∙ ap (λ victim. T.with_new_cell (with_evicted victim (epoch_at plan history (length history)) cells) value) goes in
        let left : IsGone last.0 (of_last last.0 last.1) (shard_after plan history).present = key_gone last.0 (of_last last.0 last.1) (shard_after plan history).present found contents.has.keys_apart contents.has.cells_apart in
        let others : AllByRecursion (λ (one : PresentKey). length (shard_after plan history).cells ≡ one.cell → ⊥) (filter (λ (one : PresentKey). not (one.cell == last.1)) (shard_after plan history).present) =
        first_parts (λ (one : PresentKey). length (shard_after plan history).cells ≡ one.cell → ⊥) (λ (one : PresentKey). not (one.cell == last.1)) (shard_after plan history).present (others_below (shard_after plan history) (sound_after plan history)) in
        rw (evicted_is plan history (shard_after plan history) (of_last last.0 last.1) (full_is ∙ full) least, made)
        (contents_created plan entry history (S.without_key (shard_after plan history) (length history) (of_last last.0 last.1)) (with_retired cells last.1 (epoch_at plan history (length history))) (Recent (without_victim table)) keys_after key value free used
        (left.finds key ∙ none_gone (bytes_eq last.0 key) (cell_of_present (shard_after plan history).present key) absent) others inserted
        (contents_evicted (epoch_at plan history) plan history (shard_after plan history) cells table last.0 last.1 (length history) last.2 contents))

-- ---- what an Update leaves

updated_by : (plan : ShardPlan) (entry : Entry) (history : List Entry) (cells cells_after : CellTable) (keys keys_after : KeyTable) (readers_after : ReaderEpochs) (key value : List ℕ) (flags : ℕ) (found : Option ℕ) → IsPlan plan
    → IsContents plan (epoch_at plan history) history (shard_after plan history) cells keys → update_answer plan (shard_after plan history) key flags ≡ pos 0 → IsUseOf entry key
    → cell_in keys key ≡ found → IsPut found key value cells keys (readers_of plan history) cells_after keys_after readers_after
    → IsContents plan (epoch_at plan history) (entry ∷ history) (with_value plan history (shard_after plan history) key value found) cells_after keys_after
updated_by plan entry history cells cells_after keys keys_after readers_after key value flags (Some cell) is contents done used found put =
    let kept : IsTrue (is_kept plan (shard_after plan history) cell) = found_kept plan.definition.kind plan history key cell refl is.equal_parts is.limits.some_part (sym (cell_in_is keys plan history (shard_after plan history) key contents.fits contents.has) ∙ found) in
    rw (put.0, put.1) (contents_written plan history (entry ∷ history) (shard_after plan history) cells keys (touched_in key keys) cell value kept contents
    (fits_touched keys plan key contents.fits) (keys_touched keys entry history (shard_after plan history).present key cell used found contents.has))
updated_by plan entry history cells cells_after (Indices indices) keys_after readers_after key value flags None is contents done used found put = absurd put.1
updated_by plan entry history cells cells_after (Hashed table) keys_after readers_after key value flags None is contents done used found put =
    let absent : cell_of_key plan (shard_after plan history) key ≡ None = sym (cell_in_is (Hashed table) plan history (shard_after plan history) key contents.fits contents.has) ∙ found in
    let tests = hash_zero plan (shard_after plan history) (update_flags_of flags) contents.fits.0 (sym (absent_answer Hash plan (shard_after plan history) key flags contents.fits.0 absent) ∙ done) in
    rw (put.0) (subst (λ state. IsContents plan (epoch_at plan history) (entry ∷ history) (with_new_key state key value) (T.with_new_cell cells value) keys_after) (sym (not_full plan history (shard_after plan history) tests.0))
    (contents_created plan entry history (shard_after plan history) cells (Hashed table) keys_after key value (free_by plan history cells (Hashed table) key flags tt contents done absent) used
    (sym (contents.has.1 key) ∙ found) (others_below (shard_after plan history) (sound_after plan history)) put.1 contents))
updated_by plan entry history cells cells_after (Recent table) keys_after readers_after key value flags None is contents done used found put =
    let absent : cell_of_key plan (shard_after plan history) key ≡ None = sym (cell_in_is (Recent table) plan history (shard_after plan history) key contents.fits contents.has) ∙ found in
    created_recent plan entry history cells cells_after table keys_after readers_after key value is contents (free_by plan history cells (Recent table) key flags tt contents done absent) used
    (contents.has.cells key ∙ found) put

-- the entry of an Update with this answer
abbrev pub update_entry : Caller → ℕ → List ℕ → List ℕ → ℕ → ℤ → Entry
update_entry who number key value flags code = record { who = who; call = Update number key value flags; reply = Answer code }

refused_use : (code : ℤ) → code ≢ pos 0 → is_done (Answer code) ≡ false
refused_use (pos zero) other = absurd (other refl)
refused_use (pos (suc n)) other = (let some : (suc n == 0) ≡ false = grind (arith, nat_tests) in some)
refused_use (negsuc n) other = refl

pub contents_updated : (plan : ShardPlan) (who : Caller) (history : List Entry) (cells cells_after : CellTable) (keys keys_after : KeyTable) (readers readers_after : ReaderEpochs) (number : ℕ) (key value : List ℕ) (flags : ℕ) (code : ℤ) → IsPlan plan
    → IsContents plan (epoch_at plan history) history (shard_after plan history) cells keys → readers ≡ readers_of plan history → code ≡ update_answer plan (shard_after plan history) key flags
    → (code ≡ pos 0 → IsPut (cell_in keys key) key value cells keys readers cells_after keys_after readers_after) → (code ≢ pos 0 → (cells_after ≡ cells) × (keys_after ≡ keys) × (readers_after ≡ readers))
    → IsContents plan (epoch_at plan history) (update_entry who number key value flags code ∷ history) (shard_after_call plan history (shard_after plan history) (Update number key value flags)) cells_after keys_after
contents_updated plan who history cells cells_after keys keys_after readers readers_after number key value flags code is contents are answered done refused = by_answer (zero_or_other code)
  where
    by_answer : (code ≡ pos 0) ⊎ (code ≢ pos 0) → IsContents plan (epoch_at plan history) (update_entry who number key value flags code ∷ history) (shard_after_call plan history (shard_after plan history) (Update number key value flags)) cells_after keys_after
    by_answer (inl is_zero) =
        let zero_answer : update_answer plan (shard_after plan history) key flags ≡ pos 0 = sym answered ∙ is_zero in
        let same : cell_in keys key ≡ cell_of_key plan (shard_after plan history) key = cell_in_is keys plan history (shard_after plan history) key contents.fits contents.has in
        let used : IsUseOf (update_entry who number key value flags code) key = (λ q. use_by_update q key value number flags (Answer code) (ap (λ answer. is_done (Answer answer)) is_zero)) in
        subst (λ answer. IsContents plan (epoch_at plan history) (update_entry who number key value flags code ∷ history) (updated_where answer (with_value plan history (shard_after plan history) key value (cell_of_key plan (shard_after plan history) key)) (shard_after plan history)) cells_after keys_after) (sym zero_answer)
        (subst (λ found. IsContents plan (epoch_at plan history) (update_entry who number key value flags code ∷ history) (with_value plan history (shard_after plan history) key value found) cells_after keys_after) same
        (updated_by plan (update_entry who number key value flags code) history cells cells_after keys keys_after readers_after key value flags (cell_in keys key) is contents zero_answer used refl
        (subst (λ from. IsPut (cell_in keys key) key value cells keys from cells_after keys_after readers_after) are (done is_zero))))
    by_answer (inr other_than) =
        let other : update_answer plan (shard_after plan history) key flags ≢ pos 0 = λ same. other_than (answered ∙ same) in
        rw (none_left (update_answer plan (shard_after plan history) key flags) (with_value plan history (shard_after plan history) key value (cell_of_key plan (shard_after plan history) key)) (shard_after plan history) other)
        (rw ((refused other_than).0, (refused other_than).1) (contents_on plan (update_entry who number key value flags code) history (shard_after plan history) cells keys
        (λ q. no_use_by_update q key value number flags (Answer code) (refused_use code other_than)) contents))

-- ---- a Delete

pub deleted_keyed : (plan : ShardPlan) (history : List Entry) (cells : CellTable) (keys : KeyTable) (key : List ℕ) (code : ℤ) → IsContents plan (epoch_at plan history) history (shard_after plan history) cells keys
    → code ≡ delete_answer plan (shard_after plan history) key → code ≡ pos 0 → IsKeyed keys
deleted_keyed plan history cells (Hashed table) key code contents answered done = tt
deleted_keyed plan history cells (Recent table) key code contents answered done = tt
deleted_keyed plan history cells (Indices indices) key code contents answered done =
    let invalid : delete_answer plan (shard_after plan history) key ≡ errno_code Invalid = ap (λ kind. delete_answer_of_kind kind (cell_of_key plan (shard_after plan history) key)) contents.fits.0 in
    let none : errno_code Invalid ≡ pos 0 = sym invalid ∙ sym answered ∙ done in
    absurd cc

pub can_retire : (plan : ShardPlan) (history : List Entry) (cells : CellTable) (keys : KeyTable) (key : List ℕ) (cell : ℕ) (code : ℤ) (readers : ReaderEpochs) → IsPlan plan → IsContents plan (epoch_at plan history) history (shard_after plan history) cells keys → readers ≡ readers_of plan history
    → code ≡ delete_answer plan (shard_after plan history) key → code ≡ pos 0 → cell_in keys key ≡ Some cell → CanRetire cells cell readers.present
can_retire plan history cells keys key cell code readers is contents are answered done found =
    rw are (can_retire_by plan history cells keys key cell (deleted_keyed plan history cells keys key code contents answered done) is contents found)

keyed_answer : (kind : MapKind) (cell : Option ℕ) → (kind ≡ Array → ⊥) → delete_answer_of_kind kind cell ≡ pos 0 → is_some cell ≡ true
keyed_answer Array cell keyed answer = absurd (keyed refl)
keyed_answer Hash None keyed answer = cc
keyed_answer Hash (Some cell) keyed answer = refl
keyed_answer LruHash None keyed answer = cc
keyed_answer LruHash (Some cell) keyed answer = refl

found_one : (found : Option PresentKey) → is_some (option_map (λ (one : PresentKey). one.cell) found) ≡ true → (gone : PresentKey) × (found ≡ Some gone)
found_one (Some gone) is = (gone, refl)
found_one None is = absurd cc

-- a key that a Delete takes out was there
gone_by : (plan : ShardPlan) (history : List Entry) (cells : CellTable) (keys : KeyTable) (key : List ℕ) → IsKeyed keys → IsContents plan (epoch_at plan history) history (shard_after plan history) cells keys
    → delete_answer plan (shard_after plan history) key ≡ pos 0 → (gone : PresentKey) × (present_key (shard_after plan history) key ≡ Some gone) × (cell_in keys key ≡ Some gone.cell)
gone_by plan history cells keys key keyed contents done =
    let there : is_some (cell_of_key plan (shard_after plan history) key) ≡ true = keyed_answer plan.definition.kind (cell_of_key plan (shard_after plan history) key) (keyed_kind keys plan keyed contents.fits) done in
    let in_table : cell_in keys key ≡ cell_of_key plan (shard_after plan history) key = cell_in_is keys plan history (shard_after plan history) key contents.fits contents.has in
    let in_present : cell_in keys key ≡ cell_of_present (shard_after plan history).present key = cell_in_present keys history (shard_after plan history).present key keyed contents.has in
    let by = found_one (present_key (shard_after plan history) key) (ap is_some (sym in_present ∙ in_table) ∙ there) in
    (by.0, by.1, in_present ∙ ap (option_map (λ (one : PresentKey). one.cell)) by.1)

deleted_by : (plan : ShardPlan) (history : List Entry) (cells cells_after : CellTable) (keys keys_after : KeyTable) (key : List ℕ) → IsKeyed keys → IsLegalHistory plan history
    → IsContents plan (epoch_at plan history) history (shard_after plan history) cells keys → delete_answer plan (shard_after plan history) key ≡ pos 0
    → ((cell : ℕ) → cell_in keys key ≡ Some cell → cells_after ≡ with_retired cells cell (epoch_at plan history (length history))) → IsRemoved key keys keys_after
    → IsContents plan (epoch_at plan history) history (without_found (shard_after plan history) (length history) (present_key (shard_after plan history) key)) cells_after keys_after
deleted_by plan history cells cells_after keys keys_after key keyed legal contents done retired removed =
    let by = gone_by plan history cells keys key keyed contents done in
    rw (by.1, retired by.0.cell by.2)
    (contents_retired (epoch_at plan history) plan history (shard_after plan history) cells keys keys_after key by.0 (length history) keyed by.1 (keys_differ plan history legal) (apart_after plan history).present contents
    (fits_removed keys keys_after plan key removed contents.fits)
    (keys_removed keys keys_after history (shard_after plan history).present key by.0 by.1 (keys_differ plan history legal) (apart_after plan history).present removed contents.has))

pub contents_deleted : (plan : ShardPlan) (entry : Entry) (history : List Entry) (cells cells_after : CellTable) (keys keys_after : KeyTable) (readers readers_after : ReaderEpochs) (number : ℕ) (key : List ℕ) (code : ℤ) → IsNoUse entry → IsLegalHistory plan history
    → IsContents plan (epoch_at plan history) history (shard_after plan history) cells keys → readers ≡ readers_of plan history → code ≡ delete_answer plan (shard_after plan history) key
    → ((cell : ℕ) → code ≡ pos 0 → cell_in keys key ≡ Some cell → cells_after ≡ with_retired cells cell readers.present) → (code ≡ pos 0 → IsRemoved key keys keys_after)
    → (code ≢ pos 0 → (cells_after ≡ cells) × (keys_after ≡ keys) × (readers_after ≡ readers))
    → IsContents plan (epoch_at plan history) (entry ∷ history) (shard_after_call plan history (shard_after plan history) (Delete number key)) cells_after keys_after
contents_deleted plan entry history cells cells_after keys keys_after readers readers_after number key code no_use legal contents are answered retired removed refused = by_answer (zero_or_other code)
  where
    by_answer : (code ≡ pos 0) ⊎ (code ≢ pos 0) → IsContents plan (epoch_at plan history) (entry ∷ history) (shard_after_call plan history (shard_after plan history) (Delete number key)) cells_after keys_after
    by_answer (inl is_zero) =
        let zero_answer : delete_answer plan (shard_after plan history) key ≡ pos 0 = sym answered ∙ is_zero in
        subst (λ answer. IsContents plan (epoch_at plan history) (entry ∷ history) (updated_where answer (without_found (shard_after plan history) (length history) (present_key (shard_after plan history) key)) (shard_after plan history)) cells_after keys_after) (sym zero_answer)
        (contents_on plan entry history (without_found (shard_after plan history) (length history) (present_key (shard_after plan history) key)) cells_after keys_after no_use
        (deleted_by plan history cells cells_after keys keys_after key (deleted_keyed plan history cells keys key code contents answered is_zero) legal contents zero_answer
        (λ cell found. retired cell is_zero found ∙ ap (λ (from : ReaderEpochs). with_retired cells cell from.present) are) (removed is_zero)))
    by_answer (inr other_than) =
        let other : delete_answer plan (shard_after plan history) key ≢ pos 0 = λ same. other_than (answered ∙ same) in
        rw (none_left (delete_answer plan (shard_after plan history) key) (without_found (shard_after plan history) (length history) (present_key (shard_after plan history) key)) (shard_after plan history) other)
        (rw ((refused other_than).0, (refused other_than).1) (contents_on plan entry history (shard_after plan history) cells keys no_use contents))

-- ---- a Reclaim

floor_is : (plan : ShardPlan) (history : List Entry) (floor : ℕ) → IsFloorOf (readers_of plan history) floor → IsFloorFor (epoch_at plan history) floor history (shard_after plan history).retired
floor_is plan history floor is = record {
  tells = each_weaker (λ (one : RetiredCell). (one.since < length history) × EndsEpoch plan history one) (λ (one : RetiredCell). is_below floor (waiting (epoch_at plan history) one) ≡ is_reclaimable history one)
      (λ one both. floor_tells plan history floor one is both.0 both.1) (shard_after plan history).retired
      (each_of_both (λ (one : RetiredCell). one.since < length history) (EndsEpoch plan history) (shard_after plan history).retired (apart_after plan history).since (epochs_end plan history));
}

pub freed_count : (plan : ShardPlan) (history : List Entry) (cells : CellTable) (keys : KeyTable) (floor : ℕ) → IsContents plan (epoch_at plan history) history (shard_after plan history) cells keys → IsFloorOf (readers_of plan history) floor
    → length (filter (is_below floor) cells.retired) ≡ length (reclaimable_cells history (shard_after plan history))
freed_count plan history cells keys floor contents is =
    rw contents.retired (ap length (freed_are (epoch_at plan history) floor history (shard_after plan history).retired (floor_is plan history floor is))
    ∙ oldest_count (epoch_at plan history) (filter (is_reclaimable history) (shard_after plan history).retired))

pub contents_reclaimed : (plan : ShardPlan) (entry : Entry) (history : List Entry) (cells : CellTable) (keys : KeyTable) (number floor : ℕ) → IsNoUse entry → IsContents plan (epoch_at plan history) history (shard_after plan history) cells keys
    → IsFloorOf (readers_of plan history) floor
    → IsContents plan (epoch_at plan history) (entry ∷ history) (shard_after_call plan history (shard_after plan history) (Reclaim number)) (freed_below floor cells) keys
contents_reclaimed plan entry history cells keys number floor none contents is =
    contents_freed (epoch_at plan history) plan entry history (shard_after plan history) cells keys floor none (floor_is plan history floor is)
    (sound_after plan history) (apart_after plan history).retired (array_after plan history) contents

-- ---- the present epoch after an Update and a Delete

as_many_retired : (count : ℕ) → nat_lt count count ≡ false
as_many_retired count = le-ltb count count (omega arith)

one_more_retired : (count : ℕ) → nat_lt count (suc count) ≡ true
one_more_retired count = lt-ltb count (suc count) (omega arith)

-- an Update that is answered 0 retires a cell exactly where a key goes for the new one
put_retires : (plan : ShardPlan) (history : List Entry) (cells cells_after : CellTable) (keys keys_after : KeyTable) (readers_after : ReaderEpochs) (key value : List ℕ) (flags : ℕ) (found : Option ℕ) → IsPlan plan
    → IsContents plan (epoch_at plan history) history (shard_after plan history) cells keys → update_answer plan (shard_after plan history) key flags ≡ pos 0
    → cell_in keys key ≡ found → IsPut found key value cells keys (readers_of plan history) cells_after keys_after readers_after
    → readers_after ≡ with_retirement (nat_lt (length (shard_after plan history).retired) (length (with_value plan history (shard_after plan history) key value found).retired)) (readers_of plan history)
put_retires plan history cells cells_after keys keys_after readers_after key value flags (Some cell) is contents done found put =
    put.2 ∙ rw (as_many_retired (length (shard_after plan history).retired)) refl
put_retires plan history cells cells_after (Indices indices) keys_after readers_after key value flags None is contents done found put = absurd put.1
put_retires plan history cells cells_after (Hashed table) keys_after readers_after key value flags None is contents done found put =
    let absent : cell_of_key plan (shard_after plan history) key ≡ None = sym (cell_in_is (Hashed table) plan history (shard_after plan history) key contents.fits contents.has) ∙ found in
    let tests = hash_zero plan (shard_after plan history) (update_flags_of flags) contents.fits.0 (sym (absent_answer Hash plan (shard_after plan history) key flags contents.fits.0 absent) ∙ done) in
    put.2 ∙ rw (not_full plan history (shard_after plan history) tests.0) (rw (as_many_retired (length (shard_after plan history).retired)) refl)
put_retires plan history cells cells_after (Recent table) keys_after readers_after key value flags None is contents done found put = by_full (is_full_of table) refl
  where
    full_is : is_full_of_keys plan (shard_after plan history) ≡ is_full_of table
    full_is = same_full plan history (shard_after plan history) table contents.fits contents.has

    by_full : (full : Bool) → is_full_of table ≡ full
        → readers_after ≡ with_retirement (nat_lt (length (shard_after plan history).retired) (length (with_value plan history (shard_after plan history) key value None).retired)) (readers_of plan history)
    by_full false not_yet =
        let none : victim_cell (Recent table) ≡ None = rw not_yet refl in
        put.2 ∙ rw (none, not_full plan history (shard_after plan history) (full_is ∙ not_yet)) (rw (as_many_retired (length (shard_after plan history).retired)) refl)
    by_full true full =
        let long : capacity plan ≤ length table.entries = (let test : nat_le table.capacity (length table.entries) ≡ true = full in let fits = contents.fits.2 in grind (arith, nat_tests)) in
        let last = some_last table.entries (let some : 0 < capacity plan = some_capacity plan is in omega (arith, some, long)) in
        let least : least_recently_used history (shard_after plan history).present ≡ Some (of_last last.0 last.1) = victim_is_least history (shard_after plan history).present table.entries contents.has last.0 last.1 last.2 in
        let goes : victim_cell (Recent table) ≡ Some last.1 = rw (full, last.2) refl in
        let longer : nat_lt (length (shard_after plan history).retired) (length (with_value plan history (shard_after plan history) key value None).retired) ≡ true =
        rw (evicted_is plan history (shard_after plan history) (of_last last.0 last.1) (full_is ∙ full) least) (one_more_retired (length (shard_after plan history).retired)) in
        put.2 ∙ ap (λ victim. with_epoch_after victim (readers_of plan history)) goes ∙ ap (λ goes. with_retirement goes (readers_of plan history)) (sym longer)

pub readers_updated : (plan : ShardPlan) (history : List Entry) (cells cells_after : CellTable) (keys keys_after : KeyTable) (readers readers_after : ReaderEpochs) (number : ℕ) (key value : List ℕ) (flags : ℕ) (code : ℤ) → IsPlan plan
    → IsContents plan (epoch_at plan history) history (shard_after plan history) cells keys → readers ≡ readers_of plan history → code ≡ update_answer plan (shard_after plan history) key flags
    → (code ≡ pos 0 → IsPut (cell_in keys key) key value cells keys readers cells_after keys_after readers_after) → (code ≢ pos 0 → (cells_after ≡ cells) × (keys_after ≡ keys) × (readers_after ≡ readers))
    → readers_after ≡ with_retirement (retires plan history (Update number key value flags)) (readers_of plan history)
readers_updated plan history cells cells_after keys keys_after readers readers_after number key value flags code is contents are answered done refused = by_answer (zero_or_other code)
  where
    by_answer : (code ≡ pos 0) ⊎ (code ≢ pos 0) → readers_after ≡ with_retirement (retires plan history (Update number key value flags)) (readers_of plan history)
    by_answer (inl is_zero) =
        let zero_answer : update_answer plan (shard_after plan history) key flags ≡ pos 0 = sym answered ∙ is_zero in
        let same : cell_in keys key ≡ cell_of_key plan (shard_after plan history) key = cell_in_is keys plan history (shard_after plan history) key contents.fits contents.has in
        put_retires plan history cells cells_after keys keys_after readers_after key value flags (cell_in keys key) is contents zero_answer refl
        (subst (λ from. IsPut (cell_in keys key) key value cells keys from cells_after keys_after readers_after) are (done is_zero))
        ∙ ap (λ found. with_retirement (nat_lt (length (shard_after plan history).retired) (length (with_value plan history (shard_after plan history) key value found).retired)) (readers_of plan history)) same
        ∙ ap (λ answer. with_retirement (nat_lt (length (shard_after plan history).retired)
        (length (updated_where answer (with_value plan history (shard_after plan history) key value (cell_of_key plan (shard_after plan history) key)) (shard_after plan history)).retired)) (readers_of plan history)) (sym zero_answer)
    by_answer (inr other_than) =
        let other : update_answer plan (shard_after plan history) key flags ≢ pos 0 = λ same. other_than (answered ∙ same) in
        (refused other_than).2 ∙ are
        ∙ rw (none_left (update_answer plan (shard_after plan history) key flags) (with_value plan history (shard_after plan history) key value (cell_of_key plan (shard_after plan history) key)) (shard_after plan history) other)
        (rw (as_many_retired (length (shard_after plan history).retired)) refl)

pub readers_deleted : (plan : ShardPlan) (history : List Entry) (cells cells_after : CellTable) (keys keys_after : KeyTable) (readers readers_after : ReaderEpochs) (number : ℕ) (key : List ℕ) (code : ℤ)
    → IsContents plan (epoch_at plan history) history (shard_after plan history) cells keys → readers ≡ readers_of plan history → code ≡ delete_answer plan (shard_after plan history) key
    → (code ≡ pos 0 → readers_after ≡ with_epoch_after (cell_in keys key) readers) → (code ≢ pos 0 → (cells_after ≡ cells) × (keys_after ≡ keys) × (readers_after ≡ readers))
    → readers_after ≡ with_retirement (retires plan history (Delete number key)) (readers_of plan history)
readers_deleted plan history cells cells_after keys keys_after readers readers_after number key code contents are answered ended refused = by_answer (zero_or_other code)
  where
    by_answer : (code ≡ pos 0) ⊎ (code ≢ pos 0) → readers_after ≡ with_retirement (retires plan history (Delete number key)) (readers_of plan history)
    by_answer (inl is_zero) =
        let zero_answer : delete_answer plan (shard_after plan history) key ≡ pos 0 = sym answered ∙ is_zero in
        let by = gone_by plan history cells keys key (deleted_keyed plan history cells keys key code contents answered is_zero) contents zero_answer in
        ended is_zero ∙ ap (with_epoch_after (cell_in keys key)) are ∙ rw (zero_answer, by.1, by.2)
        (rw (one_more_retired (length (shard_after plan history).retired)) refl)
    by_answer (inr other_than) =
        let other : delete_answer plan (shard_after plan history) key ≢ pos 0 = λ same. other_than (answered ∙ same) in
        (refused other_than).2 ∙ are
        ∙ rw (none_left (delete_answer plan (shard_after plan history) key) (without_found (shard_after plan history) (length history) (present_key (shard_after plan history) key)) (shard_after plan history) other)
        (rw (as_many_retired (length (shard_after plan history).retired)) refl)
