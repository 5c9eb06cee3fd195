-- What each call leaves of a shard's fields.
use Rattle.std.proofs.Common.{◌≡◌, ◌≢◌, ℕ, ◌+◌, ◌-◌, ◌<◌, ◌≤◌, Bool, true, false, cond, List, [], ◌∷◌, ◌++◌, length, set, get_or, slice_get, Option, Some, None, refl, sym, ap, ◌∙◌, arith, bytes_eq}
use Rattle.std.specs.Prelude.{option_map}
use Rattle.std.proofs.lemmas.List.{length-set, get_or-set_other}
use Rattle.std.proofs.lemmas.Grind.{get_or-set_at}
use Rattle.std.specs.Map.{lookup}
use Rattle.plain_maps.specs.Keyed.{KeyMap, entry_number_of, key_of_number, AreInverse}
use Rattle.plain_maps.specs.Listed.{item_of}
use Rattle.lru_maps.specs.Recency.{used, released, countdown, StandOnce}
use Rattle.lru_maps.specs.LruTable.{cell_of_lru_key, touched, with_newest_key, table_without_key, last_of, all_but_last_entry, victim, without_victim}
use Rattle.lru_maps.specs.Numbered.{in_order, id_at, lru_table, IsLruShard}
use Rattle.lru_maps.proofs.Orders.{used_listed, used_length, released_listed, released_length, last_listed, last_is_free, full_has_key, cell_there, cell_absent, no_number, touched_there, touched_absent, touched_free, touched_count, removed_absent, order_of_none, free_of_none, countdown_length, countdown_listed, countdown_in_range}
use Rattle.lru_maps.proofs.Edits.{order_same, free_same, inserted_here, inserted_elsewhere, removed_here, removed_elsewhere, removed_nowhere, inserted_order, inserted_free, released_order, released_free, released_count, evicted_order, evicted_free}

one_more : (entries : List (List ℕ × ℕ)) (entry : List ℕ × ℕ) → length (entries ++ entry ∷ []) ≡ length entries + 1
one_more [] entry = refl
one_more (e ∷ entries) entry = let rest = one_more entries entry in omega (arith, rest)

absent_before : (q : List ℕ) (entries : List (List ℕ × ℕ)) (entry : List ℕ × ℕ) → lookup (bytes_eq q) (entries ++ entry ∷ []) ≡ None → lookup (bytes_eq q) entries ≡ None
absent_before q [] entry absent = refl
absent_before q (e ∷ entries) entry absent = by_test (bytes_eq q e.0) absent (absent_before q entries entry)
  where
    by_test : (t : Bool) → cond t (Some e.1) (lookup (bytes_eq q) (entries ++ entry ∷ [])) ≡ None → (lookup (bytes_eq q) (entries ++ entry ∷ []) ≡ None → lookup (bytes_eq q) entries ≡ None) → cond t (Some e.1) (lookup (bytes_eq q) entries) ≡ None
    by_test true none rest = none
    by_test false none rest = rest none

pub last_of_append : (entries : List (List ℕ × ℕ)) (entry : List ℕ × ℕ) → last_of (entries ++ entry ∷ []) ≡ Some entry
last_of_append [] entry = refl
last_of_append (e ∷ []) entry = refl
last_of_append (e ∷ f ∷ entries) entry = last_of_append (f ∷ entries) entry

pub all_but_last_append : (entries : List (List ℕ × ℕ)) (entry : List ℕ × ℕ) → all_but_last_entry (entries ++ entry ∷ []) ≡ entries
all_but_last_append [] entry = refl
all_but_last_append (e ∷ []) entry = refl
all_but_last_append (e ∷ f ∷ entries) entry = ap (λ (es : List (List ℕ × ℕ)). e ∷ es) (all_but_last_append (f ∷ entries) entry)

module _ (index : KeyMap) (ids order : List ℕ) (count : ℕ) (ok : IsLruShard index ids order count)
    (inverse : AreInverse (entry_number_of index) (key_of_number index)) (small : (q : List ℕ) (n : ℕ) → entry_number_of index q ≡ Some n → n < index.capacity) where
  pub found_cell : (q : List ℕ) (n : ℕ) → entry_number_of index q ≡ Some n → cell_of_lru_key (lru_table index ids order) q ≡ Some (id_at ids n)
  found_cell q n found = cell_there (key_of_number index) (id_at ids) (entry_number_of index) inverse q n order found (ok.listed n (small q n found))

  pub absent_cell : (q : List ℕ) → entry_number_of index q ≡ None → cell_of_lru_key (lru_table index ids order) q ≡ None
  absent_cell q absent = cell_absent (key_of_number index) (id_at ids) (entry_number_of index) inverse q order absent

  pub absent_entry : (q : List ℕ) → cell_of_lru_key (lru_table index ids order) q ≡ None → entry_number_of index q ≡ None
  absent_entry q none = no_number (key_of_number index) (id_at ids) (entry_number_of index) inverse q order (λ n found. ok.listed n (small q n found)) none

  -- the cell of a key is what its entry number has
  pub item_is : (q : List ℕ) → item_of index ids q ≡ cell_of_lru_key (lru_table index ids order) q
  item_is q = by_number (entry_number_of index q) refl
    where
      by_number : (number : Option ℕ) → entry_number_of index q ≡ number → option_map (λ (n : ℕ). get_or ids n 0) number ≡ cell_of_lru_key (lru_table index ids order) q
      by_number None absent = sym (absent_cell q absent)
      by_number (Some n) found = sym (found_cell q n found)

  -- ---- a use

  pub touched_table : (q : List ℕ) (n : ℕ) → entry_number_of index q ≡ Some n → lru_table index ids (used n order) ≡ touched q (lru_table index ids order)
  touched_table q n found = rw (touched_there (key_of_number index) (id_at ids) (entry_number_of index) inverse q n order found (ok.listed n (small q n found))) refl

  pub untouched_table : (q : List ℕ) → entry_number_of index q ≡ None → lru_table index ids order ≡ touched q (lru_table index ids order)
  untouched_table q absent = ap (λ (es : List (List ℕ × ℕ)). record (lru_table index ids order) { entries = es }) (touched_absent (key_of_number index) (id_at ids) (entry_number_of index) inverse q order absent)

  pub touched_shard : (q : List ℕ) (n : ℕ) → entry_number_of index q ≡ Some n → IsLruShard index ids (used n order) count
  touched_shard q n found =
      let there = ok.listed n (small q n found) in
      record {
        small_keys = ok.small_keys;
        some = ok.some;
        id_count = ok.id_count;
        number_count = used_length n order there ∙ ok.number_count;
        listed = λ m lt. used_listed n m order there ∙ ok.listed m lt;
        in_range = λ m is. ok.in_range m (sym (used_listed n m order there) ∙ is);
        free_last = touched_free (key_of_number index) (id_at ids) (entry_number_of index) inverse q n order found there ok.free_last;
        counted = touched_count (key_of_number index) (id_at ids) (entry_number_of index) inverse n order there ∙ ok.counted;
      }

  pub last_small : (n : ℕ) → slice_get order (length order - 1) ≡ Some n → n < index.capacity
  last_small n last = ok.in_range n (last_listed n order last)

  pub last_free : (n : ℕ) → slice_get order (length order - 1) ≡ Some n → count < index.capacity → key_of_number index n ≡ None
  last_free n last room = last_is_free (key_of_number index) (id_at ids) order n ok.free_last (omega (arith, ok.counted, ok.number_count, room)) last

  pub last_unused : (n : ℕ) → slice_get order (length order - 1) ≡ Some n → count < index.capacity → (q : List ℕ) → entry_number_of index q ≢ Some n
  last_unused n last room q found =
      let has : key_of_number index n ≡ Some q = (inverse q n).0 found in
      let clash : None ≡ Some q = sym (last_free n last room) ∙ has in
      cc clash

  pub last_key : (n : ℕ) → slice_get order (length order - 1) ≡ Some n → count ≡ index.capacity → (q : List ℕ) × (entry_number_of index q ≡ Some n)
  last_key n last full =
      let has = full_has_key (key_of_number index) (id_at ids) order n (omega (arith, ok.counted, ok.number_count, full)) (last_listed n order last) in
      (has.0, (inverse has.0 n).1 has.1)

  -- ---- a change of the index at one key

  module _ (later : KeyMap) (inverse_later : AreInverse (entry_number_of later) (key_of_number later)) (same_size : later.size ≡ index.size) (same_capacity : later.capacity ≡ index.capacity) (key : List ℕ) where
    -- a new key
    module _ (n id : ℕ) (once : StandOnce order) (last : slice_get order (length order - 1) ≡ Some n) (room : count < index.capacity) (absent : entry_number_of index key ≡ None) (change : (q : List ℕ) → entry_number_of later q ≡ cond (bytes_eq key q) (Some n) (entry_number_of index q)) where
      here : key_of_number later n ≡ Some key
      here = inserted_here (entry_number_of index) (entry_number_of later) (key_of_number index) (key_of_number later) inverse inverse_later key (Some n) change n refl absent

      elsewhere : (m : ℕ) → m ≢ n → key_of_number later m ≡ key_of_number index m
      elsewhere = inserted_elsewhere (entry_number_of index) (entry_number_of later) (key_of_number index) (key_of_number later) inverse inverse_later key (Some n) change n refl absent

      id_here : id_at (set ids n id) n ≡ id
      id_here = let lt = last_small n last in get_or-set_at ids n n id 0 refl (omega (arith, lt, ok.id_count))

      id_elsewhere : (m : ℕ) → m ≢ n → id_at (set ids n id) m ≡ id_at ids m
      id_elsewhere m apart = get_or-set_other ids n m id 0 apart

      new_order : in_order (key_of_number later) (id_at (set ids n id)) (used n order) ≡ (key, id) ∷ in_order (key_of_number index) (id_at ids) order
      new_order =
          inserted_order (key_of_number index) (key_of_number later) n elsewhere order once (last_listed n order last) (last_free n last room) key (id_at ids) (id_at (set ids n id)) here id_elsewhere
          ∙ ap (λ (i : ℕ). (key, i) ∷ in_order (key_of_number index) (id_at ids) order) id_here

      pub inserted_table : lru_table later (set ids n id) (used n order) ≡ with_newest_key key id (lru_table index ids order)
      inserted_table = rw (new_order, same_size, same_capacity) refl

      pub inserted_shard : IsLruShard later (set ids n id) (used n order) (count + 1)
      inserted_shard =
          let there = last_listed n order last in
          record {
            small_keys = rw same_size ok.small_keys;
            some = rw same_capacity ok.some;
            id_count = length-set ids n id ∙ (ok.id_count ∙ sym same_capacity);
            number_count = used_length n order there ∙ (ok.number_count ∙ sym same_capacity);
            listed = λ m lt. used_listed n m order there ∙ ok.listed m (omega (arith, lt, same_capacity));
            in_range = λ m is. (let lt = ok.in_range m (sym (used_listed n m order there) ∙ is) in omega (arith, lt, same_capacity));
            free_last = inserted_free (key_of_number index) (key_of_number later) n elsewhere order once there (last_free n last room) key here ok.free_last;
            counted = rw new_order (omega (arith, ok.counted));
          }

    module _ (change : (q : List ℕ) → entry_number_of later q ≡ cond (bytes_eq key q) None (entry_number_of index q)) where
      -- an absent key
      module _ (absent : entry_number_of index key ≡ None) where
        nowhere : (m : ℕ) → key_of_number later m ≡ key_of_number index m
        nowhere = removed_nowhere (entry_number_of index) (entry_number_of later) (key_of_number index) (key_of_number later) inverse inverse_later key None change refl absent

        same_order : in_order (key_of_number later) (id_at ids) order ≡ in_order (key_of_number index) (id_at ids) order
        same_order = order_same (key_of_number index) (key_of_number later) (id_at ids) (id_at ids) order (λ m there. nowhere m) (λ m there. refl)

        pub unremoved_table : lru_table later ids order ≡ table_without_key key (lru_table index ids order)
        unremoved_table = rw (removed_absent (key_of_number index) (id_at ids) (entry_number_of index) inverse key order absent, same_order, same_size, same_capacity) refl

        pub unremoved_same : lru_table later ids order ≡ lru_table index ids order
        unremoved_same = rw (same_order, same_size, same_capacity) refl

        pub unremoved_shard : IsLruShard later ids order count
        unremoved_shard = record {
          small_keys = rw same_size ok.small_keys;
          some = rw same_capacity ok.some;
          id_count = ok.id_count ∙ sym same_capacity;
          number_count = ok.number_count ∙ sym same_capacity;
          listed = λ m lt. ok.listed m (omega (arith, lt, same_capacity));
          in_range = λ m is. (let lt = ok.in_range m is in omega (arith, lt, same_capacity));
          free_last = free_same (key_of_number index) (key_of_number later) order (λ m there. nowhere m) ok.free_last;
          counted = rw same_order ok.counted;
        }

      module _ (n : ℕ) (found : entry_number_of index key ≡ Some n) (once : StandOnce order) where
        bare : key_of_number later n ≡ None
        bare = removed_here (entry_number_of index) (entry_number_of later) (key_of_number index) (key_of_number later) inverse inverse_later key None change n refl found

        others : (m : ℕ) → m ≢ n → key_of_number later m ≡ key_of_number index m
        others = removed_elsewhere (entry_number_of index) (entry_number_of later) (key_of_number index) (key_of_number later) inverse inverse_later key None change n refl found

        has : key_of_number index n ≡ Some key
        has = (inverse key n).0 found

        -- a key that is taken out
        pub removed_table : lru_table later ids (released n order) ≡ table_without_key key (lru_table index ids order)
        removed_table =
            rw (released_order (key_of_number index) (key_of_number later) n others order once (ok.listed n (small key n found)) (id_at ids) bare (entry_number_of index) inverse key found, same_size, same_capacity) refl

        pub some_count : 0 < count
        some_count =
            let less = released_count (key_of_number index) (key_of_number later) n others order once (ok.listed n (small key n found)) (id_at ids) bare key has in
            omega (arith, less, ok.counted)

        pub removed_shard : IsLruShard later ids (released n order) (count - 1)
        removed_shard =
            let there = ok.listed n (small key n found) in
            let less = released_count (key_of_number index) (key_of_number later) n others order once there (id_at ids) bare key has in
            record {
              small_keys = rw same_size ok.small_keys;
              some = rw same_capacity ok.some;
              id_count = ok.id_count ∙ sym same_capacity;
              number_count = released_length n order there ∙ (ok.number_count ∙ sym same_capacity);
              listed = λ m lt. released_listed n m order there ∙ ok.listed m (omega (arith, lt, same_capacity));
              in_range = λ m is. (let lt = ok.in_range m (sym (released_listed n m order there) ∙ is) in omega (arith, lt, same_capacity));
              free_last = released_free (key_of_number index) (key_of_number later) n others order once there (id_at ids) bare ok.free_last;
              counted = omega (arith, less, ok.counted);
            }

        -- the key of the last number is taken out of a full shard
        module _ (last : slice_get order (length order - 1) ≡ Some n) (full : count ≡ index.capacity) where
          less_order : in_order (key_of_number index) (id_at ids) order ≡ in_order (key_of_number later) (id_at ids) order ++ (key, id_at ids n) ∷ []
          less_order = evicted_order (key_of_number index) (key_of_number later) n others (id_at ids) key has bare order once last

          pub evicted_table : lru_table later ids order ≡ without_victim (lru_table index ids order)
          evicted_table = rw (less_order, same_size, same_capacity, all_but_last_append (in_order (key_of_number later) (id_at ids) order) (key, id_at ids n)) refl

          pub evicted_count : length (lru_table later ids order).entries + 1 ≡ length (lru_table index ids order).entries
          evicted_count = rw (less_order, one_more (in_order (key_of_number later) (id_at ids) order) (key, id_at ids n)) refl

          pub evicted_absent : (q : List ℕ) → cell_of_lru_key (lru_table index ids order) q ≡ None → cell_of_lru_key (lru_table later ids order) q ≡ None
          evicted_absent q absent = absent_before q (in_order (key_of_number later) (id_at ids) order) (key, id_at ids n) (rw less_order at absent)

          pub evicted_cell : option_map (λ (entry : List ℕ × ℕ). entry.1) (victim (lru_table index ids order)) ≡ Some (id_at ids n)
          evicted_cell = rw (less_order, last_of_append (in_order (key_of_number later) (id_at ids) order) (key, id_at ids n)) refl

          pub evicted_shard : IsLruShard later ids order (count - 1)
          evicted_shard =
              let less : length (in_order (key_of_number index) (id_at ids) order) ≡ length (in_order (key_of_number later) (id_at ids) order) + 1 = rw less_order (one_more (in_order (key_of_number later) (id_at ids) order) (key, id_at ids n)) in
              record {
                small_keys = rw same_size ok.small_keys;
                some = rw same_capacity ok.some;
                id_count = ok.id_count ∙ sym same_capacity;
                number_count = ok.number_count ∙ sym same_capacity;
                listed = λ m lt. ok.listed m (omega (arith, lt, same_capacity));
                in_range = λ m is. (let lt = ok.in_range m is in omega (arith, lt, same_capacity));
                free_last = evicted_free (key_of_number index) (key_of_number later) n others (id_at ids) key has bare order once last (omega (arith, ok.counted, ok.number_count, full));
                counted = omega (arith, less, ok.counted);
              }

-- ---- a shard with no key

module _ (size capacity : ℕ) (ids : List ℕ) (small : size ≤ 32) (some : 0 < capacity) (long : length ids ≡ capacity) where
  abbrev empty : KeyMap
  empty = record { size = size; capacity = capacity; entries = [] }

  empty_order : in_order (key_of_number empty) (id_at ids) (countdown capacity) ≡ []
  empty_order = order_of_none (key_of_number empty) (id_at ids) (countdown capacity) (λ m. refl)

  pub empty_shard : IsLruShard empty ids (countdown capacity) 0
  empty_shard = record {
    small_keys = small;
    some = some;
    id_count = long;
    number_count = countdown_length capacity;
    listed = λ m lt. countdown_listed capacity m lt;
    in_range = λ m there. countdown_in_range capacity m there;
    free_last = free_of_none (key_of_number empty) (id_at ids) (countdown capacity) (λ m. refl);
    counted = ap length empty_order;
  }

  pub empty_table : lru_table empty ids (countdown capacity) ≡ record { size = size; capacity = capacity; entries = [] }
  empty_table = rw empty_order refl
