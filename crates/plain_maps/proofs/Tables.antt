-- A keyed shard's cells, by the index of its keys.
use Rattle.std.proofs.Common.{◌≡◌, ◌≢◌, ℕ, ◌+◌, ◌<◌, ◌≤◌, cond, List, [], ◌∷◌, ◌++◌, length, map, get_or, set, Option, Some, None, bytes_eq, refl, sym, ap, ◌∙◌, inl, inr, arith}
use Rattle.std.specs.Map.{lookup}
use Rattle.std.specs.Option.{option_map}
use Rattle.std.proofs.lemmas.Bool.{cases_Bool, cases_lt}
use Rattle.std.proofs.lemmas.List.{get_or_append_left, get_or_push, get_or-set_same, get_or-set_other, length-append}
use Rattle.plain_maps.specs.Keyed.{KeyMap, entry_number_of}
use Rattle.plain_maps.specs.HashTable.{cell_of, with_id, hash_table, IsHashTable}

pub cell_by_entry : (ids q : List ℕ) (es : List (List ℕ × ℕ)) → lookup (bytes_eq q) (map (with_id ids) es) ≡ option_map (λ (n : ℕ). get_or ids n 0) (lookup (bytes_eq q) es)
cell_by_entry ids q [] = refl
cell_by_entry ids q (e ∷ es) = elim (cases_Bool (bytes_eq q e.0)) [
  | inl same ↦ rw same refl
  | inr apart ↦ rw apart (cell_by_entry ids q es)
]

none_by_cell : (ids : List ℕ) (o : Option ℕ) → option_map (λ (n : ℕ). get_or ids n 0) o ≡ None → o ≡ None
none_by_cell ids None absent = refl
none_by_cell ids (Some n) absent = absurd (cc absent)

pub absent_entry : (index : KeyMap) (ids q : List ℕ) → cell_of (hash_table index ids) q ≡ None → entry_number_of index q ≡ None
absent_entry index ids q absent = none_by_cell ids (entry_number_of index q) (sym (cell_by_entry ids q index.entries) ∙ absent)

-- ---- a key gets a cell

module _ (before after : KeyMap) (ids : List ℕ) (key : List ℕ) (n id : ℕ) (within : n < length ids) (unused : (q : List ℕ) → entry_number_of before q ≢ Some n) (changed : (q : List ℕ) → entry_number_of after q ≡ cond (bytes_eq key q) (Some n) (entry_number_of before q)) where
  pub cells_inserted : (q : List ℕ) → cell_of (hash_table after (set ids n id)) q ≡ cond (bytes_eq key q) (Some id) (cell_of (hash_table before ids) q)
  cells_inserted q = cell_by_entry (set ids n id) q after.entries ∙ (ap (option_map (λ (m : ℕ). get_or (set ids n id) m 0)) (changed q) ∙ elim (cases_Bool (bytes_eq key q)) [
    | inl same ↦ rw same (ap Some (get_or-set_same ids n id 0 within))
    | inr apart ↦ rw apart (go (entry_number_of before q) refl ∙ sym (cell_by_entry ids q before.entries))
  ])
    where
      go : (o : Option ℕ) → entry_number_of before q ≡ o → option_map (λ (m : ℕ). get_or (set ids n id) m 0) (entry_number_of before q) ≡ option_map (λ (m : ℕ). get_or ids m 0) (entry_number_of before q)
      go None none = rw none refl
      go (Some m) found = rw found (ap Some (get_or-set_other ids n m id 0 (λ same. unused q (found ∙ ap Some same))))

-- ---- a key goes

module _ (before after : KeyMap) (ids : List ℕ) (key : List ℕ) (changed : (q : List ℕ) → entry_number_of after q ≡ cond (bytes_eq key q) None (entry_number_of before q)) where
  pub cells_removed : (q : List ℕ) → cell_of (hash_table after ids) q ≡ cond (bytes_eq key q) None (cell_of (hash_table before ids) q)
  cells_removed q = cell_by_entry ids q after.entries ∙ (ap (option_map (λ (m : ℕ). get_or ids m 0)) (changed q) ∙ elim (cases_Bool (bytes_eq key q)) [
    | inl same ↦ rw same refl
    | inr apart ↦ rw apart (sym (cell_by_entry ids q before.entries))
  ])

-- ---- the free numbers

module _ (before after : KeyMap) (ids more free : List ℕ) (room : ℕ) (key : List ℕ) (n : ℕ) (ok : IsHashTable before ids (free ++ n ∷ []) room) (same_capacity : after.capacity ≡ before.capacity) (count : length after.entries ≡ length before.entries + 1) (changed : (q : List ℕ) → entry_number_of after q ≡ cond (bytes_eq key q) (Some n) (entry_number_of before q)) (as_many : length more ≡ length ids) where
  at_left : (k : ℕ) → k < length free → get_or (free ++ n ∷ []) k 0 ≡ get_or free k 0
  at_left k lt = get_or_append_left free (n ∷ []) 0 k lt

  long : length (free ++ n ∷ []) ≡ length free + 1
  long = length-append free (n ∷ [])

  pub last_unused : (q : List ℕ) → entry_number_of before q ≢ Some n
  last_unused q found = ok.unused (length free) q (omega (arith, long)) (found ∙ ap Some (sym (get_or_push free n 0 (length free) refl)))

  pub last_small : n < before.capacity
  last_small = let h = ok.in_range (length free) (omega (arith, long)) in (rw (get_or_push free n 0 (length free) refl) at h)

  still_unused : (k : ℕ) (q : List ℕ) → k < length free → entry_number_of after q ≢ Some (get_or free k 0)
  still_unused k q lt found = elim (cases_Bool (bytes_eq key q)) [
    | inl same ↦ (let now = rw (changed q, same) at found in
        let is : n ≡ get_or free k 0 = cc now in
        ok.once k (length free) lt (omega (arith, long)) (at_left k lt ∙ (sym is ∙ sym (get_or_push free n 0 (length free) refl))))
    | inr apart ↦ (let was = rw (changed q, apart) at found in ok.unused k q (omega (arith, long, lt)) (was ∙ ap Some (sym (at_left k lt))))
  ]

  pub table_inserted : IsHashTable after more free room
  table_inserted = record {
    id_count = as_many ∙ (ok.id_count ∙ sym same_capacity);
    room = omega (arith, ok.room, same_capacity);
    in_range = λ k lt. (let h = ok.in_range k (omega (arith, long, lt)) in let small = rw (at_left k lt) at h in omega (arith, small, same_capacity));
    once = λ k m lower lt same. ok.once k m lower (omega (arith, long, lt)) (at_left k (omega arith) ∙ (same ∙ sym (at_left m lt)));
    unused = still_unused;
    balance = omega (arith, long, count, same_capacity, ok.balance);
  }

module _ (before after : KeyMap) (ids free : List ℕ) (room : ℕ) (key : List ℕ) (n : ℕ) (ok : IsHashTable before ids free room) (same_capacity : after.capacity ≡ before.capacity) (count : length after.entries + 1 ≡ length before.entries) (changed : (q : List ℕ) → entry_number_of after q ≡ cond (bytes_eq key q) None (entry_number_of before q)) (had : entry_number_of before key ≡ Some n) (small : n < before.capacity) (freed : (q : List ℕ) → entry_number_of after q ≢ Some n) where
  pub room_for_number : length free < room
  room_for_number = omega (arith, ok.balance, ok.room, count)

  longer : length (free ++ n ∷ []) ≡ length free + 1
  longer = length-append free (n ∷ [])

  kept : (k : ℕ) → k < length free → get_or (free ++ n ∷ []) k 0 ≡ get_or free k 0
  kept k lt = get_or_append_left free (n ∷ []) 0 k lt

  last : (k : ℕ) → k ≡ length free → get_or (free ++ n ∷ []) k 0 ≡ n
  last k same = get_or_push free n 0 k (sym same)

  unused_then : (k : ℕ) (q : List ℕ) → k < length free → entry_number_of after q ≢ Some (get_or free k 0)
  unused_then k q lt found = elim (cases_Bool (bytes_eq key q)) [
    | inl same ↦ (let now = rw (changed q, same) at found in cc now)
    | inr apart ↦ ok.unused k q lt (rw (changed q, apart) at found)
  ]

  pub table_removed : IsHashTable after ids (free ++ n ∷ []) room
  table_removed = record {
    id_count = ok.id_count ∙ sym same_capacity;
    room = omega (arith, ok.room, same_capacity);
    in_range = λ k lt. elim (cases_lt k (length free)) [
      | inl lower ↦ rw (kept k lower) (let h = ok.in_range k lower in omega (arith, h, same_capacity))
      | inr end ↦ (let at_end : k ≡ length free = omega (arith, longer, lt, end) in rw (last k at_end) (omega (arith, small, same_capacity)))
    ];
    once = λ k m lower lt same. elim (cases_lt m (length free)) [
      | inl within ↦ ok.once k m lower within (sym (kept k (omega arith)) ∙ (same ∙ kept m within))
      | inr end ↦ (let at_end : m ≡ length free = omega (arith, longer, lt, end) in
          ok.unused k key (omega arith) (had ∙ ap Some (sym (last m at_end) ∙ (sym same ∙ kept k (omega arith)))))
    ];
    unused = λ k q lt found. elim (cases_lt k (length free)) [
      | inl lower ↦ unused_then k q lower (found ∙ ap Some (kept k lower))
      | inr end ↦ (let at_end : k ≡ length free = omega (arith, longer, lt, end) in freed q (found ∙ ap Some (last k at_end)))
    ];
    balance = omega (arith, longer, count, same_capacity, ok.balance);
  }

-- ---- no keys yet

pub empty_table : (size capacity : ℕ) (index : KeyMap) (ids free : List ℕ) (room : ℕ) → index ≡ record { size = size; capacity = capacity; entries = [] } → length ids ≡ capacity → capacity ≤ room → length free ≡ capacity → ((k : ℕ) → k < capacity → get_or free k 0 ≡ k) → IsHashTable index ids free room
empty_table size capacity index ids free room is many wide long each = rw is (record {
  id_count = many;
  room = wide;
  in_range = λ k lt. (let h = each k (omega (arith, long, lt)) in omega (arith, h, long, lt));
  once = λ k m lower lt same. (let one = each k (omega (arith, long, lt, lower)) in let two = each m (omega (arith, long, lt)) in omega (arith, one, two, same, lower));
  unused = λ k q lt found. cc found;
  balance = omega (arith, long);
})

-- ---- what an entry says of a cell

pub found_cell : (index : KeyMap) (ids key : List ℕ) (n x : ℕ) → Some n ≡ entry_number_of index key → x ≡ get_or ids n 0 → Some x ≡ cell_of (hash_table index ids) key
found_cell index ids key n x found read = ap Some read ∙ (ap (option_map (λ (m : ℕ). get_or ids m 0)) found ∙ sym (cell_by_entry ids key index.entries))

pub absent_cell : (index : KeyMap) (ids key : List ℕ) → None ≡ entry_number_of index key → None ≡ cell_of (hash_table index ids) key
absent_cell index ids key absent = ap (option_map (λ (m : ℕ). get_or ids m 0)) absent ∙ sym (cell_by_entry ids key index.entries)

pub with_free : (index : KeyMap) (ids free other : List ℕ) (room : ℕ) → free ≡ other → IsHashTable index ids free room → IsHashTable index ids other room
with_free index ids free other room same ok = rw same at ok
