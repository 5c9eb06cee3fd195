-- What each call of a history leaves of the order by last uses, and that the last of it is the history's least recently used key.
use Rattle.std.proofs.Common.{◌≡◌, ℕ, suc, ◌+◌, ◌<◌, ◌≤◌, Bool, true, false, cond, not, ◌&&◌, ◌⊎◌, List, [], ◌∷◌, length, Option, Some, None, refl, sym, ap, ◌∙◌, inl, inr, nat_le, arith, bytes_eq, eq-eqb, ne_eqb}
use Rattle.std.specs.Prelude.{◌==◌, find, filter, option_map}
use Rattle.std.specs.List.{AllByRecursion, list_all}
use Rattle.std.specs.Map.{lookup, lookup_entry, remove_entry}
use Rattle.std.proofs.lemmas.Bool.Decides.{leb_tells}
use Rattle.std.proofs.lemmas.Bool.{le-leb, false≢true}
use Rattle.lru.specs.LruCache.{promoted}
use Rattle.semantics.specs.declared.call.Entry.{Entry}
use Rattle.semantics.specs.declared.plan.PresentKey.{PresentKey}
use Rattle.semantics.specs.declared.call.Call.TheVariants.{Lookup, Update}
use Rattle.semantics.specs.declared.call.Reply.{Reply}
use Rattle.semantics.specs.LeastRecentlyUsed.{is_found, is_done, call_uses, uses, last_use, least_recently_used, is_least_recently_used}
use Rattle.semantics.specs.SequentialShard.{cell_of_present}
use Rattle.semantics.specs.UseLaws.{ArePairwise}
use Rattle.lru_maps.specs.LruTable.{last_of, all_but_last_entry}
use Rattle.lru_maps.specs.ByUse.{IsUsedLater, HaveOtherKeys, HaveOtherCells, IsByUse}
use Rattle.semantics.proofs.shared.HoldingLemmas.{each_weaker}
use Rattle.semantics.proofs.shared.UseLemmas.{pairs_filter, used_within}
use Rattle.lru_maps.proofs.Orders.{same_key, key_same}

-- a test of keys does not ask which is first
either_way : (a b : List ℕ) → bytes_eq a b ≡ bytes_eq b a
either_way a b = go (bytes_eq a b) refl
  where
    go : (t : Bool) → bytes_eq a b ≡ t → bytes_eq a b ≡ bytes_eq b a
    go true same = (let e : a ≡ b = same_key a b same in rw e refl)
    go false differ = differ ∙ sym (back (bytes_eq b a) refl)
      where
        back : (t : Bool) → bytes_eq b a ≡ t → bytes_eq b a ≡ false
        back true same = absurd (false≢true (sym differ ∙ (let e : b ≡ a = same_key b a same in rw e (key_same a))))
        back false is = is

-- ---- lists

-- ---- entries by key

each_left : (P : List ℕ × ℕ → Type 0) (key : List ℕ) (entries : List (List ℕ × ℕ)) → AllByRecursion P entries → AllByRecursion P (remove_entry (bytes_eq key) entries)
each_left P key [] each = tt
each_left P key (e ∷ entries) each = by_test (bytes_eq key e.0) (each_left P key entries each.1)
  where
    by_test : (t : Bool) → AllByRecursion P (remove_entry (bytes_eq key) entries) → AllByRecursion P (cond t entries (e ∷ remove_entry (bytes_eq key) entries))
    by_test true rest = each.1
    by_test false rest = (each.0, rest)

pairs_left : (R : List ℕ × ℕ → List ℕ × ℕ → Type 0) (key : List ℕ) (entries : List (List ℕ × ℕ)) → ArePairwise R entries → ArePairwise R (remove_entry (bytes_eq key) entries)
pairs_left R key [] pairs = tt
pairs_left R key (e ∷ entries) pairs = by_test (bytes_eq key e.0) (pairs_left R key entries pairs.1)
  where
    by_test : (t : Bool) → ArePairwise R (remove_entry (bytes_eq key) entries) → ArePairwise R (cond t entries (e ∷ remove_entry (bytes_eq key) entries))
    by_test true rest = pairs.1
    by_test false rest = (each_left (R e) key entries pairs.0, rest)

-- an entry that is found has the key and the cell that a look-up returns
entry_found : (key : List ℕ) (id : ℕ) (entries : List (List ℕ × ℕ)) → lookup (bytes_eq key) entries ≡ Some id → lookup_entry (bytes_eq key) entries ≡ Some (key, id)
entry_found key id [] found = absurd (cc found)
entry_found key id (e ∷ entries) found = by_test (bytes_eq key e.0) refl found (entry_found key id entries)
  where
    by_test : (t : Bool) → bytes_eq key e.0 ≡ t → cond t (Some e.1) (lookup (bytes_eq key) entries) ≡ Some id → (lookup (bytes_eq key) entries ≡ Some id → lookup_entry (bytes_eq key) entries ≡ Some (key, id)) → cond t (Some e) (lookup_entry (bytes_eq key) entries) ≡ Some (key, id)
    by_test true same is rest =
        let i : e.1 ≡ id = cc is in
        let k : e.0 ≡ key = sym (same_key key e.0 same) in
        rw (← i, ← k) refl
    by_test false differ is rest = rest is

length_left : (key : List ℕ) (id : ℕ) (entries : List (List ℕ × ℕ)) → lookup (bytes_eq key) entries ≡ Some id → length (remove_entry (bytes_eq key) entries) + 1 ≡ length entries
length_left key id [] found = absurd (cc found)
length_left key id (e ∷ entries) found = by_test (bytes_eq key e.0) found (length_left key id entries)
  where
    by_test : (t : Bool) → cond t (Some e.1) (lookup (bytes_eq key) entries) ≡ Some id → (lookup (bytes_eq key) entries ≡ Some id → length (remove_entry (bytes_eq key) entries) + 1 ≡ length entries) → length (cond t entries (e ∷ remove_entry (bytes_eq key) entries)) + 1 ≡ length (e ∷ entries)
    by_test true is before = omega arith
    by_test false is before = let rest = before is in omega (arith, rest)

-- another key is found as before
other_found : (key q : List ℕ) (entries : List (List ℕ × ℕ)) → bytes_eq key q ≡ false → lookup (bytes_eq q) (remove_entry (bytes_eq key) entries) ≡ lookup (bytes_eq q) entries
other_found key q [] apart = refl
other_found key q (e ∷ entries) apart = by_test (bytes_eq key e.0) refl (other_found key q entries apart)
  where
    by_test : (t : Bool) → bytes_eq key e.0 ≡ t → lookup (bytes_eq q) (remove_entry (bytes_eq key) entries) ≡ lookup (bytes_eq q) entries → lookup (bytes_eq q) (cond t entries (e ∷ remove_entry (bytes_eq key) entries)) ≡ lookup (bytes_eq q) (e ∷ entries)
    by_test true same rest =
        let k : key ≡ e.0 = same_key key e.0 same in
        let differs : bytes_eq q e.0 ≡ false = rw (← k) (either_way q key ∙ apart) in
        rw differs refl
    by_test false differ rest = ap (λ (later : Option ℕ). cond (bytes_eq q e.0) (Some e.1) later) rest

none_apart : (key : List ℕ) (entries : List (List ℕ × ℕ)) → AllByRecursion (λ (o : List ℕ × ℕ). bytes_eq key o.0 ≡ false) entries → lookup (bytes_eq key) entries ≡ None
none_apart key [] apart = refl
none_apart key (e ∷ entries) apart = rw apart.0 (none_apart key entries apart.1)

apart_none : (key : List ℕ) (entries : List (List ℕ × ℕ)) → lookup (bytes_eq key) entries ≡ None → AllByRecursion (λ (o : List ℕ × ℕ). bytes_eq key o.0 ≡ false) entries
apart_none key [] none = tt
apart_none key (e ∷ entries) none = by_test (bytes_eq key e.0) refl none (apart_none key entries)
  where
    by_test : (t : Bool) → bytes_eq key e.0 ≡ t → cond t (Some e.1) (lookup (bytes_eq key) entries) ≡ None → (lookup (bytes_eq key) entries ≡ None → AllByRecursion (λ (o : List ℕ × ℕ). bytes_eq key o.0 ≡ false) entries) → (bytes_eq key e.0 ≡ false) × AllByRecursion (λ (o : List ℕ × ℕ). bytes_eq key o.0 ≡ false) entries
    by_test true same is rest = absurd (cc is)
    by_test false differ is rest = (differ, rest is)

-- ---- the order by last uses

module _ (history : List Entry) where
  -- a key that was used before all these is none of them
  earlier_apart : (e : List ℕ × ℕ) (entries : List (List ℕ × ℕ)) → AllByRecursion (IsUsedLater history e) entries → AllByRecursion (λ (o : List ℕ × ℕ). bytes_eq e.0 o.0 ≡ false) entries
  earlier_apart e entries later = each_weaker (IsUsedLater history e) (λ (o : List ℕ × ℕ). bytes_eq e.0 o.0 ≡ false) apart entries later
    where
      apart : (o : List ℕ × ℕ) → last_use o.0 history < last_use e.0 history → bytes_eq e.0 o.0 ≡ false
      apart o lt = by_test (bytes_eq e.0 o.0) refl
        where
          by_test : (t : Bool) → bytes_eq e.0 o.0 ≡ t → bytes_eq e.0 o.0 ≡ false
          by_test true same =
              let k : last_use e.0 history ≡ last_use o.0 history = ap (λ (key : List ℕ). last_use key history) (same_key e.0 o.0 same) in
              absurd (omega (arith, lt, k))
          by_test false differ = differ

  -- a key is there once
  left_apart : (key : List ℕ) (entries : List (List ℕ × ℕ)) → ArePairwise (IsUsedLater history) entries → AllByRecursion (λ (o : List ℕ × ℕ). bytes_eq key o.0 ≡ false) (remove_entry (bytes_eq key) entries)
  left_apart key [] falling = tt
  left_apart key (e ∷ entries) falling = by_test (bytes_eq key e.0) refl (left_apart key entries falling.1)
    where
      by_test : (t : Bool) → bytes_eq key e.0 ≡ t → AllByRecursion (λ (o : List ℕ × ℕ). bytes_eq key o.0 ≡ false) (remove_entry (bytes_eq key) entries) → AllByRecursion (λ (o : List ℕ × ℕ). bytes_eq key o.0 ≡ false) (cond t entries (e ∷ remove_entry (bytes_eq key) entries))
      by_test true same rest = (let k : key ≡ e.0 = same_key key e.0 same in rw k (earlier_apart e entries falling.0))
      by_test false differ rest = (differ, rest)

module _ (entry : Entry) (older : List Entry) where
  unused_stays : (key : List ℕ) → uses key entry ≡ false → last_use key (entry ∷ older) ≡ last_use key older
  unused_stays key none = rw none refl

  used_now : (key : List ℕ) → uses key entry ≡ true → last_use key (entry ∷ older) ≡ suc (length older)
  used_now key is = rw is refl

  -- keys that the entry doesn't use stay in order
  falling_on : (entries : List (List ℕ × ℕ)) → AllByRecursion (λ (o : List ℕ × ℕ). uses o.0 entry ≡ false) entries → ArePairwise (IsUsedLater older) entries → ArePairwise (IsUsedLater (entry ∷ older)) entries
  falling_on [] none falling = tt
  falling_on (e ∷ entries) none falling = (each_on entries none.1 falling.0, falling_on entries none.1 falling.1)
    where
      each_on : (others : List (List ℕ × ℕ)) → AllByRecursion (λ (o : List ℕ × ℕ). uses o.0 entry ≡ false) others → AllByRecursion (IsUsedLater older e) others → AllByRecursion (IsUsedLater (entry ∷ older) e) others
      each_on [] unused later = tt
      each_on (o ∷ others) unused later =
          let first : last_use o.0 (entry ∷ older) ≡ last_use o.0 older = unused_stays o.0 unused.0 in
          let second : last_use e.0 (entry ∷ older) ≡ last_use e.0 older = unused_stays e.0 none.0 in
          let was : last_use o.0 older < last_use e.0 older = later.0 in
          (omega (arith, first, second, was), each_on others unused.1 later.1)

  -- the key that the entry uses was used after all others
  first_later : (key : List ℕ) (id : ℕ) (entries : List (List ℕ × ℕ)) → uses key entry ≡ true → AllByRecursion (λ (o : List ℕ × ℕ). uses o.0 entry ≡ false) entries → AllByRecursion (IsUsedLater (entry ∷ older) (key, id)) entries
  first_later key id [] is none = tt
  first_later key id (o ∷ entries) is none =
      let first : last_use o.0 (entry ∷ older) ≡ last_use o.0 older = unused_stays o.0 none.0 in
      let now : last_use key (entry ∷ older) ≡ suc (length older) = used_now key is in
      let few : last_use o.0 older ≤ length older = used_within o.0 older in
      (omega (arith, first, now, few), first_later key id entries is none.1)

  module _ (present : List PresentKey) (entries : List (List ℕ × ℕ)) (before : IsByUse older present entries) where
    -- an entry that uses no key
    pub by_use_on : ((q : List ℕ) → uses q entry ≡ false) → IsByUse (entry ∷ older) present entries
    by_use_on none = record {
      count = before.count;
      cells = before.cells;
      falling = falling_on entries (any entries) before.falling;
      keys_apart = before.keys_apart;
      cells_apart = before.cells_apart;
    }
      where
        any : (es : List (List ℕ × ℕ)) → AllByRecursion (λ (o : List ℕ × ℕ). uses o.0 entry ≡ false) es
        any [] = tt
        any (e ∷ es) = (none e.0, any es)

    module _ (key : List ℕ) (of_key : (q : List ℕ) → uses q entry ≡ bytes_eq key q) where
      unused : (es : List (List ℕ × ℕ)) → AllByRecursion (λ (o : List ℕ × ℕ). bytes_eq key o.0 ≡ false) es → AllByRecursion (λ (o : List ℕ × ℕ). uses o.0 entry ≡ false) es
      unused es apart = each_weaker (λ (o : List ℕ × ℕ). bytes_eq key o.0 ≡ false) (λ (o : List ℕ × ℕ). uses o.0 entry ≡ false) (λ o differ. of_key o.0 ∙ differ) es apart

      -- a use of a key that is there: a Lookup that finds it, an Update that writes its cell
      pub by_use_touched : (id : ℕ) → cell_of_present present key ≡ Some id → IsByUse (entry ∷ older) present (promoted (bytes_eq key) entries)
      by_use_touched id there =
          let found : lookup (bytes_eq key) entries ≡ Some id = sym (before.cells key) ∙ there in
          let apart = left_apart older key entries before.falling in
          rw (entry_found key id entries found) (record {
            count = (let less = length_left key id entries found in omega (arith, before.count, less));
            cells = λ q. before.cells q ∙ sym (as_before id found q);
            falling = (
              first_later key id (remove_entry (bytes_eq key) entries) (of_key key ∙ key_same key) (unused (remove_entry (bytes_eq key) entries) apart),
              falling_on (remove_entry (bytes_eq key) entries) (unused (remove_entry (bytes_eq key) entries) apart) (pairs_left (IsUsedLater older) key entries before.falling),
            );
            keys_apart = before.keys_apart;
            cells_apart = before.cells_apart;
          })
        where
          as_before : (id : ℕ) → lookup (bytes_eq key) entries ≡ Some id → (q : List ℕ) → lookup (bytes_eq q) ((key, id) ∷ remove_entry (bytes_eq key) entries) ≡ lookup (bytes_eq q) entries
          as_before id found q = by_test (bytes_eq q key) refl
            where
              by_test : (t : Bool) → bytes_eq q key ≡ t → cond t (Some id) (lookup (bytes_eq q) (remove_entry (bytes_eq key) entries)) ≡ lookup (bytes_eq q) entries
              by_test true same = (let k : q ≡ key = same_key q key same in rw k (sym found))
              by_test false differ = other_found key q entries (either_way key q ∙ differ)

      -- a new key
      pub by_use_new : (id : ℕ) → cell_of_present present key ≡ None → AllByRecursion (λ (one : PresentKey). id ≡ one.cell → ⊥) present → IsByUse (entry ∷ older) (record { key = key; cell = id } ∷ present) ((key, id) ∷ entries)
      by_use_new id absent other_cells =
          let apart = apart_none key entries (sym (before.cells key) ∙ absent) in
          record {
            count = ap suc before.count;
            cells = with_first;
            falling = (first_later key id entries (of_key key ∙ key_same key) (unused entries apart), falling_on entries (unused entries apart) before.falling);
            keys_apart = (not_there present absent, before.keys_apart);
            cells_apart = (other_cells, before.cells_apart);
          }
        where
          with_first : (q : List ℕ) → cell_of_present (record { key = key; cell = id } ∷ present) q ≡ lookup (bytes_eq q) ((key, id) ∷ entries)
          with_first q = rw (either_way q key) (by_test (bytes_eq key q))
            where
              by_test : (t : Bool) → option_map (λ (found : PresentKey). found.cell) (cond t (Some (record { key = key; cell = id })) (find (λ (one : PresentKey). bytes_eq one.key q) present)) ≡ cond t (Some id) (lookup (bytes_eq q) entries)
              by_test true = refl
              by_test false = before.cells q

          not_there : (others : List PresentKey) → cell_of_present others key ≡ None → AllByRecursion (HaveOtherKeys (record { key = key; cell = id })) others
          not_there [] none = tt
          not_there (one ∷ others) none = by_test (bytes_eq one.key key) refl none (not_there others)
            where
              by_test : (t : Bool) → bytes_eq one.key key ≡ t → option_map (λ (found : PresentKey). found.cell) (cond t (Some one) (find (λ (o : PresentKey). bytes_eq o.key key) others)) ≡ None →
                  (cell_of_present others key ≡ None → AllByRecursion (HaveOtherKeys (record { key = key; cell = id })) others) → (key ≡ one.key → ⊥) × AllByRecursion (HaveOtherKeys (record { key = key; cell = id })) others
              by_test true same is rest = absurd (cc is)
              by_test false differ is rest = ((λ same. false≢true (sym differ ∙ (rw same (key_same one.key)))), rest is)

-- ---- a key that is taken out

each_found : (P : PresentKey → Type 0) (test : PresentKey → Bool) (present : List PresentKey) (found : PresentKey) → AllByRecursion P present → find test present ≡ Some found → P found
each_found P test [] found each is = absurd (cc is)
each_found P test (one ∷ present) found each is = by_test (test one) is (each_found P test present found each.1)
  where
    by_test : (t : Bool) → cond t (Some one) (find test present) ≡ Some found → (find test present ≡ Some found → P found) → P found
    by_test true here rest = (let same : one ≡ found = cc here in rw (← same) each.0)
    by_test false past rest = rest past

-- what a search by key finds has the key
found_key : (key : List ℕ) (present : List PresentKey) (gone : PresentKey) → find (λ (one : PresentKey). bytes_eq one.key key) present ≡ Some gone → gone.key ≡ key
found_key key [] gone found = absurd (cc found)
found_key key (one ∷ present) gone found = by_test (bytes_eq one.key key) refl found (found_key key present gone)
  where
    by_test : (t : Bool) → bytes_eq one.key key ≡ t → cond t (Some one) (find (λ (o : PresentKey). bytes_eq o.key key) present) ≡ Some gone → (find (λ (o : PresentKey). bytes_eq o.key key) present ≡ Some gone → gone.key ≡ key) → gone.key ≡ key
    by_test true same is rest = (let e : one ≡ gone = cc is in rw (← e) (same_key one.key key same))
    by_test false differ is rest = rest is

other_keys : (one : PresentKey) (present : List PresentKey) → AllByRecursion (HaveOtherKeys one) present → cell_of_present present one.key ≡ None
other_keys one [] apart = refl
other_keys one (o ∷ present) apart = by_test (bytes_eq o.key one.key) refl (other_keys one present apart.1)
  where
    by_test : (t : Bool) → bytes_eq o.key one.key ≡ t → cell_of_present present one.key ≡ None → option_map (λ (found : PresentKey). found.cell) (cond t (Some o) (find (λ (p : PresentKey). bytes_eq p.key one.key) present)) ≡ None
    by_test true same rest = absurd (apart.0 (sym (same_key o.key one.key same)))
    by_test false differ rest = rest

others_stay : (gone : PresentKey) (present : List PresentKey) → AllByRecursion (λ (one : PresentKey). gone.cell ≡ one.cell → ⊥) present → filter (λ (one : PresentKey). not (one.cell == gone.cell)) present ≡ present
others_stay gone [] apart = refl
others_stay gone (one ∷ present) apart = rw (ne_eqb one.cell gone.cell (λ same. apart.0 (sym same))) (ap (λ (rest : List PresentKey). one ∷ rest) (others_stay gone present apart.1))

module _ (key : List ℕ) (gone : PresentKey) where
  abbrev left : List PresentKey → List PresentKey
  left present = filter (λ (one : PresentKey). not (one.cell == gone.cell)) present

  -- one key less
  one_less : (present : List PresentKey) → ArePairwise HaveOtherCells present → find (λ (one : PresentKey). bytes_eq one.key key) present ≡ Some gone → length (left present) + 1 ≡ length present
  one_less [] cells found = absurd (cc found)
  one_less (one ∷ present) cells found = by_test (bytes_eq one.key key) found (one_less present cells.1)
    where
      by_test : (t : Bool) → cond t (Some one) (find (λ (o : PresentKey). bytes_eq o.key key) present) ≡ Some gone → (find (λ (o : PresentKey). bytes_eq o.key key) present ≡ Some gone → length (left present) + 1 ≡ length present) →
          length (left (one ∷ present)) + 1 ≡ length (one ∷ present)
      by_test true is rest =
          let e : one ≡ gone = cc is in
          let others : AllByRecursion (λ (o : PresentKey). gone.cell ≡ o.cell → ⊥) present = rw (← e) cells.0 in
          let same : (one.cell == gone.cell) ≡ true = eq-eqb one.cell gone.cell (ap (λ (p : PresentKey). p.cell) e) in
          rw (same, others_stay gone present others) (omega arith)
      by_test false is rest =
          let apart : one.cell ≡ gone.cell → ⊥ = each_found (HaveOtherCells one) (λ (o : PresentKey). bytes_eq o.key key) present gone cells.0 is in
          let less = rest is in
          rw (ne_eqb one.cell gone.cell apart) (omega (arith, less))

  -- the key is not found any more, and the others are
  cells_left : (present : List PresentKey) → ArePairwise HaveOtherCells present → ArePairwise HaveOtherKeys present → find (λ (one : PresentKey). bytes_eq one.key key) present ≡ Some gone → (q : List ℕ) → cell_of_present (left present) q ≡ cond (bytes_eq key q) None (cell_of_present present q)
  cells_left [] cells keys found q = absurd (cc found)
  cells_left (one ∷ present) cells keys found q = by_test (bytes_eq one.key key) refl found (λ is. cells_left present cells.1 keys.1 is q)
    where
      by_test : (t : Bool) → bytes_eq one.key key ≡ t → cond t (Some one) (find (λ (o : PresentKey). bytes_eq o.key key) present) ≡ Some gone →
          (find (λ (o : PresentKey). bytes_eq o.key key) present ≡ Some gone → cell_of_present (left present) q ≡ cond (bytes_eq key q) None (cell_of_present present q)) →
          cell_of_present (left (one ∷ present)) q ≡ cond (bytes_eq key q) None (cell_of_present (one ∷ present) q)
      by_test true same is rest =
          let e : one ≡ gone = cc is in
          let k : one.key ≡ key = same_key one.key key same in
          let others : AllByRecursion (λ (o : PresentKey). gone.cell ≡ o.cell → ⊥) present = rw (← e) cells.0 in
          let equal : (one.cell == gone.cell) ≡ true = eq-eqb one.cell gone.cell (ap (λ (p : PresentKey). p.cell) e) in
          rw (equal, others_stay gone present others) (by_q (bytes_eq key q) refl k)
        where
          by_q : (t : Bool) → bytes_eq key q ≡ t → one.key ≡ key → cell_of_present present q ≡ cond t None (cell_of_present (one ∷ present) q)
          by_q true this k = (let e : one.key ≡ q = k ∙ same_key key q this in rw (← e) (other_keys one present keys.0))
          by_q false differ k = (let apart : bytes_eq one.key q ≡ false = rw k differ in rw apart refl)
      by_test false differ is rest =
          let apart : one.cell ≡ gone.cell → ⊥ = each_found (HaveOtherCells one) (λ (o : PresentKey). bytes_eq o.key key) present gone cells.0 is in
          rw (ne_eqb one.cell gone.cell apart) (by_q (bytes_eq one.key q) refl (rest is))
        where
          by_q : (t : Bool) → bytes_eq one.key q ≡ t → cell_of_present (left present) q ≡ cond (bytes_eq key q) None (cell_of_present present q) →
              option_map (λ (found : PresentKey). found.cell) (cond t (Some one) (find (λ (o : PresentKey). bytes_eq o.key q) (left present))) ≡ cond (bytes_eq key q) None (option_map (λ (found : PresentKey). found.cell) (cond t (Some one) (find (λ (o : PresentKey). bytes_eq o.key q) present)))
          by_q true this later =
              let e : one.key ≡ q = same_key one.key q this in
              let not_q : bytes_eq key q ≡ false = either_way key q ∙ rw (← e) differ in
              rw not_q refl
          by_q false other later = later

entries_left : (history : List Entry) (key q : List ℕ) (entries : List (List ℕ × ℕ)) → ArePairwise (IsUsedLater history) entries → lookup (bytes_eq q) (remove_entry (bytes_eq key) entries) ≡ cond (bytes_eq key q) None (lookup (bytes_eq q) entries)
entries_left history key q entries falling = by_test (bytes_eq key q) refl
  where
    by_test : (t : Bool) → bytes_eq key q ≡ t → lookup (bytes_eq q) (remove_entry (bytes_eq key) entries) ≡ cond t None (lookup (bytes_eq q) entries)
    by_test true same = (let e : key ≡ q = same_key key q same in rw (← e) (none_apart key (remove_entry (bytes_eq key) entries) (left_apart history key entries falling)))
    by_test false differ = other_found key q entries differ

module _ (history : List Entry) (present : List PresentKey) (entries : List (List ℕ × ℕ)) (before : IsByUse history present entries) where
  -- a key whose cell is retired: a Delete that finds it, and what makes room for a new one
  pub by_use_removed : (key : List ℕ) (gone : PresentKey) → find (λ (one : PresentKey). bytes_eq one.key key) present ≡ Some gone → IsByUse history (filter (λ (one : PresentKey). not (one.cell == gone.cell)) present) (remove_entry (bytes_eq key) entries)
  by_use_removed key gone found =
      let there : lookup (bytes_eq key) entries ≡ Some gone.cell = sym (before.cells key) ∙ ap (option_map (λ (one : PresentKey). one.cell)) found in
      let fewer = one_less key gone present before.cells_apart found in
      let less = length_left key gone.cell entries there in
      record {
        count = omega (arith, fewer, less, before.count);
        cells = λ q. cells_left key gone present before.cells_apart before.keys_apart found q ∙ (ap (cond (bytes_eq key q) None) (before.cells q) ∙ sym (entries_left history key q entries before.falling));
        falling = pairs_left (IsUsedLater history) key entries before.falling;
        keys_apart = pairs_filter HaveOtherKeys (λ (one : PresentKey). not (one.cell == gone.cell)) present before.keys_apart;
        cells_apart = pairs_filter HaveOtherCells (λ (one : PresentKey). not (one.cell == gone.cell)) present before.cells_apart;
      }

-- ---- the last of the order

module _ (history : List Entry) (key : List ℕ) (id : ℕ) where
  each_last : (P : List ℕ × ℕ → Type 0) (entries : List (List ℕ × ℕ)) → AllByRecursion P entries → last_of entries ≡ Some (key, id) → P (key, id)
  each_last P [] each last = absurd (cc last)
  each_last P (e ∷ []) each last = (let same : e ≡ (key, id) = cc last in rw (← same) each.0)
  each_last P (e ∷ f ∷ entries) each last = each_last P (f ∷ entries) each.1 last

  -- an entry before the last has another key, that was used later
  before_last : (e : List ℕ × ℕ) (entries : List (List ℕ × ℕ)) → AllByRecursion (IsUsedLater history e) entries → last_of entries ≡ Some (key, id) → last_use key history < last_use e.0 history
  before_last e entries later last = each_last (IsUsedLater history e) entries later last

  apart_last : (e : List ℕ × ℕ) (entries : List (List ℕ × ℕ)) → AllByRecursion (IsUsedLater history e) entries → last_of entries ≡ Some (key, id) → bytes_eq key e.0 ≡ false
  apart_last e entries later last = by_test (bytes_eq key e.0) refl (before_last e entries later last)
    where
      by_test : (t : Bool) → bytes_eq key e.0 ≡ t → last_use key history < last_use e.0 history → bytes_eq key e.0 ≡ false
      by_test true same lt = (let k : last_use key history ≡ last_use e.0 history = ap (λ (q : List ℕ). last_use q history) (same_key key e.0 same) in absurd (omega (arith, lt, k)))
      by_test false differ lt = differ

  last_left : (entries : List (List ℕ × ℕ)) → ArePairwise (IsUsedLater history) entries → last_of entries ≡ Some (key, id) → remove_entry (bytes_eq key) entries ≡ all_but_last_entry entries
  last_left [] falling last = absurd (cc last)
  last_left (e ∷ []) falling last = (let same : e ≡ (key, id) = cc last in rw (same, key_same key) refl)
  last_left (e ∷ f ∷ entries) falling last = rw (apart_last e (f ∷ entries) falling.0 last) (ap (λ (rest : List (List ℕ × ℕ)). e ∷ rest) (last_left (f ∷ entries) falling.1 last))

  last_found : (entries : List (List ℕ × ℕ)) → ArePairwise (IsUsedLater history) entries → last_of entries ≡ Some (key, id) → lookup (bytes_eq key) entries ≡ Some id
  last_found [] falling last = absurd (cc last)
  last_found (e ∷ []) falling last = (let same : e ≡ (key, id) = cc last in rw (same, key_same key) refl)
  last_found (e ∷ f ∷ entries) falling last = rw (apart_last e (f ∷ entries) falling.0 last) (last_found (f ∷ entries) falling.1 last)

  -- whatever else is found was used later
  last_least : (q : List ℕ) (cell : ℕ) (entries : List (List ℕ × ℕ)) → ArePairwise (IsUsedLater history) entries → last_of entries ≡ Some (key, id) → lookup (bytes_eq q) entries ≡ Some cell → (q ≡ key) ⊎ (last_use key history < last_use q history)
  last_least q cell [] falling last found = absurd (cc last)
  last_least q cell (e ∷ []) falling last found = by_test (bytes_eq q e.0) refl found
    where
      by_test : (t : Bool) → bytes_eq q e.0 ≡ t → cond t (Some e.1) None ≡ Some cell → (q ≡ key) ⊎ (last_use key history < last_use q history)
      by_test true same is = (let e_is : e ≡ (key, id) = cc last in inl (same_key q e.0 same ∙ ap (λ (o : List ℕ × ℕ). o.0) e_is))
      by_test false differ is = absurd (cc is)
  last_least q cell (e ∷ f ∷ entries) falling last found = by_test (bytes_eq q e.0) refl found (last_least q cell (f ∷ entries) falling.1 last)
    where
      by_test : (t : Bool) → bytes_eq q e.0 ≡ t → cond t (Some e.1) (lookup (bytes_eq q) (f ∷ entries)) ≡ Some cell → (lookup (bytes_eq q) (f ∷ entries) ≡ Some cell → (q ≡ key) ⊎ (last_use key history < last_use q history)) → (q ≡ key) ⊎ (last_use key history < last_use q history)
      by_test true same is rest = (let k : q ≡ e.0 = same_key q e.0 same in inr (rw k (before_last e (f ∷ entries) falling.0 last)))
      by_test false differ is rest = rest is

-- ---- the least recently used key

each_both : (P Q R : PresentKey → Type 0) → ((x : PresentKey) → P x → Q x → R x) → (xs : List PresentKey) → AllByRecursion P xs → AllByRecursion Q xs → AllByRecursion R xs
each_both P Q R both [] p q = tt
each_both P Q R both (x ∷ xs) p q = (both x p.0 q.0, each_both P Q R both xs p.1 q.1)

-- a present key is found with its cell
present_found : (present : List PresentKey) → ArePairwise HaveOtherKeys present → AllByRecursion (λ (one : PresentKey). cell_of_present present one.key ≡ Some one.cell) present
present_found [] apart = tt
present_found (one ∷ present) apart = (
  rw (key_same one.key) refl,
  each_both (HaveOtherKeys one) (λ (o : PresentKey). cell_of_present present o.key ≡ Some o.cell) (λ (o : PresentKey). cell_of_present (one ∷ present) o.key ≡ Some o.cell)
      (λ o other found. past o (bytes_eq one.key o.key) refl other found) present apart.0 (present_found present apart.1),
)
  where
    past : (o : PresentKey) (t : Bool) → bytes_eq one.key o.key ≡ t → (one.key ≡ o.key → ⊥) → cell_of_present present o.key ≡ Some o.cell → option_map (λ (found : PresentKey). found.cell) (cond t (Some one) (find (λ (p : PresentKey). bytes_eq p.key o.key) present)) ≡ Some o.cell
    past o true same other found = absurd (other (same_key one.key o.key same))
    past o false differ other found = found

all_pass : (test : PresentKey → Bool) (xs : List PresentKey) → AllByRecursion (λ (x : PresentKey). test x ≡ true) xs → list_all test xs ≡ true
all_pass test [] each = refl
all_pass test (x ∷ xs) each = rw each.0 (all_pass test xs each.1)

one_fails : (test by : PresentKey → Bool) (xs : List PresentKey) (x : PresentKey) → find by xs ≡ Some x → test x ≡ false → list_all test xs ≡ false
one_fails test by [] x found fails = absurd (cc found)
one_fails test by (y ∷ xs) x found fails = by_test (by y) found (λ is. one_fails test by xs x is fails)
  where
    stops : (t : Bool) → (t && false) ≡ false
    stops true = refl
    stops false = refl

    by_test : (t : Bool) → cond t (Some y) (find by xs) ≡ Some x → (find by xs ≡ Some x → list_all test xs ≡ false) → list_all test (y ∷ xs) ≡ false
    by_test true is rest = (let same : y ≡ x = cc is in rw (same, fails) refl)
    by_test false is rest = rw (rest is) (stops (test y))

module _ (history : List Entry) (present : List PresentKey) (gone : PresentKey) (found : find (λ (one : PresentKey). bytes_eq one.key gone.key) present ≡ Some gone) where
  abbrev IsVictimOrLater : PresentKey → Type 0
  IsVictimOrLater one = (one ≡ gone) ⊎ (last_use gone.key history < last_use one.key history)

  passes : AllByRecursion IsVictimOrLater present → is_least_recently_used history present gone ≡ true
  passes each = all_pass (λ (other : PresentKey). nat_le (last_use gone.key history) (last_use other.key history)) present
      (each_weaker IsVictimOrLater (λ (other : PresentKey). nat_le (last_use gone.key history) (last_use other.key history) ≡ true) (λ other held. le-leb (last_use gone.key history) (last_use other.key history) (at_most other held)) present each)
    where
      at_most : (other : PresentKey) → IsVictimOrLater other → last_use gone.key history ≤ last_use other.key history
      at_most other held = elim held [
        | inl same ↦ (let k : last_use other.key history ≡ last_use gone.key history = ap (λ (p : PresentKey). last_use p.key history) same in omega (arith, k))
        | inr later ↦ omega (arith, later)
      ]

  fails : (one : PresentKey) → last_use gone.key history < last_use one.key history → is_least_recently_used history present one ≡ false
  fails one later = one_fails (λ (other : PresentKey). nat_le (last_use one.key history) (last_use other.key history)) (λ (other : PresentKey). bytes_eq other.key gone.key) present gone found
      (elim (leb_tells (last_use one.key history) (last_use gone.key history)) [
        | inl is ↦ absurd (let le = is.1 in omega (arith, le, later))
        | inr is ↦ is.0
      ])

  first_is : (xs : List PresentKey) → AllByRecursion IsVictimOrLater present → AllByRecursion IsVictimOrLater xs → find (λ (one : PresentKey). bytes_eq one.key gone.key) xs ≡ Some gone → find (is_least_recently_used history present) xs ≡ Some gone
  first_is [] all each there = absurd (cc there)
  first_is (one ∷ xs) all each there = elim each.0 [
    | inl same ↦ rw (same, passes all) refl
    | inr later ↦ rw (fails one later) (first_is xs all each.1 (past (bytes_eq one.key gone.key) refl later there))
  ]
    where
      past : (t : Bool) → bytes_eq one.key gone.key ≡ t → last_use gone.key history < last_use one.key history → cond t (Some one) (find (λ (o : PresentKey). bytes_eq o.key gone.key) xs) ≡ Some gone → find (λ (o : PresentKey). bytes_eq o.key gone.key) xs ≡ Some gone
      past true same later is = (let k : last_use one.key history ≡ last_use gone.key history = ap (λ (q : List ℕ). last_use q history) (same_key one.key gone.key same) in absurd (omega (arith, later, k)))
      past false differ later is = is

module _ (history : List Entry) (present : List PresentKey) (entries : List (List ℕ × ℕ)) (before : IsByUse history present entries) (key : List ℕ) (id : ℕ) (last : last_of entries ≡ Some (key, id)) where
  pub victim_found : find (λ (one : PresentKey). bytes_eq one.key key) present ≡ Some (record { key = key; cell = id })
  victim_found = go (find (λ (one : PresentKey). bytes_eq one.key key) present) refl (before.cells key ∙ last_found history key id entries before.falling last)
    where
      go : (o : Option PresentKey) → find (λ (one : PresentKey). bytes_eq one.key key) present ≡ o → option_map (λ (found : PresentKey). found.cell) o ≡ Some id → o ≡ Some (record { key = key; cell = id })
      go None is cell = absurd (cc cell)
      go (Some one) is cell =
          let k : one.key ≡ key = found_key key present one is in
          let i : one.cell ≡ id = cc cell in
          ap (λ (q : List ℕ). Some (record { key = q; cell = one.cell })) k ∙ ap (λ (c : ℕ). Some (record { key = key; cell = c })) i

  -- the last key is the least recently used one
  pub victim_is_least : least_recently_used history present ≡ Some (record { key = key; cell = id })
  victim_is_least = first_is history present (record { key = key; cell = id }) victim_found present all all victim_found
    where
      or_later : (one : PresentKey) → cell_of_present present one.key ≡ Some one.cell → (one ≡ record { key = key; cell = id }) ⊎ (last_use key history < last_use one.key history)
      or_later one found = elim (last_least history key id one.key one.cell entries before.falling last (sym (before.cells one.key) ∙ found)) [
        | inl same ↦ (let there : Some one.cell ≡ Some id = sym (rw same at found) ∙ (before.cells key ∙ last_found history key id entries before.falling last) in
            let i : one.cell ≡ id = cc there in
            inl (ap (λ (q : List ℕ). record { key = q; cell = one.cell }) same ∙ ap (λ (c : ℕ). record { key = key; cell = c }) i))
        | inr later ↦ inr later
      ]

      all : AllByRecursion (λ (one : PresentKey). (one ≡ record { key = key; cell = id }) ⊎ (last_use key history < last_use one.key history)) present
      all = each_weaker (λ (one : PresentKey). cell_of_present present one.key ≡ Some one.cell) (λ (one : PresentKey). (one ≡ record { key = key; cell = id }) ⊎ (last_use key history < last_use one.key history)) or_later present (present_found present before.keys_apart)

  -- its eviction
  pub by_use_evicted : IsByUse history (filter (λ (one : PresentKey). not (one.cell == id)) present) (all_but_last_entry entries)
  by_use_evicted = rw (← last_left history key id entries before.falling last) (by_use_removed history present entries before key (record { key = key; cell = id }) victim_found)

-- ---- which entries are uses

pub by_use_opening : IsByUse [] [] []
by_use_opening = record { count = refl; cells = λ key. refl; falling = tt; keys_apart = tt; cells_apart = tt }

and_true : (t : Bool) → (t && true) ≡ t
and_true true = refl
and_true false = refl

and_false : (t : Bool) → (t && false) ≡ false
and_false true = refl
and_false false = refl

pub use_by_lookup : (q asked : List ℕ) (number : ℕ) (reply : Reply) → is_found reply ≡ true → call_uses q (Lookup number asked) reply ≡ bytes_eq asked q
use_by_lookup q asked number reply found = rw found (and_true (bytes_eq asked q))

pub no_use_by_lookup : (q asked : List ℕ) (number : ℕ) (reply : Reply) → is_found reply ≡ false → call_uses q (Lookup number asked) reply ≡ false
no_use_by_lookup q asked number reply none = rw none (and_false (bytes_eq asked q))

pub use_by_update : (q asked value : List ℕ) (number flags : ℕ) (reply : Reply) → is_done reply ≡ true → call_uses q (Update number asked value flags) reply ≡ bytes_eq asked q
use_by_update q asked value number flags reply done = rw done (and_true (bytes_eq asked q))

pub no_use_by_update : (q asked value : List ℕ) (number flags : ℕ) (reply : Reply) → is_done reply ≡ false → call_uses q (Update number asked value flags) reply ≡ false
no_use_by_update q asked value number flags reply refused = rw refused (and_false (bytes_eq asked q))
