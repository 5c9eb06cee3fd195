-- What a new key, a removal and an eviction leave of the keys in order: two states of an index, whose look-ups differ at one key.
use Rattle.std.proofs.Common.{◌≡◌, ◌≢◌, ℕ, suc, ◌+◌, ◌-◌, Bool, true, false, cond, List, [], ◌∷◌, ◌++◌, length, slice_get, Option, Some, None, refl, sym, ap, ◌∙◌, arith, nat_eq, eq-eqb, bytes_eq}
use Rattle.std.specs.Map.{remove_entry}
use Rattle.std.proofs.lemmas.Bool.{false≢true, eqb-true}
use Rattle.plain_maps.specs.Keyed.{AreInverse}
use Rattle.lru_maps.specs.Recency.{is_listed, without, used, released, StandOnce}
use Rattle.lru_maps.specs.Numbered.{with_present_entry, in_order, HaveNoKey, FreeAreLast}
use Rattle.lru_maps.proofs.Orders.{same_key, key_same, gone, free_without, free_push, order_append, counted_without, removed_there, at_most, last_listed, full_has_key}

apart_numbers : (n m : ℕ) → nat_eq n m ≡ false → n ≢ m
apart_numbers n m apart same = false≢true (sym apart ∙ eq-eqb n m same)

listed_head : (n : ℕ) (order : List ℕ) → is_listed n (n ∷ order) ≡ true
listed_head n order = rw (eq-eqb n n refl) refl

listed_tail : (m n : ℕ) (order : List ℕ) → is_listed m order ≡ true → is_listed m (n ∷ order) ≡ true
listed_tail m n order there = by_test (nat_eq m n)
  where
    by_test : (t : Bool) → cond t true (is_listed m order) ≡ true
    by_test true = refl
    by_test false = there

-- ---- the same keys

module _ (keys other : ℕ → Option (List ℕ)) where
  pub order_same : (ids later : ℕ → ℕ) (order : List ℕ) → ((m : ℕ) → is_listed m order ≡ true → other m ≡ keys m) → ((m : ℕ) → is_listed m order ≡ true → later m ≡ ids m) → in_order other later order ≡ in_order keys ids order
  order_same ids later [] same also = refl
  order_same ids later (n ∷ order) same also =
      rw (same n (listed_head n order), also n (listed_head n order), order_same ids later order (λ m there. same m (listed_tail m n order there)) (λ m there. also m (listed_tail m n order there))) refl

  none_same : (order : List ℕ) → ((m : ℕ) → is_listed m order ≡ true → other m ≡ keys m) → HaveNoKey keys order → HaveNoKey other order
  none_same [] same none = tt
  none_same (n ∷ order) same none = (same n (listed_head n order) ∙ none.0, none_same order (λ m there. same m (listed_tail m n order there)) none.1)

  pub free_same : (order : List ℕ) → ((m : ℕ) → is_listed m order ≡ true → other m ≡ keys m) → FreeAreLast keys order → FreeAreLast other order
  free_same [] same free = tt
  free_same (n ∷ order) same free = (
    (λ none. none_same order (λ m there. same m (listed_tail m n order there)) (free.0 (sym (same n (listed_head n order)) ∙ none))),
    free_same order (λ m there. same m (listed_tail m n order there)) free.1,
  )

-- a number that has no key leaves none behind
skip_free : (keys : ℕ → Option (List ℕ)) (ids : ℕ → ℕ) (n : ℕ) (order : List ℕ) → keys n ≡ None → in_order keys ids (without n order) ≡ in_order keys ids order
skip_free keys ids n [] none = refl
skip_free keys ids n (m ∷ order) none = by_test (nat_eq n m) refl (skip_free keys ids n order none)
  where
    by_test : (t : Bool) → nat_eq n m ≡ t → in_order keys ids (without n order) ≡ in_order keys ids order → in_order keys ids (cond t order (m ∷ without n order)) ≡ in_order keys ids (m ∷ order)
    by_test true here rest = (let e : n ≡ m = eqb-true n m here in rw (← e, none) refl)
    by_test false past rest = ap (with_present_entry (keys m) (ids m)) rest

-- ---- what a change at one key leaves

module _ (numbers later : List ℕ → Option ℕ) (keys other : ℕ → Option (List ℕ)) (inverse : AreInverse numbers keys) (inverse_later : AreInverse later other) (key : List ℕ) (w : Option ℕ) (change : (q : List ℕ) → later q ≡ cond (bytes_eq key q) w (numbers q)) where
  unchanged : (q : List ℕ) → (q ≡ key → ⊥) → later q ≡ numbers q
  unchanged q apart = change q ∙ by_test (bytes_eq key q) refl
    where
      by_test : (t : Bool) → bytes_eq key q ≡ t → cond t w (numbers q) ≡ numbers q
      by_test true same = absurd (apart (sym (same_key key q same)))
      by_test false differ = refl

  changed : later key ≡ w
  changed = change key ∙ rw (key_same key) refl

  same_elsewhere : (m : ℕ) → (keys m ≡ Some key → ⊥) → (other m ≡ Some key → ⊥) → other m ≡ keys m
  same_elsewhere m before after = go (keys m) (other m) refl refl
    where
      go : (a b : Option (List ℕ)) → keys m ≡ a → other m ≡ b → other m ≡ keys m
      go None None x y = y ∙ sym x
      go (Some k) b x y =
          let apart : k ≡ key → ⊥ = λ e. before (x ∙ ap Some e) in
          let number : later k ≡ Some m = unchanged k apart ∙ (inverse k m).1 x in
          (inverse_later k m).0 number ∙ sym x
      go None (Some k) x y =
          let apart : k ≡ key → ⊥ = λ e. after (y ∙ ap Some e) in
          let number : numbers k ≡ Some m = sym (unchanged k apart) ∙ (inverse_later k m).1 y in
          let has : keys m ≡ Some k = (inverse k m).0 number in
          let clash : None ≡ Some k = sym x ∙ has in
          absurd (cc clash)

  -- a new key
  module _ (n : ℕ) (new : w ≡ Some n) (absent : numbers key ≡ None) where
    pub inserted_here : other n ≡ Some key
    inserted_here = (inverse_later key n).0 (changed ∙ new)

    pub inserted_elsewhere : (m : ℕ) → m ≢ n → other m ≡ keys m
    inserted_elsewhere m apart = same_elsewhere m
        (λ has. (let found : numbers key ≡ Some m = (inverse key m).1 has in let clash : None ≡ Some m = sym absent ∙ found in cc clash))
        (λ has. (let found : later key ≡ Some m = (inverse_later key m).1 has in let both : Some m ≡ Some n = sym found ∙ (changed ∙ new) in let is : m ≡ n = cc both in apart is))

  -- a key that is gone
  module _ (n : ℕ) (out : w ≡ None) (found : numbers key ≡ Some n) where
    pub removed_here : other n ≡ None
    removed_here = go (other n) refl
      where
        go : (o : Option (List ℕ)) → other n ≡ o → other n ≡ None
        go None is = is
        go (Some k) is = absurd (by_test (bytes_eq key k) refl)
          where
            by_test : (t : Bool) → bytes_eq key k ≡ t → ⊥
            by_test true same =
                let e : key ≡ k = same_key key k same in
                let number : later key ≡ Some n = (inverse_later key n).1 (is ∙ ap Some (sym e)) in
                let clash : None ≡ Some n = sym (changed ∙ out) ∙ number in
                cc clash
            by_test false differ =
                let apart : k ≡ key → ⊥ = λ e. false≢true (sym differ ∙ (ap (bytes_eq key) e ∙ key_same key)) in
                let number : numbers k ≡ Some n = sym (unchanged k apart) ∙ (inverse_later k n).1 is in
                let both : Some k ≡ Some key = sym ((inverse k n).0 number) ∙ (inverse key n).0 found in
                let same : k ≡ key = cc both in
                apart same

    pub removed_elsewhere : (m : ℕ) → m ≢ n → other m ≡ keys m
    removed_elsewhere m apart = same_elsewhere m
        (λ has. (let also : numbers key ≡ Some m = (inverse key m).1 has in let both : Some m ≡ Some n = sym also ∙ found in let is : m ≡ n = cc both in apart is))
        (λ has. (let still : later key ≡ Some m = (inverse_later key m).1 has in let clash : None ≡ Some m = sym (changed ∙ out) ∙ still in cc clash))

  -- a key that was not there
  pub removed_nowhere : w ≡ None → numbers key ≡ None → (m : ℕ) → other m ≡ keys m
  removed_nowhere out absent m = same_elsewhere m
      (λ has. (let found : numbers key ≡ Some m = (inverse key m).1 has in let clash : None ≡ Some m = sym absent ∙ found in cc clash))
      (λ has. (let still : later key ≡ Some m = (inverse_later key m).1 has in let clash : None ≡ Some m = sym (changed ∙ out) ∙ still in cc clash))

last_of_tail : (n m x : ℕ) (order : List ℕ) → slice_get (m ∷ x ∷ order) (length (m ∷ x ∷ order) - 1) ≡ Some n → slice_get (x ∷ order) (length (x ∷ order) - 1) ≡ Some n
last_of_tail n m x order last = (let e : length (m ∷ x ∷ order) - 1 ≡ suc (length (x ∷ order) - 1) = omega arith in rw e at last)

-- ---- a change at one number

module _ (keys other : ℕ → Option (List ℕ)) (n : ℕ) (elsewhere : (m : ℕ) → m ≢ n → other m ≡ keys m) where
  among : (order : List ℕ) → is_listed n order ≡ false → (m : ℕ) → is_listed m order ≡ true → other m ≡ keys m
  among order absent m there = elsewhere m (λ same. false≢true (sym absent ∙ (ap (λ (k : ℕ). is_listed k order) (sym same) ∙ there)))

  -- a key for a number that had none
  module _ (order : List ℕ) (once : StandOnce order) (there : is_listed n order ≡ true) (free : keys n ≡ None) where
    pub inserted_order : (key : List ℕ) (ids later : ℕ → ℕ) → other n ≡ Some key → ((m : ℕ) → m ≢ n → later m ≡ ids m) → in_order other later (used n order) ≡ (key, later n) ∷ in_order keys ids order
    inserted_order key ids later here kept =
        let rest : in_order other later (without n order) ≡ in_order keys ids (without n order) = order_same keys other ids later (without n order) (among (without n order) (gone n order once))
        (λ m listed. kept m (λ same. false≢true (sym (gone n order once) ∙ (ap (λ (k : ℕ). is_listed k (without n order)) (sym same) ∙ listed)))) in
        rw (there, here, rest, skip_free keys ids n order free) refl

    pub inserted_free : (key : List ℕ) → other n ≡ Some key → FreeAreLast keys order → FreeAreLast other (used n order)
    inserted_free key here last = rw there (
      (λ none. (let clash : None ≡ Some key = sym none ∙ here in absurd (cc clash))),
      free_same keys other (without n order) (among (without n order) (gone n order once)) (free_without keys (λ m. 0) n order last),
    )

  -- a number that has no key any more is last
  module _ (order : List ℕ) (once : StandOnce order) (there : is_listed n order ≡ true) (ids : ℕ → ℕ) (bare : other n ≡ None) where
    rest_same : in_order other ids (without n order) ≡ in_order keys ids (without n order)
    rest_same = order_same keys other ids ids (without n order) (among (without n order) (gone n order once)) (λ m listed. refl)

    pub released_order : (numbers : List ℕ → Option ℕ) → AreInverse numbers keys → (key : List ℕ) → numbers key ≡ Some n → in_order other ids (released n order) ≡ remove_entry (bytes_eq key) (in_order keys ids order)
    released_order numbers inverse key found =
        rw (there, order_append other ids n (without n order) bare, rest_same) (sym (removed_there keys ids numbers inverse key n order found there))

    pub released_free : FreeAreLast keys order → FreeAreLast other (released n order)
    released_free last = rw there (free_push other ids n (without n order) bare (free_same keys other (without n order) (among (without n order) (gone n order once)) (free_without keys ids n order last)))

    pub released_count : (key : List ℕ) → keys n ≡ Some key → length (in_order other ids (released n order)) + 1 ≡ length (in_order keys ids order)
    released_count key has =
        let before : length (with_present_entry (keys n) (ids n) (in_order keys ids (without n order))) ≡ length (in_order keys ids order) = counted_without keys ids n order there in
        let one = rw has at before in
        rw (there, order_append other ids n (without n order) bare, rest_same) (omega (arith, one))

  -- the last number loses its key
  module _ (ids : ℕ → ℕ) (key : List ℕ) (has : keys n ≡ Some key) (bare : other n ≡ None) where
    pub evicted_order : (order : List ℕ) → StandOnce order → slice_get order (length order - 1) ≡ Some n → in_order keys ids order ≡ in_order other ids order ++ (key, ids n) ∷ []
    evicted_order [] once last = absurd (cc last)
    evicted_order (m ∷ []) once last = (let is : m ≡ n = cc last in rw (is, has, bare) refl)
    evicted_order (m ∷ x ∷ order) once last =
        let later : slice_get (x ∷ order) (length (x ∷ order) - 1) ≡ Some n = last_of_tail n m x order last in
        let rest = evicted_order (x ∷ order) once.1 later in
        let apart : m ≢ n = λ same. false≢true (sym once.0 ∙ (ap (λ (k : ℕ). is_listed k (x ∷ order)) same ∙ last_listed n (x ∷ order) later)) in
        rw (elsewhere m apart, rest) (by_key (keys m) (in_order other ids (x ∷ order)))
      where
        by_key : (o : Option (List ℕ)) (es : List (List ℕ × ℕ)) → with_present_entry o (ids m) (es ++ (key, ids n) ∷ []) ≡ with_present_entry o (ids m) es ++ (key, ids n) ∷ []
        by_key None es = refl
        by_key (Some k) es = refl

    pub evicted_free : (order : List ℕ) → StandOnce order → slice_get order (length order - 1) ≡ Some n → length (in_order keys ids order) ≡ length order → FreeAreLast other order
    evicted_free [] once last full = tt
    evicted_free (m ∷ []) once last full = ((λ none. tt), tt)
    evicted_free (m ∷ x ∷ order) once last full =
        let later : slice_get (x ∷ order) (length (x ∷ order) - 1) ≡ Some n = last_of_tail n m x order last in
        let apart : m ≢ n = λ same. false≢true (sym once.0 ∙ (ap (λ (k : ℕ). is_listed k (x ∷ order)) same ∙ last_listed n (x ∷ order) later)) in
        let few = at_most keys ids (x ∷ order) in
        let some = full_has_key keys ids (m ∷ x ∷ order) m full (listed_head m (x ∷ order)) in
        let rest : length (in_order keys ids (x ∷ order)) ≡ length (x ∷ order) = (let whole = rw some.1 at full in omega (arith, whole)) in
        ((λ none. (let clash : None ≡ Some some.0 = sym none ∙ (elsewhere m apart ∙ some.1) in absurd (cc clash))), evicted_free (x ∷ order) once.1 later rest)
