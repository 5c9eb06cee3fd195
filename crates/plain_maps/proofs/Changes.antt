-- What an insertion and a removal leave of an index.
use Rattle.std.proofs.Common.{◌≡◌, ◌≢◌, ℕ, zero, suc, ◌+◌, ◌-◌, ◌*◌, ◌<◌, ◌≤◌, ◌⊎◌, Bool, true, false, cond, List, [], length, get_or, set, replicate, Option, Some, None, bytes_eq, refl, sym, ap, ◌∙◌, inl, inr, arith, eq-eqb, ne_eqb}
use Rattle.std.specs.List.{insert, remove}
use Rattle.std.specs.Map.{lookup}
use Rattle.std.proofs.lemmas.Bool.{cases_Bool, cases_lt, cases_eq, false≢true}
use Rattle.std.proofs.lemmas.Bool.Decides.{eqb_tells}
use Rattle.std.proofs.lemmas.List.{get_or-set_same, get_or-set_other, length-set, length-map, get_or-replicate, get_or_past, length-replicate}
use Rattle.std.proofs.lemmas.Slice.Eq.{bytes_eq-Decides}
use Rattle.plain_maps.specs.declared.buckets.Bucket.{Bucket}
use Rattle.plain_maps.specs.Keyed.{key_of, entries_of, numbers_there, IsAt, IsGapFor}
use Rattle.plain_maps.specs.Hashing.{home_of}
use Rattle.plain_maps.specs.Buckets.{nothing, empty_bucket, StandsInBucket, placed, cleared, cleared_slot, There, InOrder, bucket_at, home, homed, one_homed}
use Rattle.plain_maps.specs.Buckets.{IsIndex}
use Rattle.plain_maps.proofs.Homes.{in_insert_new, in_insert_old, insert_from, remove_from, in_remove, homed_insert, homed_remove, homed_agree, homed_some, there_below, few_in_order, count_more, count_less, numbers_few, homed_few}
use Rattle.plain_maps.proofs.Lookups.{empty_order}
use Rattle.plain_maps.proofs.Edits.{order_after, order_kept, order_less, other_number}
use Rattle.plain_maps.proofs.Found.{there_lookup, lookup_there, lookup_none, real_there}

-- ---- one bucket

pub placed_stands : (n : ℕ) (b c : Bucket) → placed n b ≡ Some c → StandsInBucket n c
placed_stands n b c put = elim (eqb_tells b.first nothing) [
  | inl first ↦ (let is = rw first.0 at put in let same : record b { first = n } ≡ c = cc is in inl (sym (ap (λ (x : Bucket). x.first) same)))
  | inr no_first ↦ elim (eqb_tells b.second nothing) [
    | inl second ↦ (let is = rw (no_first.0, second.0) at put in let same : record b { second = n } ≡ c = cc is in inr (inl (sym (ap (λ (x : Bucket). x.second) same))))
    | inr no_second ↦ elim (eqb_tells b.third nothing) [
      | inl third ↦ (let is = rw (no_first.0, no_second.0, third.0) at put in let same : record b { third = n } ≡ c = cc is in inr (inr (sym (ap (λ (x : Bucket). x.third) same))))
      | inr no_third ↦ (let is = rw (no_first.0, no_second.0, no_third.0) at put in absurd (cc is))
    ]
  ]
]

placed_others : (n : ℕ) (b c : Bucket) → placed n b ≡ Some c → (m : ℕ) → ((StandsInBucket m c → (m ≡ n) ⊎ StandsInBucket m b) × (m ≢ nothing → StandsInBucket m b → StandsInBucket m c)) × (c.over ≡ b.over)
placed_others n b c put m = elim (eqb_tells b.first nothing) [
  | inl first ↦ (let is = rw first.0 at put in
      let same : record b { first = n } ≡ c = cc is in
      let f : n ≡ c.first = ap (λ (x : Bucket). x.first) same in
      let g : b.second ≡ c.second = ap (λ (x : Bucket). x.second) same in
      let h : b.third ≡ c.third = ap (λ (x : Bucket). x.third) same in (
        (
          λ stands. elim stands [ inl e ↦ inl (sym (f ∙ e)) | inr r ↦ elim r [ inl e ↦ inr (inr (inl (g ∙ e))) | inr e ↦ inr (inr (inr (h ∙ e))) ] ],
          λ some stands. elim stands [ inl e ↦ absurd (some (sym e ∙ first.1)) | inr r ↦ elim r [ inl e ↦ inr (inl (sym g ∙ e)) | inr e ↦ inr (inr (sym h ∙ e)) ] ],
        ),
        sym (ap (λ (x : Bucket). x.over) same),
      ))
  | inr no_first ↦ elim (eqb_tells b.second nothing) [
    | inl second ↦ (let is = rw (no_first.0, second.0) at put in
        let same : record b { second = n } ≡ c = cc is in
        let f : b.first ≡ c.first = ap (λ (x : Bucket). x.first) same in
        let g : n ≡ c.second = ap (λ (x : Bucket). x.second) same in
        let h : b.third ≡ c.third = ap (λ (x : Bucket). x.third) same in (
          (
            λ stands. elim stands [ inl e ↦ inr (inl (f ∙ e)) | inr r ↦ elim r [ inl e ↦ inl (sym (g ∙ e)) | inr e ↦ inr (inr (inr (h ∙ e))) ] ],
            λ some stands. elim stands [ inl e ↦ inl (sym f ∙ e) | inr r ↦ elim r [ inl e ↦ absurd (some (sym e ∙ second.1)) | inr e ↦ inr (inr (sym h ∙ e)) ] ],
          ),
          sym (ap (λ (x : Bucket). x.over) same),
        ))
    | inr no_second ↦ elim (eqb_tells b.third nothing) [
      | inl third ↦ (let is = rw (no_first.0, no_second.0, third.0) at put in
          let same : record b { third = n } ≡ c = cc is in
          let f : b.first ≡ c.first = ap (λ (x : Bucket). x.first) same in
          let g : b.second ≡ c.second = ap (λ (x : Bucket). x.second) same in
          let h : n ≡ c.third = ap (λ (x : Bucket). x.third) same in (
            (
              λ stands. elim stands [ inl e ↦ inr (inl (f ∙ e)) | inr r ↦ elim r [ inl e ↦ inr (inr (inl (g ∙ e))) | inr e ↦ inl (sym (h ∙ e)) ] ],
              λ some stands. elim stands [ inl e ↦ inl (sym f ∙ e) | inr r ↦ elim r [ inl e ↦ inr (inl (sym g ∙ e)) | inr e ↦ absurd (some (sym e ∙ third.1)) ] ],
            ),
            sym (ap (λ (x : Bucket). x.over) same),
          ))
      | inr no_third ↦ (let is = rw (no_first.0, no_second.0, no_third.0) at put in absurd (cc is))
    ]
  ]
]

cleared_slot_other : (n m slot : ℕ) → m ≢ nothing → cleared_slot n slot ≡ m → (slot ≡ m) × (m ≢ n)
cleared_slot_other n m slot some is = elim (eqb_tells slot n) [
  | inl same ↦ (let none = rw same.0 at is in absurd (some (sym none)))
  | inr apart ↦ (let kept = rw apart.0 at is in (kept, λ equal. apart.1 (kept ∙ equal)))
]

cleared_slot_kept : (n m slot : ℕ) → m ≢ n → slot ≡ m → cleared_slot n slot ≡ m
cleared_slot_kept n m slot apart is = elim (eqb_tells slot n) [
  | inl same ↦ absurd (apart (sym is ∙ same.1))
  | inr other ↦ rw other.0 is
]

cleared_from : (n : ℕ) (b : Bucket) (m : ℕ) → m ≢ nothing → StandsInBucket m (cleared n b) → StandsInBucket m b × (m ≢ n)
cleared_from n b m some stands = elim stands [
  | inl e ↦ (let h = cleared_slot_other n m b.first some e in (inl h.0, h.1))
  | inr r ↦ elim r [
    | inl e ↦ (let h = cleared_slot_other n m b.second some e in (inr (inl h.0), h.1))
    | inr e ↦ (let h = cleared_slot_other n m b.third some e in (inr (inr h.0), h.1))
  ]
]

cleared_keeps : (n : ℕ) (b : Bucket) (m : ℕ) → m ≢ n → StandsInBucket m b → StandsInBucket m (cleared n b)
cleared_keeps n b m apart stands = elim stands [
  | inl e ↦ inl (cleared_slot_kept n m b.first apart e)
  | inr r ↦ elim r [ inl e ↦ inr (inl (cleared_slot_kept n m b.second apart e)) | inr e ↦ inr (inr (cleared_slot_kept n m b.third apart e)) ]
]

-- ---- one bucket among all

module _ (buckets : List Bucket) (h : ℕ) (within : h < length buckets) (c : Bucket) where
  at_home : bucket_at (set buckets h c) h ≡ c
  at_home = get_or-set_same buckets h c empty_bucket within

  at_other : (b : ℕ) → b ≢ h → bucket_at (set buckets h c) b ≡ bucket_at buckets b
  at_other b apart = get_or-set_other buckets h b c empty_bucket apart

  pub as_many : length (set buckets h c) ≡ length buckets
  as_many = length-set buckets h c

-- ---- room for one more

module _ (size capacity : ℕ) (keys : List ℕ) (flags : List Bool) (order : List ℕ) (places : ℕ) (buckets : List Bucket) (ok : IsIndex size capacity keys flags order places buckets) (n : ℕ) (small : n < capacity) (unset : get_or flags n false ≡ false) where
  once : (i j : ℕ) → i < j → j < length order → get_or order i 0 ≢ get_or order j 0
  once i j lower lt same = other_number size capacity keys order (key_of size keys (get_or order j 0)) ok.ordered j (record { in_range = lt; has_key = refl }) i (omega arith) (omega arith) same

  -- the numbers in order are there, each once, and the new one is not
  pub room_in_order : length order < capacity
  room_in_order =
      let few = few_in_order order flags ok.listed once in
      let grown = count_more 0 flags n (omega (arith, small, ok.flag_count)) unset in
      let most = numbers_few (set flags n true) in
      let long = length-set flags n true in
      omega (arith, few, grown, most, long, ok.flag_count)

  pub over_small : (b : ℕ) → b < length buckets → (bucket_at buckets b).over < nothing
  over_small b lt =
      let count = ok.counted b lt in
      let few = homed_few b (home size keys (length buckets)) order in
      let room = room_in_order in
      omega (arith, count, few, room, ok.few)

-- ---- a key is put in

module _ (size capacity : ℕ) (keys : List ℕ) (flags : List Bool) (order : List ℕ) (places : ℕ) (buckets : List Bucket) (ok : IsIndex size capacity keys flags order places buckets) (key : List ℕ) (within : home_of (length buckets) key < length buckets) (n : ℕ) (small : n < capacity) (unset : get_or flags n false ≡ false) (absent : (m : ℕ) → There flags m → key_of size keys m ≡ key → ⊥) (written : List ℕ) (same_length : length written ≡ length keys) (here : key_of size written n ≡ key) (elsewhere : (m : ℕ) → m ≢ n → key_of size written m ≡ key_of size keys m) where
  h : ℕ
  h = home_of (length buckets) key

  other : (m : ℕ) → There flags m → m ≢ n
  other m there same = false≢true (sym unset ∙ (ap (λ (k : ℕ). get_or flags k false) (sym same) ∙ there))

  there_new : There (set flags n true) n
  there_new = get_or-set_same flags n true false (omega (arith, small, ok.flag_count))

  there_keep : (m : ℕ) → There flags m → There (set flags n true) m
  there_keep m there = get_or-set_other flags n m true false (other m there) ∙ there

  there_from : (m : ℕ) → There (set flags n true) m → (m ≡ n) ⊎ There flags m
  there_from m there = elim (cases_eq m n) [
    | inl same ↦ inl same
    | inr apart ↦ inr (sym (get_or-set_other flags n m true false apart) ∙ there)
  ]

  key_keep : (m : ℕ) → There flags m → key_of size written m ≡ key_of size keys m
  key_keep m there = elsewhere m (other m there)

  home_keep : (m : ℕ) → There flags m → home size written (length buckets) m ≡ home size keys (length buckets) m
  home_keep m there = ap (home_of (length buckets)) (key_keep m there)

  home_new : home size written (length buckets) n ≡ home_of (length buckets) key
  home_new = ap (home_of (length buckets)) here

  apart_after : (a b : ℕ) → There (set flags n true) a → There (set flags n true) b → key_of size written a ≡ key_of size written b → a ≡ b
  apart_after a b there also same = elim (there_from a there) [
    | inl new ↦ elim (there_from b also) [
      | inl too ↦ new ∙ sym too
      | inr old ↦ absurd (absent b old (sym (key_keep b old) ∙ (sym same ∙ (ap (key_of size written) new ∙ here))))
    ]
    | inr old ↦ elim (there_from b also) [
      | inl too ↦ absurd (absent a old (sym (key_keep a old) ∙ (same ∙ (ap (key_of size written) too ∙ here))))
      | inr both ↦ ok.apart a b old both (sym (key_keep a old) ∙ (same ∙ key_keep b both))
    ]
  ]

  number_apart : (i : ℕ) → i < length order → get_or order i 0 ≢ n
  number_apart i lt = other (get_or order i 0) (ok.listed i lt)

  pub inserted_count : length (entries_of size written (numbers_there 0 (set flags n true))) ≡ length (entries_of size keys (numbers_there 0 flags)) + 1
  inserted_count =
      let one : length (entries_of size written (numbers_there 0 (set flags n true))) ≡ length (numbers_there 0 (set flags n true)) = length-map (numbers_there 0 (set flags n true)) (λ (m : ℕ). (key_of size written m, m)) in
      let two : length (entries_of size keys (numbers_there 0 flags)) ≡ length (numbers_there 0 flags) = length-map (numbers_there 0 flags) (λ (m : ℕ). (key_of size keys m, m)) in
      let more = count_more 0 flags n (omega (arith, small, ok.flag_count)) unset in
      omega (arith, one, two, more)

  pub inserted_lookups : (q : List ℕ) → lookup (bytes_eq q) (entries_of size written (numbers_there 0 (set flags n true))) ≡ cond (bytes_eq key q) (Some n) (lookup (bytes_eq q) (entries_of size keys (numbers_there 0 flags)))
  inserted_lookups q = elim (cases_Bool (bytes_eq key q)) [
    | inl same ↦ rw same (lookup_there size written (set flags n true) q apart_after n there_new (here ∙ (bytes_eq-Decides key q).0 same))
    | inr apart ↦ rw apart (go apart (lookup (bytes_eq q) (entries_of size keys (numbers_there 0 flags))) refl)
  ]
    where
      go : bytes_eq key q ≡ false → (o : Option ℕ) → lookup (bytes_eq q) (entries_of size keys (numbers_there 0 flags)) ≡ o → lookup (bytes_eq q) (entries_of size written (numbers_there 0 (set flags n true))) ≡ lookup (bytes_eq q) (entries_of size keys (numbers_there 0 flags))
      go apart None none = lookup_none size written (set flags n true) q (λ m there is. elim (there_from m there) [
        | inl new ↦ false≢true (sym apart ∙ (bytes_eq-Decides key q).1 (sym here ∙ (ap (key_of size written) (sym new) ∙ is)))
        | inr old ↦ (let found = lookup_there size keys flags q ok.apart m old (sym (key_keep m old) ∙ is) in (let clash = sym none ∙ found in cc clash))
      ]) ∙ sym none
      go apart (Some m) found =
          let member = there_lookup size keys flags q m found in
          lookup_there size written (set flags n true) q apart_after m (there_keep m member.0) (key_keep m member.0 ∙ member.1) ∙ sym found

  -- in its bucket
  module _ (c : Bucket) (put : placed n (bucket_at buckets (home_of (length buckets) key)) ≡ Some c) where
    put_bucketed : (b m : ℕ) → b < length buckets → StandsInBucket m (bucket_at (set buckets h c) b) → m ≢ nothing → There (set flags n true) m × (home size written (length buckets) m ≡ b)
    unfolding h
    put_bucketed b m lt stands some = elim (cases_eq b (home_of (length buckets) key)) [
      | inl same ↦ (let moved : StandsInBucket m c = rw (same, at_home buckets (home_of (length buckets) key) within c) at stands in
          elim ((placed_others n (bucket_at buckets (home_of (length buckets) key)) c put m).0.0 moved) [
            | inl new ↦ (ap (λ (k : ℕ). get_or (set flags n true) k false) new ∙ there_new, ap (home size written (length buckets)) new ∙ (home_new ∙ sym same))
            | inr old ↦ (let was = ok.bucketed (home_of (length buckets) key) m within old some in (there_keep m was.0, home_keep m was.0 ∙ (was.1 ∙ sym same)))
          ])
      | inr apart ↦ (let moved = rw (at_other buckets (home_of (length buckets) key) within c b apart) at stands in
          let was = ok.bucketed b m lt moved some in (there_keep m was.0, home_keep m was.0 ∙ was.1))
    ]

    put_exclusive : (b i : ℕ) → b < length buckets → i < length order → StandsInBucket (get_or order i 0) (bucket_at (set buckets h c) b) → ⊥
    unfolding h
    put_exclusive b i lt less stands = elim (cases_eq b (home_of (length buckets) key)) [
      | inl same ↦ (let moved : StandsInBucket (get_or order i 0) c = rw (same, at_home buckets (home_of (length buckets) key) within c) at stands in
          elim ((placed_others n (bucket_at buckets (home_of (length buckets) key)) c put (get_or order i 0)).0.0 moved) [
            | inl new ↦ number_apart i less new
            | inr old ↦ ok.exclusive (home_of (length buckets) key) i within less old
          ])
      | inr apart ↦ (let moved = rw (at_other buckets (home_of (length buckets) key) within c b apart) at stands in ok.exclusive b i lt less moved)
    ]

    put_covered : (m : ℕ) → There (set flags n true) m → StandsInBucket m (bucket_at (set buckets h c) (home size written (length buckets) m)) ⊎ InOrder order m
    unfolding h
    put_covered m there = elim (there_from m there) [
      | inl new ↦ inl (rw (new, home_new, at_home buckets (home_of (length buckets) key) within c) (placed_stands n (bucket_at buckets (home_of (length buckets) key)) c put))
      | inr old ↦ elim (ok.covered m old) [
        | inl stands ↦ inl (rw (home_keep m old) (elim (cases_eq (home size keys (length buckets) m) (home_of (length buckets) key)) [
          | inl same ↦ (let was : StandsInBucket m (bucket_at buckets (home_of (length buckets) key)) = rw same at stands in
              rw (same, at_home buckets (home_of (length buckets) key) within c) ((placed_others n (bucket_at buckets (home_of (length buckets) key)) c put m).0.1 (real_there size capacity keys flags order places buckets ok m old) was))
          | inr apart ↦ rw (at_other buckets (home_of (length buckets) key) within c (home size keys (length buckets) m) apart) stands
        ]))
        | inr in_order ↦ inr in_order
      ]
    ]

    put_counted : (b : ℕ) → b < length buckets → (bucket_at (set buckets h c) b).over ≡ homed b (home size written (length buckets)) order
    unfolding h
    put_counted b lt =
        let kept : homed b (home size written (length buckets)) order ≡ homed b (home size keys (length buckets)) order = homed_agree b (home size written (length buckets)) (home size keys (length buckets)) order (λ i less. home_keep (get_or order i 0) (ok.listed i less)) in
        elim (cases_eq b (home_of (length buckets) key)) [
          | inl same ↦ (let same_over = (placed_others n (bucket_at buckets (home_of (length buckets) key)) c put n).1 in
              let count = ok.counted (home_of (length buckets) key) within in
              rw (kept, same, at_home buckets (home_of (length buckets) key) within c) (same_over ∙ count))
          | inr apart ↦ rw (kept, at_other buckets (home_of (length buckets) key) within c b apart) (ok.counted b lt)
        ]

    pub put_in_bucket : IsIndex size capacity written (set flags n true) order places (set buckets (home_of (length buckets) key) c)
    unfolding h
    put_in_bucket =
        let e : length (set buckets (home_of (length buckets) key) c) ≡ length buckets = as_many buckets (home_of (length buckets) key) within c in
        record {
          ordered = order_kept size capacity keys order written ok.ordered same_length (λ i lt. key_keep (get_or order i 0) (ok.listed i lt));
          flag_count = length-set flags n true ∙ ok.flag_count;
          few = ok.few;
          some = rw e ok.some;
          room = ok.room;
          apart = apart_after;
          listed = λ i lt. there_keep (get_or order i 0) (ok.listed i lt);
          bucketed = rw e put_bucketed;
          exclusive = rw e put_exclusive;
          covered = rw e put_covered;
          counted = rw e put_counted;
        }

  -- in order
  module _ (at : ℕ) (gap : IsGapFor size keys order key at) (full : placed n (bucket_at buckets (home_of (length buckets) key)) ≡ None) where
    abbrev more : Bucket
    more = record (bucket_at buckets (home_of (length buckets) key)) { over = (bucket_at buckets (home_of (length buckets) key)).over + 1 }

    real_new : n ≢ nothing
    real_new none = omega (arith, small, none, ok.few)

    stands_back : (b m : ℕ) → StandsInBucket m (bucket_at (set buckets (home_of (length buckets) key) more) b) → StandsInBucket m (bucket_at buckets b)
    stands_back b m stands = elim (cases_eq b (home_of (length buckets) key)) [
      | inl same ↦ rw same (rw (same, at_home buckets (home_of (length buckets) key) within more) at stands)
      | inr apart ↦ rw (at_other buckets (home_of (length buckets) key) within more b apart) at stands
    ]

    stands_on : (b m : ℕ) → StandsInBucket m (bucket_at buckets b) → StandsInBucket m (bucket_at (set buckets (home_of (length buckets) key) more) b)
    stands_on b m stands = elim (cases_eq b (home_of (length buckets) key)) [
      | inl same ↦ (let was : StandsInBucket m (bucket_at buckets (home_of (length buckets) key)) = rw same at stands in rw (same, at_home buckets (home_of (length buckets) key) within more) was)
      | inr apart ↦ rw (at_other buckets (home_of (length buckets) key) within more b apart) stands
    ]

    ordered_bucketed : (b m : ℕ) → b < length buckets → StandsInBucket m (bucket_at (set buckets (home_of (length buckets) key) more) b) → m ≢ nothing → There (set flags n true) m × (home size written (length buckets) m ≡ b)
    ordered_bucketed b m lt stands some = let was = ok.bucketed b m lt (stands_back b m stands) some in (there_keep m was.0, home_keep m was.0 ∙ was.1)

    ordered_exclusive : (b i : ℕ) → b < length buckets → i < length (insert order at n) → StandsInBucket (get_or (insert order at n) i 0) (bucket_at (set buckets (home_of (length buckets) key) more) b) → ⊥
    ordered_exclusive b i lt less stands = elim (insert_from order at n gap.in_range i less) [
      | inl new ↦ (let moved : StandsInBucket n (bucket_at buckets b) = rw new at (stands_back b (get_or (insert order at n) i 0) stands) in
          other n (ok.bucketed b n lt moved real_new).0 refl)
      | inr old ↦ (let moved : StandsInBucket (get_or order old.0 0) (bucket_at buckets b) = rw old.2 at (stands_back b (get_or (insert order at n) i 0) stands) in
          ok.exclusive b old.0 lt old.1 moved)
    ]

    ordered_covered : (m : ℕ) → There (set flags n true) m → StandsInBucket m (bucket_at (set buckets (home_of (length buckets) key) more) (home size written (length buckets) m)) ⊎ InOrder (insert order at n) m
    ordered_covered m there = elim (there_from m there) [
      | inl new ↦ inr (rw new (in_insert_new order at n gap.in_range))
      | inr old ↦ elim (ok.covered m old) [
        | inl stands ↦ inl (rw (home_keep m old) (stands_on (home size keys (length buckets) m) m stands))
        | inr in_order ↦ inr (in_insert_old order at n gap.in_range m in_order)
      ]
    ]

    ordered_counted : (b : ℕ) → b < length buckets → (bucket_at (set buckets (home_of (length buckets) key) more) b).over ≡ homed b (home size written (length buckets)) (insert order at n)
    ordered_counted b lt =
        let kept : homed b (home size written (length buckets)) order ≡ homed b (home size keys (length buckets)) order = homed_agree b (home size written (length buckets)) (home size keys (length buckets)) order (λ i less. home_keep (get_or order i 0) (ok.listed i less)) in
        let grown : homed b (home size written (length buckets)) (insert order at n) ≡ homed b (home size written (length buckets)) order + one_homed b (home size written (length buckets) n) = homed_insert b (home size written (length buckets)) order at n gap.in_range in
        elim (cases_eq b (home_of (length buckets) key)) [
          | inl same ↦ (let count = ok.counted (home_of (length buckets) key) within in
              let one : one_homed b (home size written (length buckets) n) ≡ 1 = rw (eq-eqb (home size written (length buckets) n) b (home_new ∙ sym same)) refl in
              let over : (bucket_at (set buckets (home_of (length buckets) key) more) b).over ≡ (bucket_at buckets (home_of (length buckets) key)).over + 1 = rw (same, at_home buckets (home_of (length buckets) key) within more) refl in
              over ∙ rw (grown, kept, one, same, count) refl)
          | inr apart ↦ (let none : one_homed b (home size written (length buckets) n) ≡ 0 = rw (ne_eqb (home size written (length buckets) n) b (λ is. apart (sym is ∙ home_new))) refl in
              let count = ok.counted b lt in
              rw (grown, kept, none, at_other buckets (home_of (length buckets) key) within more b apart) (omega (arith, count)))
        ]

    listed_after : (i : ℕ) → i < length (insert order at n) → There (set flags n true) (get_or (insert order at n) i 0)
    listed_after i lt = elim (insert_from order at n gap.in_range i lt) [
      | inl new ↦ rw new there_new
      | inr old ↦ rw old.2 (there_keep (get_or order old.0 0) (ok.listed old.0 old.1))
    ]

    pub put_in_order : (capacity ≤ places → (spots : ℕ) → capacity ≤ spots → IsIndex size capacity written (set flags n true) (insert order at n) spots (set buckets (home_of (length buckets) key) more))
    put_in_order _ spots room =
        let e : length (set buckets (home_of (length buckets) key) more) ≡ length buckets = as_many buckets (home_of (length buckets) key) within more in
        record {
          ordered = order_after size capacity keys order key ok.ordered at n gap small number_apart written same_length here elsewhere;
          flag_count = length-set flags n true ∙ ok.flag_count;
          few = ok.few;
          some = rw e ok.some;
          room = room;
          apart = apart_after;
          listed = listed_after;
          bucketed = rw e ordered_bucketed;
          exclusive = rw e ordered_exclusive;
          covered = rw e ordered_covered;
          counted = rw e ordered_counted;
        }

-- ---- a key is taken out

module _ (size capacity : ℕ) (keys : List ℕ) (flags : List Bool) (order : List ℕ) (places : ℕ) (buckets : List Bucket) (ok : IsIndex size capacity keys flags order places buckets) (key : List ℕ) (within : home_of (length buckets) key < length buckets) (n : ℕ) (there : There flags n) (has_key : key_of size keys n ≡ key) where
  left : (m : ℕ) → There (set flags n false) m → There flags m × (m ≢ n)
  left m still = elim (cases_eq m n) [
    | inl same ↦ absurd (false≢true (sym (get_or-set_same flags n false false (there_below flags n there)) ∙ (ap (λ (k : ℕ). get_or (set flags n false) k false) (sym same) ∙ still)))
    | inr apart ↦ (sym (get_or-set_other flags n m false false apart) ∙ still, apart)
  ]

  stays : (m : ℕ) → There flags m → m ≢ n → There (set flags n false) m
  stays m was apart = get_or-set_other flags n m false false apart ∙ was

  apart_left : (a b : ℕ) → There (set flags n false) a → There (set flags n false) b → key_of size keys a ≡ key_of size keys b → a ≡ b
  apart_left a b one two same = ok.apart a b (left a one).0 (left b two).0 same

  pub removed_lookups : (q : List ℕ) → lookup (bytes_eq q) (entries_of size keys (numbers_there 0 (set flags n false))) ≡ cond (bytes_eq key q) None (lookup (bytes_eq q) (entries_of size keys (numbers_there 0 flags)))
  removed_lookups q = elim (cases_Bool (bytes_eq key q)) [
    | inl same ↦ rw same (lookup_none size keys (set flags n false) q (λ m still is. (left m still).1 (ok.apart m n (left m still).0 there (is ∙ (sym ((bytes_eq-Decides key q).0 same) ∙ sym has_key)))))
    | inr apart ↦ rw apart (go apart (lookup (bytes_eq q) (entries_of size keys (numbers_there 0 flags))) refl)
  ]
    where
      go : bytes_eq key q ≡ false → (o : Option ℕ) → lookup (bytes_eq q) (entries_of size keys (numbers_there 0 flags)) ≡ o → lookup (bytes_eq q) (entries_of size keys (numbers_there 0 (set flags n false))) ≡ lookup (bytes_eq q) (entries_of size keys (numbers_there 0 flags))
      go apart None none = lookup_none size keys (set flags n false) q (λ m still is. (let found = lookup_there size keys flags q ok.apart m (left m still).0 is in (let clash = sym none ∙ found in cc clash))) ∙ sym none
      go apart (Some m) found =
          let member = there_lookup size keys flags q m found in
          let other : m ≢ n = λ same. false≢true (sym apart ∙ (bytes_eq-Decides key q).1 (sym has_key ∙ (ap (key_of size keys) (sym same) ∙ member.1))) in
          lookup_there size keys (set flags n false) q apart_left m (stays m member.0 other) member.1 ∙ sym found

  pub removed_freed : (q : List ℕ) → lookup (bytes_eq q) (entries_of size keys (numbers_there 0 (set flags n false))) ≢ Some n
  removed_freed q found = let member = there_lookup size keys (set flags n false) q n found in (left n member.0).1 refl

  pub removed_count : length (entries_of size keys (numbers_there 0 (set flags n false))) + 1 ≡ length (entries_of size keys (numbers_there 0 flags))
  removed_count =
      let one : length (entries_of size keys (numbers_there 0 (set flags n false))) ≡ length (numbers_there 0 (set flags n false)) = length-map (numbers_there 0 (set flags n false)) (λ (m : ℕ). (key_of size keys m, m)) in
      let two : length (entries_of size keys (numbers_there 0 flags)) ≡ length (numbers_there 0 flags) = length-map (numbers_there 0 flags) (λ (m : ℕ). (key_of size keys m, m)) in
      let less = count_less 0 flags n there in
      omega (arith, one, two, less)

  home_of_n : home size keys (length buckets) n ≡ home_of (length buckets) key
  home_of_n = ap (home_of (length buckets)) has_key

  -- from its bucket
  module _ (stands_n : StandsInBucket n (bucket_at buckets (home_of (length buckets) key))) where
    abbrev c : Bucket
    c = cleared n (bucket_at buckets (home_of (length buckets) key))

    order_apart : (i : ℕ) → i < length order → get_or order i 0 ≢ n
    order_apart i lt same = ok.exclusive (home_of (length buckets) key) i within lt (rw same stands_n)

    clear_bucketed : (b m : ℕ) → b < length buckets → StandsInBucket m (bucket_at (set buckets (home_of (length buckets) key) c) b) → m ≢ nothing → There (set flags n false) m × (home size keys (length buckets) m ≡ b)
    clear_bucketed b m lt stands some = elim (cases_eq b (home_of (length buckets) key)) [
      | inl same ↦ (let moved : StandsInBucket m (cleared n (bucket_at buckets (home_of (length buckets) key))) = rw (same, at_home buckets (home_of (length buckets) key) within c) at stands in
          let from = cleared_from n (bucket_at buckets (home_of (length buckets) key)) m some moved in
          let was = ok.bucketed (home_of (length buckets) key) m within from.0 some in
          (stays m was.0 from.1, was.1 ∙ sym same))
      | inr apart ↦ (let moved = rw (at_other buckets (home_of (length buckets) key) within c b apart) at stands in
          let was = ok.bucketed b m lt moved some in
          (stays m was.0 (λ same. apart (sym was.1 ∙ (ap (home size keys (length buckets)) same ∙ home_of_n))), was.1))
    ]

    clear_exclusive : (b i : ℕ) → b < length buckets → i < length order → StandsInBucket (get_or order i 0) (bucket_at (set buckets (home_of (length buckets) key) c) b) → ⊥
    clear_exclusive b i lt less stands = elim (cases_eq b (home_of (length buckets) key)) [
      | inl same ↦ (let moved : StandsInBucket (get_or order i 0) (cleared n (bucket_at buckets (home_of (length buckets) key))) = rw (same, at_home buckets (home_of (length buckets) key) within c) at stands in
          ok.exclusive (home_of (length buckets) key) i within less (cleared_from n (bucket_at buckets (home_of (length buckets) key)) (get_or order i 0) (real_there size capacity keys flags order places buckets ok (get_or order i 0) (ok.listed i less)) moved).0)
      | inr apart ↦ ok.exclusive b i lt less (rw (at_other buckets (home_of (length buckets) key) within c b apart) at stands)
    ]

    clear_covered : (m : ℕ) → There (set flags n false) m → StandsInBucket m (bucket_at (set buckets (home_of (length buckets) key) c) (home size keys (length buckets) m)) ⊎ InOrder order m
    clear_covered m still = elim (ok.covered m (left m still).0) [
      | inl stands ↦ inl (elim (cases_eq (home size keys (length buckets) m) (home_of (length buckets) key)) [
        | inl same ↦ (let was : StandsInBucket m (bucket_at buckets (home_of (length buckets) key)) = rw same at stands in
            rw (same, at_home buckets (home_of (length buckets) key) within c) (cleared_keeps n (bucket_at buckets (home_of (length buckets) key)) m (left m still).1 was))
        | inr apart ↦ rw (at_other buckets (home_of (length buckets) key) within c (home size keys (length buckets) m) apart) stands
      ])
      | inr in_order ↦ inr in_order
    ]

    clear_counted : (b : ℕ) → b < length buckets → (bucket_at (set buckets (home_of (length buckets) key) c) b).over ≡ homed b (home size keys (length buckets)) order
    clear_counted b lt = elim (cases_eq b (home_of (length buckets) key)) [
      | inl same ↦ rw (same, at_home buckets (home_of (length buckets) key) within c) (ok.counted (home_of (length buckets) key) within)
      | inr apart ↦ rw (at_other buckets (home_of (length buckets) key) within c b apart) (ok.counted b lt)
    ]

    pub cleared_from_bucket : IsIndex size capacity keys (set flags n false) order places (set buckets (home_of (length buckets) key) c)
    cleared_from_bucket =
        let e : length (set buckets (home_of (length buckets) key) c) ≡ length buckets = as_many buckets (home_of (length buckets) key) within c in
        record {
          ordered = ok.ordered;
          flag_count = length-set flags n false ∙ ok.flag_count;
          few = ok.few;
          some = rw e ok.some;
          room = ok.room;
          apart = apart_left;
          listed = λ i lt. stays (get_or order i 0) (ok.listed i lt) (order_apart i lt);
          bucketed = rw e clear_bucketed;
          exclusive = rw e clear_exclusive;
          covered = rw e clear_covered;
          counted = rw e clear_counted;
        }

  -- from the order
  module _ (at : ℕ) (lt_at : at < length order) (is_n : get_or order at 0 ≡ n) where
    abbrev fewer : Bucket
    fewer = record (bucket_at buckets (home_of (length buckets) key)) { over = (bucket_at buckets (home_of (length buckets) key)).over - 1 }

    is_at : IsAt size keys order key at
    is_at = record { in_range = lt_at; has_key = ap (key_of size keys) is_n ∙ has_key }

    not_standing : (b : ℕ) → b < length buckets → StandsInBucket n (bucket_at buckets b) → ⊥
    not_standing b lt stands = ok.exclusive b at lt lt_at (rw is_n stands)

    fewer_back : (b m : ℕ) → StandsInBucket m (bucket_at (set buckets (home_of (length buckets) key) fewer) b) → StandsInBucket m (bucket_at buckets b)
    fewer_back b m stands = elim (cases_eq b (home_of (length buckets) key)) [
      | inl same ↦ rw same (rw (same, at_home buckets (home_of (length buckets) key) within fewer) at stands)
      | inr apart ↦ rw (at_other buckets (home_of (length buckets) key) within fewer b apart) at stands
    ]

    fewer_on : (b m : ℕ) → StandsInBucket m (bucket_at buckets b) → StandsInBucket m (bucket_at (set buckets (home_of (length buckets) key) fewer) b)
    fewer_on b m stands = elim (cases_eq b (home_of (length buckets) key)) [
      | inl same ↦ (let was : StandsInBucket m (bucket_at buckets (home_of (length buckets) key)) = rw same at stands in rw (same, at_home buckets (home_of (length buckets) key) within fewer) was)
      | inr apart ↦ rw (at_other buckets (home_of (length buckets) key) within fewer b apart) stands
    ]

    others : (i : ℕ) → i < length (remove order at) → (j : ℕ) × (j < length order) × (get_or (remove order at) i 0 ≡ get_or order j 0) × (get_or order j 0 ≢ n)
    others i lt =
        let from = remove_from order at lt_at i lt in
        (from.0, from.1, from.3, λ same. other_number size capacity keys order key ok.ordered at is_at from.0 from.1 from.2 (same ∙ sym is_n))

    pub some_over : 0 < (bucket_at buckets (home_of (length buckets) key)).over
    some_over =
        let some = homed_some (home_of (length buckets) key) (home size keys (length buckets)) order at lt_at (ap (home size keys (length buckets)) is_n ∙ home_of_n) in
        let count = ok.counted (home_of (length buckets) key) within in
        omega (arith, some, count)

    fewer_exclusive : (b i : ℕ) → b < length buckets → i < length (remove order at) → StandsInBucket (get_or (remove order at) i 0) (bucket_at (set buckets (home_of (length buckets) key) fewer) b) → ⊥
    fewer_exclusive b i lt less stands =
        let from = others i less in
        let moved : StandsInBucket (get_or order from.0 0) (bucket_at buckets b) = rw from.2 at (fewer_back b (get_or (remove order at) i 0) stands) in
        ok.exclusive b from.0 lt from.1 moved

    fewer_bucketed : (b m : ℕ) → b < length buckets → StandsInBucket m (bucket_at (set buckets (home_of (length buckets) key) fewer) b) → m ≢ nothing → There (set flags n false) m × (home size keys (length buckets) m ≡ b)
    fewer_bucketed b m lt stands some =
        let back = fewer_back b m stands in
        let was = ok.bucketed b m lt back some in
        (stays m was.0 (λ same. not_standing b lt (rw same at back)), was.1)

    fewer_covered : (m : ℕ) → There (set flags n false) m → StandsInBucket m (bucket_at (set buckets (home_of (length buckets) key) fewer) (home size keys (length buckets) m)) ⊎ InOrder (remove order at) m
    fewer_covered m still = elim (ok.covered m (left m still).0) [
      | inl stands ↦ inl (fewer_on (home size keys (length buckets) m) m stands)
      | inr in_order ↦ inr (in_remove order at lt_at m in_order (λ same. (left m still).1 (same ∙ is_n)))
    ]

    fewer_counted : (b : ℕ) → b < length buckets → (bucket_at (set buckets (home_of (length buckets) key) fewer) b).over ≡ homed b (home size keys (length buckets)) (remove order at)
    fewer_counted b lt =
        let less : homed b (home size keys (length buckets)) (remove order at) + one_homed b (home size keys (length buckets) (get_or order at 0)) ≡ homed b (home size keys (length buckets)) order = homed_remove b (home size keys (length buckets)) order at lt_at in
        let homes : home size keys (length buckets) (get_or order at 0) ≡ home_of (length buckets) key = ap (home size keys (length buckets)) is_n ∙ home_of_n in
        let count = ok.counted b lt in
        elim (cases_eq b (home_of (length buckets) key)) [
          | inl same ↦ (let one : one_homed b (home size keys (length buckets) (get_or order at 0)) ≡ 1 = rw (eq-eqb (home size keys (length buckets) (get_or order at 0)) b (homes ∙ sym same)) refl in
              let over : (bucket_at (set buckets (home_of (length buckets) key) fewer) b).over ≡ (bucket_at buckets (home_of (length buckets) key)).over - 1 = rw (same, at_home buckets (home_of (length buckets) key) within fewer) refl in
              let here : (bucket_at buckets (home_of (length buckets) key)).over ≡ (bucket_at buckets b).over = rw same refl in
              omega (arith, less, one, over, here, count))
          | inr apart ↦ (let none : one_homed b (home size keys (length buckets) (get_or order at 0)) ≡ 0 = rw (ne_eqb (home size keys (length buckets) (get_or order at 0)) b (λ is. apart (sym is ∙ homes))) refl in
              rw (at_other buckets (home_of (length buckets) key) within fewer b apart) (omega (arith, less, none, count)))
        ]

    pub taken_from_order : (spots : ℕ) → capacity ≤ spots → IsIndex size capacity keys (set flags n false) (remove order at) spots (set buckets (home_of (length buckets) key) fewer)
    taken_from_order spots room =
        let e : length (set buckets (home_of (length buckets) key) fewer) ≡ length buckets = as_many buckets (home_of (length buckets) key) within fewer in
        record {
          ordered = order_less size capacity keys order key ok.ordered at is_at;
          flag_count = length-set flags n false ∙ ok.flag_count;
          few = ok.few;
          some = rw e ok.some;
          room = room;
          apart = apart_left;
          listed = λ i lt. (let from = others i lt in rw from.2 (stays (get_or order from.0 0) (ok.listed from.0 from.1) from.3));
          bucketed = rw e fewer_bucketed;
          exclusive = rw e fewer_exclusive;
          covered = rw e fewer_covered;
          counted = rw e fewer_counted;
        }

-- ---- an index of no keys

replicate_any : {A : Type 0} (count : ℕ) (a : A) (n : ℕ) → get_or (replicate count a) n a ≡ a
replicate_any count a n = elim (cases_lt n count) [
  | inl lower ↦ get_or-replicate count n a a lower
  | inr at_least ↦ get_or_past (replicate count a) n a (rw (length-replicate count a) at_least)
]

pub numbers_none : (from capacity : ℕ) → numbers_there from (replicate capacity false) ≡ []
numbers_none from zero = refl
numbers_none from (suc capacity) = numbers_none (suc from) capacity

pub empty_index : (size capacity : ℕ) (keys : List ℕ) (flags : List Bool) (order : List ℕ) (places count : ℕ) (buckets : List Bucket) → length keys ≡ capacity * size → flags ≡ replicate capacity false → order ≡ [] → capacity < nothing → capacity ≤ places → buckets ≡ replicate count empty_bucket → 0 < count → IsIndex size capacity keys flags order places buckets
empty_index size capacity keys flags order places count buckets long unset none few room empty some =
    let off : (n : ℕ) → There flags n → ⊥ = λ n there. false≢true (sym (replicate_any capacity false n) ∙ rw unset at there) in
    let bare : (b : ℕ) → bucket_at buckets b ≡ empty_bucket = λ b. rw empty (replicate_any count empty_bucket b) in
    let nowhere : (b n : ℕ) → StandsInBucket n (bucket_at buckets b) → n ≡ nothing = λ b n stands. (let at_empty : StandsInBucket n empty_bucket = rw (bare b) at stands in elim at_empty [ inl e ↦ sym e | inr r ↦ elim r [ inl e ↦ sym e | inr e ↦ sym e ] ]) in
    record {
      ordered = empty_order size capacity keys order long none;
      flag_count = rw unset (length-replicate capacity false);
      few = few;
      some = rw (empty, length-replicate count empty_bucket) some;
      room = room;
      apart = λ n m there also same. absurd (off n there);
      listed = λ i lt. (let short : i < 0 = rw none at lt in absurd (omega (arith, short)));
      bucketed = λ b n lt stands real. absurd (real (nowhere b n stands));
      exclusive = λ b i lt less stands. (let short : i < 0 = rw none at less in omega (arith, short));
      covered = λ n there. absurd (off n there);
      counted = λ b lt. rw (bare b, none) refl;
    }
