-- What a search in a bucket, or in order, says of a look-up.
use Rattle.std.proofs.Common.{◌≡◌, ◌≢◌, ℕ, zero, suc, ◌+◌, ◌*◌, ◌<◌, ◌≤◌, Bool, true, false, List, [], ◌∷◌, length, get_or, Option, Some, None, bytes_eq, refl, sym, ap, ◌∙◌, inl, inr, arith, rules, cond, ne_eqb}
use Rattle.std.proofs.lemmas.List.{same_lists, places, length-take-le, length-drop}
use Rattle.wire.specs.FrameView.{overwritten_at}
use Rattle.std.specs.Map.{lookup}
use Rattle.std.proofs.lemmas.Bool.{cases_Bool, cases_lt, false≢true}
use Rattle.std.proofs.lemmas.Bool.Decides.{eqb_tells}
use Rattle.std.proofs.lemmas.Slice.Eq.{bytes_eq-Decides}
use Rattle.std.proofs.Math.Nat.{mul-le-mul_right}
use Rattle.plain_maps.specs.declared.buckets.Bucket.{Bucket}
use Rattle.plain_maps.specs.Keyed.{key_of, entries_of, numbers_there, IsGapFor}
use Rattle.plain_maps.specs.Hashing.{home_of}
use Rattle.plain_maps.specs.Buckets.{nothing, StandsInBucket, has, found_in, There, InOrder, bucket_at, home, IsIndex}
use Rattle.plain_maps.proofs.Homes.{in_numbers, numbers_in, there_below, homed_some}
use Rattle.plain_maps.proofs.Lookups.{apart_above, apart_below}

-- ---- look-ups by flags

pub member_lookup : (size : ℕ) (keys q numbers : List ℕ) (n : ℕ) → lookup (bytes_eq q) (entries_of size keys numbers) ≡ Some n → InOrder numbers n × (key_of size keys n ≡ q)
member_lookup size keys q [] n found = absurd (cc found)
member_lookup size keys q (m ∷ numbers) n found = elim (cases_Bool (bytes_eq q (key_of size keys m))) [
  | inl same ↦ (let here = rw same at found in
      let is : m ≡ n = cc here in
      ((0, omega arith, is), ap (key_of size keys) (sym is) ∙ sym ((bytes_eq-Decides q (key_of size keys m)).0 same)))
  | inr apart ↦ (let later = rw apart at found in
      let rest = member_lookup size keys q numbers n later in
      let in_range : rest.0.0 < length numbers = rest.0.1 in
      ((suc rest.0.0, omega arith, rest.0.2), rest.1))
]

pub absent_lookup : (size : ℕ) (keys q numbers : List ℕ) (i : ℕ) → lookup (bytes_eq q) (entries_of size keys numbers) ≡ None → i < length numbers → key_of size keys (get_or numbers i 0) ≡ q → ⊥
absent_lookup size keys q [] i absent lt same = absurd (omega arith)
absent_lookup size keys q (m ∷ numbers) zero absent lt same = elim (cases_Bool (bytes_eq q (key_of size keys m))) [
  | inl here ↦ (let none = rw here at absent in absurd (cc none))
  | inr apart ↦ false≢true (sym apart ∙ (bytes_eq-Decides q (key_of size keys m)).1 (sym same))
]
absent_lookup size keys q (m ∷ numbers) (suc i) absent lt same = elim (cases_Bool (bytes_eq q (key_of size keys m))) [
  | inl here ↦ (let none = rw here at absent in absurd (cc none))
  | inr apart ↦ (let later = rw apart at absent in absent_lookup size keys q numbers i later (omega arith) same)
]

module _ (size : ℕ) (keys : List ℕ) (flags : List Bool) (q : List ℕ) where
  pub there_lookup : (n : ℕ) → lookup (bytes_eq q) (entries_of size keys (numbers_there 0 flags)) ≡ Some n → There flags n × (key_of size keys n ≡ q)
  there_lookup n found =
      let member = member_lookup size keys q (numbers_there 0 flags) n found in
      let flag = numbers_in 0 flags member.0.0 member.0.1 in
      let is : flag.0 ≡ n = omega (arith, flag.2, member.0.2) in
      (rw is at flag.1, member.1)

  pub lookup_there : ((n m : ℕ) → There flags n → There flags m → key_of size keys n ≡ key_of size keys m → n ≡ m) → (n : ℕ) → There flags n → key_of size keys n ≡ q → lookup (bytes_eq q) (entries_of size keys (numbers_there 0 flags)) ≡ Some n
  lookup_there apart n there same = go (lookup (bytes_eq q) (entries_of size keys (numbers_there 0 flags))) refl
    where
      go : (o : Option ℕ) → lookup (bytes_eq q) (entries_of size keys (numbers_there 0 flags)) ≡ o → lookup (bytes_eq q) (entries_of size keys (numbers_there 0 flags)) ≡ Some n
      go None absent =
          let stands = in_numbers 0 flags n there in
          let is : get_or (numbers_there 0 flags) stands.0 0 ≡ n = omega (arith, stands.2) in
          absurd (absent_lookup size keys q (numbers_there 0 flags) stands.0 absent stands.1 (ap (key_of size keys) is ∙ same))
      go (Some m) found =
          let member = there_lookup m found in
          let is : m ≡ n = apart m n member.0 there (member.1 ∙ sym same) in
          found ∙ ap Some is

  pub lookup_none : ((n : ℕ) → There flags n → key_of size keys n ≡ q → ⊥) → lookup (bytes_eq q) (entries_of size keys (numbers_there 0 flags)) ≡ None
  lookup_none absent = go (lookup (bytes_eq q) (entries_of size keys (numbers_there 0 flags))) refl
    where
      go : (o : Option ℕ) → lookup (bytes_eq q) (entries_of size keys (numbers_there 0 flags)) ≡ o → lookup (bytes_eq q) (entries_of size keys (numbers_there 0 flags)) ≡ None
      go None found = found
      go (Some m) found = let member = there_lookup m found in absurd (absent m member.0 member.1)

-- ---- a search in a bucket

has_real : (size : ℕ) (keys key : List ℕ) (n : ℕ) → has size keys key n ≡ true → (n ≢ nothing) × (key_of size keys n ≡ key)
has_real size keys key n is = elim (eqb_tells n nothing) [
  | inl none ↦ (let no = rw none.0 at is in absurd (false≢true no))
  | inr some ↦ (let yes = rw some.0 at is in (some.1, (bytes_eq-Decides (key_of size keys n) key).0 yes))
]

has_key : (size : ℕ) (keys key : List ℕ) (n : ℕ) → n ≢ nothing → key_of size keys n ≡ key → has size keys key n ≡ true
has_key size keys key n some same = rw (ne_eqb n nothing some, (bytes_eq-Decides (key_of size keys n) key).1 same) refl

module _ (size : ℕ) (keys key : List ℕ) (bucket : Bucket) where
  pub found_some : (n : ℕ) → found_in size keys key bucket ≡ Some n → StandsInBucket n bucket × (n ≢ nothing) × (key_of size keys n ≡ key)
  found_some n found = elim (cases_Bool (has size keys key bucket.first)) [
    | inl first ↦ (let here = rw first at found in
        let is : bucket.first ≡ n = cc here in
        let real = has_real size keys key bucket.first first in
        (inl is, (λ none. real.0 (is ∙ none)), ap (key_of size keys) (sym is) ∙ real.1))
    | inr no_first ↦ elim (cases_Bool (has size keys key bucket.second)) [
      | inl second ↦ (let here = rw (no_first, second) at found in
          let is : bucket.second ≡ n = cc here in
          let real = has_real size keys key bucket.second second in
          (inr (inl is), (λ none. real.0 (is ∙ none)), ap (key_of size keys) (sym is) ∙ real.1))
      | inr no_second ↦ elim (cases_Bool (has size keys key bucket.third)) [
        | inl third ↦ (let here = rw (no_first, no_second, third) at found in
            let is : bucket.third ≡ n = cc here in
            let real = has_real size keys key bucket.third third in
            (inr (inr is), (λ none. real.0 (is ∙ none)), ap (key_of size keys) (sym is) ∙ real.1))
        | inr no_third ↦ (let here = rw (no_first, no_second, no_third) at found in absurd (cc here))
      ]
    ]
  ]

  pub found_none : found_in size keys key bucket ≡ None → (n : ℕ) → StandsInBucket n bucket → n ≢ nothing → key_of size keys n ≡ key → ⊥
  found_none none n stands some same = elim (cases_Bool (has size keys key bucket.first)) [
    | inl first ↦ (let here = rw first at none in cc here)
    | inr no_first ↦ elim (cases_Bool (has size keys key bucket.second)) [
      | inl second ↦ (let here = rw (no_first, second) at none in cc here)
      | inr no_second ↦ elim (cases_Bool (has size keys key bucket.third)) [
        | inl third ↦ (let here = rw (no_first, no_second, third) at none in cc here)
        | inr no_third ↦ elim stands [
          | inl is ↦ false≢true (sym (rw is at no_first) ∙ has_key size keys key n some same)
          | inr later ↦ elim later [
            | inl is ↦ false≢true (sym (rw is at no_second) ∙ has_key size keys key n some same)
            | inr is ↦ false≢true (sym (rw is at no_third) ∙ has_key size keys key n some same)
          ]
        ]
      ]
    ]
  ]

-- ---- a look-up in the index

pub end_of_key : (m n size : ℕ) → m < n → m * size + size ≤ n * size
end_of_key m n size lt = let h : (m + 1) * size ≤ n * size = mul-le-mul_right size (omega arith) in omega (arith, h)

module _ (size capacity : ℕ) (keys : List ℕ) (flags : List Bool) (order : List ℕ) (places : ℕ) (buckets : List Bucket) (ok : IsIndex size capacity keys flags order places buckets) where
  pub small_there : (n : ℕ) → There flags n → n < capacity
  small_there n there = let lt = there_below flags n there in omega (arith, lt, ok.flag_count)

  pub real_there : (n : ℕ) → There flags n → n ≢ nothing
  real_there n there none = let lt = small_there n there in omega (arith, lt, none, ok.few)

  pub key_within : (n : ℕ) → n < capacity → n * size + size ≤ length keys
  key_within n small = let ends = end_of_key n capacity size small in omega (arith, ends, ok.ordered.room_of_keys)

  pub slots_within : (b : ℕ) → b < length buckets → (n : ℕ) → StandsInBucket n (bucket_at buckets b) → n ≢ nothing → n * size + size ≤ length keys
  slots_within b lt n stands some = key_within n (small_there n (ok.bucketed b n lt stands some).0)

  module _ (key : List ℕ) (within : home_of (length buckets) key < length buckets) where
    pub found_in_bucket : (n : ℕ) → found_in size keys key (bucket_at buckets (home_of (length buckets) key)) ≡ Some n → There flags n × (key_of size keys n ≡ key)
    found_in_bucket n found =
        let is = found_some size keys key (bucket_at buckets (home_of (length buckets) key)) n found in
        ((ok.bucketed (home_of (length buckets) key) n within is.0 is.1).0, is.2)

    pub not_in_bucket : found_in size keys key (bucket_at buckets (home_of (length buckets) key)) ≡ None → (n : ℕ) → There flags n → key_of size keys n ≡ key → InOrder order n
    not_in_bucket none n there same = elim (ok.covered n there) [
      | inl stands ↦ (let moved : StandsInBucket n (bucket_at buckets (home_of (length buckets) key)) = rw same at stands in
          absurd (found_none size keys key (bucket_at buckets (home_of (length buckets) key)) none n moved (real_there n there) same))
      | inr in_order ↦ in_order
    ]

    pub nowhere : found_in size keys key (bucket_at buckets (home_of (length buckets) key)) ≡ None → (bucket_at buckets (home_of (length buckets) key)).over ≡ 0 → (n : ℕ) → There flags n → key_of size keys n ≡ key → ⊥
    nowhere none idle n there same =
        let in_order = not_in_bucket none n there same in
        let home_same : home size keys (length buckets) (get_or order in_order.0 0) ≡ home_of (length buckets) key = ap (home size keys (length buckets)) in_order.2 ∙ ap (home_of (length buckets)) same in
        let some = homed_some (home_of (length buckets) key) (home size keys (length buckets)) order in_order.0 in_order.1 home_same in
        let count = ok.counted (home_of (length buckets) key) within in
        omega (arith, some, count, idle)

    pub not_in_gap : found_in size keys key (bucket_at buckets (home_of (length buckets) key)) ≡ None → (at : ℕ) → IsGapFor size keys order key at → (n : ℕ) → There flags n → key_of size keys n ≡ key → ⊥
    not_in_gap none at gap n there same =
        let in_order = not_in_bucket none n there same in
        let has : key_of size keys (get_or order in_order.0 0) ≡ key = ap (key_of size keys) in_order.2 ∙ same in
        let equal = (bytes_eq-Decides key (key_of size keys (get_or order in_order.0 0))).1 (sym has) in
        elim (cases_lt in_order.0 at) [
          | inl lower ↦ false≢true (sym (apart_above key (key_of size keys (get_or order in_order.0 0)) (gap.before in_order.0 lower)) ∙ equal)
          | inr at_least ↦ false≢true (sym (apart_below key (key_of size keys (get_or order in_order.0 0)) (gap.after in_order.0 at_least in_order.1)) ∙ equal)
        ]

-- ---- what a caller owes of a new key

module _ (size : ℕ) (keys : List ℕ) (flags : List Bool) (apart : (n m : ℕ) → There flags n → There flags m → key_of size keys n ≡ key_of size keys m → n ≡ m) where
  pub unset_if_unused : (n : ℕ) → ((q : List ℕ) → lookup (bytes_eq q) (entries_of size keys (numbers_there 0 flags)) ≢ Some n) → get_or flags n false ≡ false
  unset_if_unused n unused = elim (cases_Bool (get_or flags n false)) [
    | inl there ↦ absurd (unused (key_of size keys n) (lookup_there size keys flags (key_of size keys n) apart n there refl))
    | inr unset ↦ unset
  ]

  pub none_there : (key : List ℕ) → lookup (bytes_eq key) (entries_of size keys (numbers_there 0 flags)) ≡ None → (m : ℕ) → There flags m → key_of size keys m ≡ key → ⊥
  none_there key absent m there same = let found = lookup_there size keys flags key apart m there same in (let clash = sym absent ∙ found in cc clash)

pub overwritten_whole : (piece old : List ℕ) → length piece ≡ length old → overwritten_at 0 piece old ≡ piece
overwritten_whole piece old same = same_lists _ _ (search (rules, places)) (λ k d h. grind (arith, places))

pub length_of_key : (size : ℕ) (keys : List ℕ) (n : ℕ) → n * size + size ≤ length keys → length (key_of size keys n) ≡ size
length_of_key size keys n within = grind (arith, length-take-le, length-drop)

pub absent_lookups : (key : List ℕ) (lookups : List ℕ → Option ℕ) → lookups key ≡ None → (q : List ℕ) → lookups q ≡ cond (bytes_eq key q) None (lookups q)
absent_lookups key lookups absent q = elim (cases_Bool (bytes_eq key q)) [
  | inl same ↦ (let is : key ≡ q = (bytes_eq-Decides key q).0 same in rw same (ap lookups (sym is) ∙ absent))
  | inr apart ↦ rw apart refl
]
