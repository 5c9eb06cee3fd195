-- Lists of keys, each with what it has: how a look-up and the keys change as a list grows, or as its values are read.
use Rattle.std.proofs.Common.{◌≡◌, ℕ, Bool, true, false, List, [], ◌∷◌, ◌++◌, map, Option, Some, None, bytes_eq, refl, sym, ap, ◌∙◌, inl, inr, subst}
use Rattle.std.specs.Prelude.{option_map, if◌then◌else◌}
use Rattle.std.specs.List.{AllByRecursion, IsDistinct, list_any}
use Rattle.std.specs.Map.{lookup, keys_of}
use Rattle.std.proofs.lemmas.Bool.{cases_Bool, false≢true}
use Rattle.std.proofs.lemmas.Cmp.{nat_list_eq_equiv}
use Rattle.std.proofs.lemmas.List.{map-append}
use Rattle.std.proofs.lemmas.Map.Keys.{IsDistinct-push, IsDistinct-cons, IsDistinct-head, IsDistinct-tail}
use Rattle.std.proofs.lemmas.Slice.Eq.{bytes_eq-Decides}
use Rattle.plain_maps.specs.Listed.{ListsAll, read_entry}

-- ---- tests

pub when_true : {A : Type 0} (test : Bool) (x y : A) → test ≡ true → (if test then x else y) ≡ x
when_true true x y is = refl
when_true false x y is = absurd (false≢true is)

pub when_false : {A : Type 0} (test : Bool) (x y : A) → test ≡ false → (if test then x else y) ≡ y
when_false true x y is = absurd (false≢true (sym is))
when_false false x y is = refl

-- ---- look-ups

pub lookup_before : {V : Type 0} (test : List ℕ → Bool) (xs ys : List (List ℕ × V)) (v : V) → lookup test xs ≡ Some v → lookup test (xs ++ ys) ≡ Some v
lookup_before test [] ys v found = absurd (cc found)
lookup_before test (x ∷ xs) ys v found = elim (cases_Bool (test x.0)) [
  | inl here ↦ rw here (rw here at found)
  | inr later ↦ rw later (lookup_before test xs ys v (rw later at found))
]

pub lookup_behind : {V : Type 0} (test : List ℕ → Bool) (xs ys : List (List ℕ × V)) → lookup test xs ≡ None → lookup test (xs ++ ys) ≡ lookup test ys
lookup_behind test [] ys absent = refl
lookup_behind test (x ∷ xs) ys absent = elim (cases_Bool (test x.0)) [
  | inl here ↦ (let none = rw here at absent in absurd (cc none))
  | inr later ↦ rw later (lookup_behind test xs ys (rw later at absent))
]

pub none_passes : {V : Type 0} (test : List ℕ → Bool) (xs : List (List ℕ × V)) → lookup test xs ≡ None → list_any test (keys_of xs) ≡ false
none_passes test [] absent = refl
none_passes test (x ∷ xs) absent = elim (cases_Bool (test x.0)) [
  | inl here ↦ (let none = rw here at absent in absurd (cc none))
  | inr later ↦ rw later (none_passes test xs (rw later at absent))
]

-- ---- keys that differ

pub none_distinct : IsDistinct bytes_eq []
unfolding IsDistinct
none_distinct = tt

pub distinct_push : {V : Type 0} (xs : List (List ℕ × V)) (key : List ℕ) (v : V) → IsDistinct bytes_eq (keys_of xs) → lookup (bytes_eq key) xs ≡ None → IsDistinct bytes_eq (keys_of (xs ++ (key, v) ∷ []))
distinct_push {V} xs key v apart absent =
    subst (λ keys. IsDistinct bytes_eq keys) (sym (map-append (λ (e : List ℕ × V). e.0) xs ((key, v) ∷ [])))
    (IsDistinct-push nat_list_eq_equiv (keys_of xs) key apart (none_passes (bytes_eq key) xs absent))

-- ---- values that are read

module _ {V W : Type 0} (read : V → W) where
  pub keys_read : (xs : List (List ℕ × V)) → keys_of (map (read_entry read) xs) ≡ keys_of xs
  keys_read [] = refl
  keys_read (x ∷ xs) = ap (λ (keys : List (List ℕ)). x.0 ∷ keys) (keys_read xs)

  pub lookup_read : (test : List ℕ → Bool) (xs : List (List ℕ × V)) → lookup test (map (read_entry read) xs) ≡ option_map read (lookup test xs)
  lookup_read test [] = refl
  lookup_read test (x ∷ xs) = elim (cases_Bool (test x.0)) [
    | inl here ↦ rw here refl
    | inr later ↦ rw later (lookup_read test xs)
  ]

  pub lists_read : (value : List ℕ → Option V) (xs : List (List ℕ × V)) → ListsAll value xs → ListsAll (λ key. option_map read (value key)) (map (read_entry read) xs)
  lists_read value xs lists = record {
    apart = subst (λ keys. IsDistinct bytes_eq keys) (sym (keys_read xs)) lists.apart;
    each = λ key. lookup_read (bytes_eq key) xs ∙ ap (option_map read) (lists.each key);
  }

-- ---- the same values

pub lists_as : {V : Type 0} (value other : List ℕ → Option V) (xs : List (List ℕ × V)) → ((key : List ℕ) → value key ≡ other key) → ListsAll value xs → ListsAll other xs
lists_as value other xs same lists = record { apart = lists.apart; each = λ key. lists.each key ∙ same key }

-- ---- entries and look-ups

-- no key of the list passes
pub absent_among : {V : Type 0} (key : List ℕ) (xs : List (List ℕ × V)) → AllByRecursion (λ other. bytes_eq key other ≡ false) (keys_of xs) → lookup (bytes_eq key) xs ≡ None
absent_among key [] apart = refl
absent_among key (x ∷ xs) apart = rw apart.0 (absent_among key xs apart.1)

-- what is found behind the first entry is found in the whole list
pub found_behind : {V : Type 0} (key : List ℕ) (x : List ℕ × V) (xs : List (List ℕ × V)) (v : V) → IsDistinct bytes_eq (keys_of (x ∷ xs)) → lookup (bytes_eq key) xs ≡ Some v → lookup (bytes_eq key) (x ∷ xs) ≡ Some v
found_behind key x xs v apart found = elim (cases_Bool (bytes_eq key x.0)) [
  | inl here ↦ (let same : key ≡ x.0 = (bytes_eq-Decides key x.0).0 here in
      let none : lookup (bytes_eq key) xs ≡ None = subst (λ (k : List ℕ). lookup (bytes_eq k) xs ≡ None) (sym same) (absent_among x.0 xs (IsDistinct-head bytes_eq x.0 (keys_of xs) apart)) in
      let clash : None ≡ Some v = sym none ∙ found in
      absurd (cc clash))
  | inr later ↦ rw later found
]

-- a fact of each value that is found is one of each entry
pub each_found : {V : Type 0} (P : V → Type 0) (xs : List (List ℕ × V)) → IsDistinct bytes_eq (keys_of xs) → ((key : List ℕ) (v : V) → lookup (bytes_eq key) xs ≡ Some v → P v) → AllByRecursion (λ (e : List ℕ × V). P e.1) xs
each_found P [] apart each = tt
each_found P (x ∷ xs) apart each = (
  each x.0 x.1 (rw (nat_list_eq_equiv.refl x.0) refl),
  each_found P xs (IsDistinct-tail bytes_eq x.0 (keys_of xs) apart) (λ key v found. each key v (found_behind key x xs v apart found)),
)

-- ---- one list behind another

others_of_absent : {V : Type 0} (key : List ℕ) (xs : List (List ℕ × V)) → lookup (bytes_eq key) xs ≡ None → AllByRecursion (λ other. bytes_eq key other ≡ false) (keys_of xs)
others_of_absent key [] absent = tt
others_of_absent key (x ∷ xs) absent = elim (cases_Bool (bytes_eq key x.0)) [
  | inl here ↦ (let none = rw here at absent in absurd (cc none))
  | inr later ↦ (later, others_of_absent key xs (rw later at absent))
]

others_append : {V : Type 0} (key : List ℕ) (xs ys : List (List ℕ × V)) → AllByRecursion (λ other. bytes_eq key other ≡ false) (keys_of xs) → AllByRecursion (λ other. bytes_eq key other ≡ false) (keys_of ys)
    → AllByRecursion (λ other. bytes_eq key other ≡ false) (keys_of (xs ++ ys))
others_append key [] ys first second = second
others_append key (x ∷ xs) ys first second = (first.0, others_append key xs ys first.1 second)

distinct_append : {V : Type 0} (xs ys : List (List ℕ × V)) → IsDistinct bytes_eq (keys_of xs) → IsDistinct bytes_eq (keys_of ys) → ((key : List ℕ) (v : V) → lookup (bytes_eq key) xs ≡ Some v → lookup (bytes_eq key) ys ≡ None)
    → IsDistinct bytes_eq (keys_of (xs ++ ys))
distinct_append [] ys first second apart = second
distinct_append (x ∷ xs) ys first second apart =
    IsDistinct-cons bytes_eq x.0 (keys_of (xs ++ ys))
    (others_append x.0 xs ys (IsDistinct-head bytes_eq x.0 (keys_of xs) first) (others_of_absent x.0 ys (apart x.0 x.1 (rw (nat_list_eq_equiv.refl x.0) refl))))
    (distinct_append xs ys (IsDistinct-tail bytes_eq x.0 (keys_of xs) first) second (λ key v found. apart key v (found_behind key x xs v first found)))

-- the first that is there
abbrev pub first_of : {V : Type 0} → Option V → Option V → Option V
first_of (Some v) other = Some v
first_of None other = other

lookup_append : {V : Type 0} (test : List ℕ → Bool) (xs ys : List (List ℕ × V)) → lookup test (xs ++ ys) ≡ first_of (lookup test xs) (lookup test ys)
lookup_append test [] ys = refl
lookup_append test (x ∷ xs) ys = elim (cases_Bool (test x.0)) [
  | inl here ↦ rw here refl
  | inr later ↦ rw later (lookup_append test xs ys)
]

-- two lists of different keys
pub lists_append : {V : Type 0} (value other : List ℕ → Option V) (xs ys : List (List ℕ × V)) → ListsAll value xs → ListsAll other ys → ((key : List ℕ) (v : V) → value key ≡ Some v → other key ≡ None)
    → ListsAll (λ key. first_of (value key) (other key)) (xs ++ ys)
lists_append value other xs ys first second apart = record {
  apart = distinct_append xs ys first.apart second.apart (λ key v found. second.each key ∙ apart key v (sym (first.each key) ∙ found));
  each = λ key. lookup_append (bytes_eq key) xs ys ∙ ap (λ found. first_of found (lookup (bytes_eq key) ys)) (first.each key) ∙ ap (first_of (value key)) (second.each key);
}

pub lists_none : {V : Type 0} (value : List ℕ → Option V) → ((key : List ℕ) → None ≡ value key) → ListsAll value []
lists_none value none = record { apart = none_distinct; each = none }
