-- What a use and a release leave of the order by last uses.
use Rattle.std.proofs.Common.{◌≡◌, ℕ, zero, suc, ◌+◌, ◌-◌, ◌<◌, ◌≤◌, ◌≢◌, Bool, true, false, List, [], ◌∷◌, ◌++◌, length, Option, Some, None, slice_get, refl, sym, ap, ◌∙◌, inl, inr, arith, nat_eq, take, ne_eqb, eq-eqb}
use Rattle.std.proofs.lemmas.List.{map-append, length-map}
use Rattle.std.specs.List.{AllByRecursion, IsDistinct}
use Rattle.std.specs.Option.{option_map_or}
use Rattle.std.specs.Map.{lookup_entry, remove_entry, keys_of}
use Rattle.std.specs.Cmp.{nat_eq_equiv}
use Rattle.std.proofs.lemmas.Map.{NonePasses}
use Rattle.std.proofs.lemmas.Map.Keys.{IsDistinct-tail}
use Rattle.std.proofs.lemmas.Map.Entries.{none_past_head}
use Rattle.std.proofs.lemmas.Bool.{cases_Bool, eqb-true}
use Rattle.lru.specs.LruCache.{promoted, demoted}
use Rattle.lru.proofs.CallerLemmas.{Contains-lookup_entry}
use Rattle.lru_maps.specs.Recency.{IsByLastUse, IsLeastRecent, used_at, without, is_listed, used, released, order_of, countdown, StandOnce}

module _ {V : Type 0} where
  all_but_one : (P : ℕ × V → Type 0) (test : ℕ → Bool) (es : List (ℕ × V)) → AllByRecursion P es → AllByRecursion P (remove_entry test es)
  all_but_one P test [] all = tt
  all_but_one P test (e ∷ es) all = elim (cases_Bool (test e.0)) [
    | inl here ↦ rw here all.1
    | inr past ↦ rw past (all.0, all_but_one P test es all.1)
  ]

  all_weaker : (P Q : ℕ × V → Type 0) (es : List (ℕ × V)) → ((o : ℕ × V) → P o → Q o) → AllByRecursion P es → AllByRecursion Q es
  all_weaker P Q [] weaker all = tt
  all_weaker P Q (e ∷ es) weaker all = (weaker e all.0, all_weaker P Q es weaker all.1)

  all_both : (P Q R : ℕ × V → Type 0) (es : List (ℕ × V)) → ((o : ℕ × V) → P o → Q o → R o) → AllByRecursion P es → AllByRecursion Q es → AllByRecursion R es
  all_both P Q R [] both p q = tt
  all_both P Q R (e ∷ es) both p q = (both e p.0 q.0, all_both P Q R es both p.1 q.1)

  all_any : (P : ℕ × V → Type 0) (es : List (ℕ × V)) → ((o : ℕ × V) → P o) → AllByRecursion P es
  all_any P [] any = tt
  all_any P (e ∷ es) any = (any e, all_any P es any)

  all_push : (P : ℕ × V → Type 0) (es : List (ℕ × V)) (e : ℕ × V) → AllByRecursion P es → P e → AllByRecursion P (es ++ e ∷ [])
  all_push P [] e all last = (last, tt)
  all_push P (x ∷ es) e all last = (all.0, all_push P es e all.1 last)

  by_use_less : (last : ℕ → ℕ) (test : ℕ → Bool) (es : List (ℕ × V)) → IsByLastUse last es → IsByLastUse last (remove_entry test es)
  by_use_less last test [] by_use = tt
  by_use_less last test (e ∷ es) by_use = elim (cases_Bool (test e.0)) [
    | inl here ↦ rw here by_use.1
    | inr past ↦ rw past (all_but_one (λ (o : ℕ × V). last o.0 ≤ last e.0) test es by_use.0, by_use_less last test es by_use.1)
  ]

  none_left : (n : ℕ) (es : List (ℕ × V)) → IsDistinct nat_eq (keys_of es) → NonePasses (nat_eq n) (remove_entry (nat_eq n) es)
  none_left n [] distinct = tt
  none_left n (e ∷ es) distinct = elim (cases_Bool (nat_eq n e.0)) [
    | inl here ↦ rw here (none_past_head nat_eq_equiv n e es distinct here)
    | inr past ↦ rw past (past, none_left n es (IsDistinct-tail nat_eq e.0 (keys_of es) distinct))
  ]

  none_at : (n : ℕ) (es : List (ℕ × V)) → lookup_entry (nat_eq n) es ≡ None → NonePasses (nat_eq n) es
  none_at n [] absent = tt
  none_at n (e ∷ es) absent = elim (cases_Bool (nat_eq n e.0)) [
    | inl here ↦ (let found = rw here at absent in absurd (cc found))
    | inr past ↦ (let later = rw past at absent in (past, none_at n es later))
  ]

  -- a change of a number that is not there changes nothing
  by_use_of_others : (last : ℕ → ℕ) (n now : ℕ) (es : List (ℕ × V)) → NonePasses (nat_eq n) es → IsByLastUse last es → IsByLastUse (used_at last n now) es
  by_use_of_others last n now [] none by_use = tt
  by_use_of_others last n now (e ∷ es) none by_use = (
    all_both (λ (o : ℕ × V). nat_eq n o.0 ≡ false) (λ (o : ℕ × V). last o.0 ≤ last e.0) (λ (o : ℕ × V). used_at last n now o.0 ≤ used_at last n now e.0) es (λ o apart le. rw (apart, none.0) le) none.1 by_use.0,
    by_use_of_others last n now es none.1 by_use.1,
  )

  module _ (last : ℕ → ℕ) (n now : ℕ) (latest : (m : ℕ) → last m ≤ now) (es : List (ℕ × V)) (distinct : IsDistinct nat_eq (keys_of es)) (by_use : IsByLastUse last es) where
    rest : IsByLastUse (used_at last n now) (remove_entry (nat_eq n) es)
    rest = by_use_of_others last n now (remove_entry (nat_eq n) es) (none_left n es distinct) (by_use_less last (nat_eq n) es by_use)

    below_now : (m : ℕ) → used_at last n now m ≤ now
    below_now m = elim (cases_Bool (nat_eq n m)) [ inl here ↦ rw here (omega arith) | inr past ↦ rw past (latest m) ]

    touched : (o : Option (ℕ × V)) → lookup_entry (nat_eq n) es ≡ o → IsByLastUse (used_at last n now) (option_map_or (λ (e : ℕ × V). e ∷ remove_entry (nat_eq n) es) o es)
    touched None absent = by_use_of_others last n now es (none_at n es absent) by_use
    touched (Some e) found =
        let same : nat_eq n e.0 ≡ true = (Contains-lookup_entry (nat_eq n) es e found).1 in
        (all_any (λ (o : ℕ × V). used_at last n now o.0 ≤ used_at last n now e.0) (remove_entry (nat_eq n) es) (λ o. rw same (below_now o.0)), rest)

    pub by_use_touched : IsByLastUse (used_at last n now) (promoted (nat_eq n) es)
    by_use_touched = touched (lookup_entry (nat_eq n) es) refl

  by_use_push : (last : ℕ → ℕ) (es : List (ℕ × V)) (e : ℕ × V) → last e.0 ≡ 0 → IsByLastUse last es → IsByLastUse last (es ++ e ∷ [])
  by_use_push last [] e unused by_use = (tt, tt)
  by_use_push last (x ∷ es) e unused by_use = (all_push (λ (o : ℕ × V). last o.0 ≤ last x.0) es e by_use.0 (rw unused (omega arith)), by_use_push last es e unused by_use.1)

  module _ (last : ℕ → ℕ) (n : ℕ) (es : List (ℕ × V)) (distinct : IsDistinct nat_eq (keys_of es)) (by_use : IsByLastUse last es) where
    released_by_use : (o : Option (ℕ × V)) → lookup_entry (nat_eq n) es ≡ o → IsByLastUse (used_at last n 0) (option_map_or (λ (e : ℕ × V). remove_entry (nat_eq n) es ++ e ∷ []) o es)
    released_by_use None absent = by_use_of_others last n 0 es (none_at n es absent) by_use
    released_by_use (Some e) found =
        let same : nat_eq n e.0 ≡ true = (Contains-lookup_entry (nat_eq n) es e found).1 in
        by_use_push (used_at last n 0) (remove_entry (nat_eq n) es) e (rw same) (by_use_of_others last n 0 (remove_entry (nat_eq n) es) (none_left n es distinct) (by_use_less last (nat_eq n) es by_use))

    pub by_use_released : IsByLastUse (used_at last n 0) (demoted (nat_eq n) es)
    by_use_released = released_by_use (lookup_entry (nat_eq n) es) refl

  -- the last of the order was used least recently
  least_at : (last : ℕ → ℕ) (es : List (ℕ × V)) (e : ℕ × V) (i : ℕ) → i + 1 ≡ length es → IsByLastUse last es → slice_get es i ≡ Some e → IsLeastRecent last es e.0
  least_at last [] e i end by_use found = tt
  least_at last (x ∷ []) e zero end by_use found = (let same : x ≡ e = cc found in rw same (omega arith), tt)
  least_at last (x ∷ []) e (suc i) end by_use found = absurd (omega arith)
  least_at last (x ∷ y ∷ es) e zero end by_use found = absurd (omega arith)
  least_at last (x ∷ y ∷ es) e (suc i) end by_use found =
      let below = least_at last (y ∷ es) e i (omega arith) by_use.1 found in
      (omega (arith, below.0, by_use.0.0), below)

  pub last_is_least : (last : ℕ → ℕ) (es : List (ℕ × V)) (e : ℕ × V) → IsByLastUse last es → slice_get es (length es - 1) ≡ Some e → IsLeastRecent last es e.0
  last_is_least last [] e by_use found = tt
  last_is_least last (x ∷ es) e by_use found = least_at last (x ∷ es) e (length (x ∷ es) - 1) (omega arith) by_use found

-- ---- the numbers alone

unlisted : (n m : ℕ) → m ≤ n → is_listed n (countdown m) ≡ false
unlisted n zero le = refl
unlisted n (suc m) le = let apart : n ≢ m = omega arith in rw (ne_eqb n m apart) (unlisted n m (omega arith))

length_countdown : (n : ℕ) → length (countdown n) ≡ n
length_countdown zero = refl
length_countdown (suc n) = ap suc (length_countdown n)

module _ {V : Type 0} where
  take_whole : (k : ℕ) (es : List (ℕ × V)) → length es ≤ k → take k es ≡ es
  take_whole zero [] le = refl
  take_whole zero (e ∷ es) le = absurd (omega arith)
  take_whole (suc k) [] le = refl
  take_whole (suc k) (e ∷ es) le = ap (λ (rest : List (ℕ × V)). e ∷ rest) (take_whole k es (omega arith))

  order_removed : (n : ℕ) (es : List (ℕ × V)) → order_of (remove_entry (nat_eq n) es) ≡ without n (order_of es)
  order_removed n [] = refl
  order_removed n (e ∷ es) = elim (cases_Bool (nat_eq n e.0)) [
    | inl here ↦ rw here refl
    | inr past ↦ rw past (ap (λ (rest : List ℕ). e.0 ∷ rest) (order_removed n es))
  ]

  listed_none : (n : ℕ) (es : List (ℕ × V)) → lookup_entry (nat_eq n) es ≡ None → is_listed n (order_of es) ≡ false
  listed_none n [] absent = refl
  listed_none n (e ∷ es) absent = elim (cases_Bool (nat_eq n e.0)) [
    | inl here ↦ (let found = rw here at absent in absurd (cc found))
    | inr past ↦ (let later = rw past at absent in rw past (listed_none n es later))
  ]

  listed_some : (n : ℕ) (es : List (ℕ × V)) (e : ℕ × V) → lookup_entry (nat_eq n) es ≡ Some e → (is_listed n (order_of es) ≡ true) × (e.0 ≡ n)
  listed_some n [] e found = absurd (cc found)
  listed_some n (x ∷ es) e found = elim (cases_Bool (nat_eq n x.0)) [
    | inl here ↦ (let first = rw here at found in
        let is : x ≡ e = cc first in
        (rw here refl, ap (λ (o : ℕ × V). o.0) (sym is) ∙ sym (eqb-true n x.0 here)))
    | inr past ↦ (let later = rw past at found in let rest = listed_some n es e later in (rw past rest.0, rest.1))
  ]

  pub order_promoted : (n : ℕ) (es : List (ℕ × V)) → order_of (promoted (nat_eq n) es) ≡ used n (order_of es)
  order_promoted n es = go (lookup_entry (nat_eq n) es) refl
    where
      go : (o : Option (ℕ × V)) → lookup_entry (nat_eq n) es ≡ o → order_of (option_map_or (λ (e : ℕ × V). e ∷ remove_entry (nat_eq n) es) o es) ≡ used n (order_of es)
      go None absent = rw (listed_none n es absent) refl
      go (Some e) found = let is = listed_some n es e found in rw (is.0, is.1, order_removed n es) refl

  pub order_demoted : (n : ℕ) (es : List (ℕ × V)) → order_of (demoted (nat_eq n) es) ≡ released n (order_of es)
  order_demoted n es = go (lookup_entry (nat_eq n) es) refl
    where
      go : (o : Option (ℕ × V)) → lookup_entry (nat_eq n) es ≡ o → order_of (option_map_or (λ (e : ℕ × V). remove_entry (nat_eq n) es ++ e ∷ []) o es) ≡ released n (order_of es)
      go None absent = rw (listed_none n es absent) refl
      go (Some e) found = let is = listed_some n es e found in rw (map-append (λ (o : ℕ × V). o.0) (remove_entry (nat_eq n) es) (e ∷ []), is.0, is.1, order_removed n es) refl

  pub got_number : (es : List (ℕ × V)) (i : ℕ) (e : ℕ × V) → Some e ≡ slice_get es i → Some e.0 ≡ slice_get (order_of es) i
  got_number [] i e got = absurd (cc got)
  got_number (x ∷ es) zero e got = (let is : e ≡ x = cc got in ap (λ (o : ℕ × V). Some o.0) is)
  got_number (x ∷ es) (suc i) e got = got_number es i e got

  pub none_got : (es : List (ℕ × V)) (i : ℕ) → None ≡ slice_get es i → None ≡ slice_get (order_of es) i
  none_got [] i got = refl
  none_got (x ∷ es) zero got = absurd (cc got)
  none_got (x ∷ es) (suc i) got = none_got es i got

  lookup_unlisted : (n : ℕ) (es : List (ℕ × V)) → is_listed n (order_of es) ≡ false → lookup_entry (nat_eq n) es ≡ None
  lookup_unlisted n [] none = refl
  lookup_unlisted n (e ∷ es) none = elim (cases_Bool (nat_eq n e.0)) [
    | inl here ↦ (let is = rw here at none in absurd (cc is))
    | inr past ↦ (let later = rw past at none in rw past (lookup_unlisted n es later))
  ]

  pub filled : (n room : ℕ) (es : List (ℕ × V)) (v : V) → order_of es ≡ countdown n → n < room → order_of (option_map_or (λ (e : ℕ × V). (e.0, v) ∷ remove_entry (nat_eq n) es) (lookup_entry (nat_eq n) es) ((n, v) ∷ take (room - 1) es)) ≡ n ∷ countdown n
  filled n room es v is fits =
      let absent = lookup_unlisted n es (rw is (unlisted n n (omega arith))) in
      let long : length (order_of es) ≡ length es = length-map es (λ (o : ℕ × V). o.0) in
      let many : length (order_of es) ≡ n = rw is (length_countdown n) in
      let all : take (room - 1) es ≡ es = take_whole (room - 1) es (omega (arith, long, many)) in
      rw (absent, all) (ap (λ (rest : List ℕ). n ∷ rest) is)

-- ---- no number is behind itself

module _ {V : Type 0} where
  unlisted_apart : (n : ℕ) (es : List (ℕ × V)) → NonePasses (nat_eq n) es → is_listed n (order_of es) ≡ false
  unlisted_apart n [] none = refl
  unlisted_apart n (e ∷ es) none = rw none.0 (unlisted_apart n es none.1)

  pub stand_once : (es : List (ℕ × V)) → IsDistinct nat_eq (keys_of es) → StandOnce (order_of es)
  stand_once [] distinct = tt
  stand_once (e ∷ es) distinct =
      (unlisted_apart e.0 es (none_past_head nat_eq_equiv e.0 e es distinct (eq-eqb e.0 e.0 refl)), stand_once es (IsDistinct-tail nat_eq e.0 (keys_of es) distinct))

-- the number that is last, where the pairs are as many
pub stands_last : {V : Type 0} (es : List (ℕ × V)) (n : ℕ) → Some n ≡ slice_get (order_of es) (length es - 1) → slice_get (order_of es) (length (order_of es) - 1) ≡ Some n
stands_last es n last = (let many : length (order_of es) ≡ length es = length-map es (λ e. e.0) in rw many (sym last))
