-- What the table is once each slot was taken.
use Rattle.std.proofs.Common.{◌≡◌, ◌≢◌, ℕ, ◌+◌, ◌-◌, ◌/◌, ◌%◌, ◌<◌, ◌⊎◌, eqb, List, Some, [], ◌∷◌, length, get_or, map, ⊎_elim, refl, sym, ap, ◌∙◌, subst, arith}
use Rattle.std.specs.Prelude.{Contains, All, AllPairs, count_by, slice_get}
use Rattle.std.proofs.Math.Nat.{mod-lt}
use Rattle.std.proofs.lemmas.Bool.{cases_eq, cases_order}
use Rattle.std.proofs.lemmas.List.{length-map, get_or-map}
use Rattle.std.proofs.lemmas.List.Elements.{All-from_get_or, All-tail, All-head}
use Rattle.std.proofs.lemmas.List.Sums.{sum_by-cons}
use Rattle.std.proofs.lemmas.Option.{slice_get-get_or}
use Rattle.maglev.specs.declared.preference.Preference.{Preference}
use Rattle.maglev.specs.Population.{IsPopulation, IsBalanced, no_backend, preference_numbers, share_of}
use Rattle.maglev.specs.Turns.{AreTurnsTaken, preference_at, owners_of, turns_of}
use Rattle.maglev.proofs.Shares.{counts, counts-same, counts-other, not_from_count, turns_of-fair}
use Rattle.maglev.proofs.Uniqueness.{same_owners}

-- a count survives names that are distinguished
count_by-names : (name : ℕ → ℕ) (most place : ℕ) → ((other : ℕ) → other < most → name other ≡ name place → other ≡ place)
    → (xs : List ℕ) → All (λ x. x < most) xs → count_by (λ x. eqb x (name place)) (map name xs) ≡ count_by (λ x. eqb x place) xs
count_by-names name most place apart [] below = refl
count_by-names name most place apart (x ∷ xs) below =
    let small : x < most = All-head (λ y. y < most) x xs below in
    let same : counts (name place) (name x) ≡ counts place x =
    ⊎_elim
    (λ here. counts-same (name place) (name x) (ap name here) ∙ sym (counts-same place x here))
    (λ elsewhere. counts-other (name place) (name x) (λ names. elsewhere (apart x small names)) ∙ sym (counts-other place x elsewhere))
    (cases_eq x place) in
    let named : count_by (λ y. eqb y (name place)) (map name (x ∷ xs)) ≡ counts (name place) (name x) + count_by (λ y. eqb y (name place)) (map name xs) =
    sum_by-cons (counts (name place)) (name x) (map name xs) in
    let placed : count_by (λ y. eqb y place) (x ∷ xs) ≡ counts place x + count_by (λ y. eqb y place) xs = sum_by-cons (counts place) x xs in
    let rest = count_by-names name most place apart xs (All-tail (λ y. y < most) x xs below) in
    omega (arith, same, named, placed, rest)

module _ (size free : ℕ) (backends : List Preference) (table : List ℕ) (left : List Preference)
    (state : AreTurnsTaken size free backends size table left) (some : 0 < length backends) where
  none_free : (slot : ℕ) → slot < size → get_or table slot 0 ≢ free
  none_free slot below =
      let whole : length table ≡ size = state.slots in
      let sums : count_by (λ place. eqb place free) table + size ≡ size = state.free_left in
      not_from_count free table slot (omega (arith, sums)) (omega (arith, whole))

  pub each_taken : (slot : ℕ) → slot < size → Contains state.taken slot
  each_taken slot below = state.owned_is_taken slot below (none_free slot below)

  places : All (λ place. place < length backends) table
  places = All-from_get_or (λ place. place < length backends) table 0
      (λ slot below. let whole : length table ≡ size = state.slots in state.places slot (omega (arith, whole)) (none_free slot (omega (arith, whole))))

  -- each slot has the place of an owner, also as the list is left
  pub places_left : All (λ place. place < length left) table
  places_left = subst (λ n. All (λ place. place < n) table) (sym state.same_length) places

  number_at : ℕ → ℕ
  number_at place = (preference_at left place).number

  same_number : (place : ℕ) → place < length backends → number_at place ≡ (preference_at backends place).number
  unfolding number_at
  same_number place inside = (state.rest place inside).same_number

  owner_at : (slot : ℕ) → slot < size → slice_get (owners_of left table) slot ≡ Some (number_at (get_or table slot 0))
  unfolding number_at
  owner_at slot below =
      let whole : length table ≡ size = state.slots in
      let named_long : length (owners_of left table) ≡ length table = length-map table number_at in
      slice_get-get_or (owners_of left table) slot 0 (omega (arith, whole, named_long))
      ∙ ap Some (get_or-map number_at table slot 0 0 (omega (arith, whole)))

  pub population : IsPopulation size backends (owners_of left table)
  unfolding number_at
  population = record {
    taken = state.taken;
    turns = state.each_turn;
    slots = length-map table number_at ∙ state.slots;
    first_free = state.first_free;
    owned = λ turn before.
        owner_at (get_or state.taken turn 0) (state.within turn before)
        ∙ ap (λ place. Some (number_at place)) (state.owned turn before)
        ∙ ap Some (same_number (turn % length backends) (mod-lt turn some));
  }

  pub only_one : (others : List ℕ) → IsPopulation size backends others → others ≡ owners_of left table
  unfolding population
  only_one others other = same_owners size backends (owners_of left table) others population other each_taken

  -- each owner is one of the backends
  pub owned : All (Contains (preference_numbers backends)) (owners_of left table)
  unfolding number_at
  owned = All-from_get_or (Contains (preference_numbers backends)) (owners_of left table) 0
      (λ slot below.
      let named_long : length (owners_of left table) ≡ length table = length-map table number_at in
      let inside : get_or table slot 0 < length backends = places slot 0 (omega (arith, named_long)) in
      let is_owner : get_or (owners_of left table) slot 0 ≡ (preference_at backends (get_or table slot 0)).number =
      get_or-map number_at table slot 0 0 (omega (arith, named_long)) ∙ same_number (get_or table slot 0) inside in
      let numbers_long : length (preference_numbers backends) ≡ length backends = length-map backends (λ backend. backend.number) in (
        get_or table slot 0,
        omega (arith, numbers_long, inside),
        get_or-map (λ backend. backend.number) backends (get_or table slot 0) no_backend (get_or (owners_of left table) slot 0) inside ∙ sym is_owner,
      ))

  -- numbers that differ distinguish the backends
  told_apart : AllPairs (λ number other. number ≢ other) (preference_numbers backends) → (place other : ℕ) → place < length backends → other < length backends
      → number_at other ≡ number_at place → other ≡ place
  unfolding number_at
  told_apart apart place other place_inside other_inside same =
      let numbers_long : length (preference_numbers backends) ≡ length backends = length-map backends (λ backend. backend.number) in
      let number_of : (p : ℕ) → p < length backends → get_or (preference_numbers backends) p 0 ≡ number_at p =
      λ p inside. get_or-map (λ backend. backend.number) backends p no_backend 0 inside ∙ sym (same_number p inside) in
      let numbers_same : get_or (preference_numbers backends) other 0 ≡ get_or (preference_numbers backends) place 0 =
      number_of other other_inside ∙ same ∙ sym (number_of place place_inside) in
      ⊎_elim
      (λ equal. equal)
      (λ differ.
      ⊎_elim
      (λ before. absurd (apart other place 0 before (omega (arith, numbers_long)) numbers_same))
      (λ after. absurd (apart place other 0 after (omega (arith, numbers_long)) (sym numbers_same)))
      differ)
      (cases_order other place)

  -- each backend has its share
  pub balanced : AllPairs (λ number other. number ≢ other) (preference_numbers backends) → IsBalanced (preference_numbers backends) (owners_of left table)
  unfolding number_at
  balanced apart place d below =
      let numbers_long : length (preference_numbers backends) ≡ length backends = length-map backends (λ backend. backend.number) in
      let owners_long : length (owners_of left table) ≡ size = length-map table number_at ∙ state.slots in
      let inside : place < length backends = omega (arith, numbers_long) in
      let number_is : get_or (preference_numbers backends) place d ≡ number_at place =
      get_or-map (λ backend. backend.number) backends place no_backend d inside ∙ sym (same_number place inside) in
      let share_is : share_of (get_or (preference_numbers backends) place d) (owners_of left table) ≡ turns_of (length backends) place size =
      ap (λ z. share_of z (owners_of left table)) number_is
      ∙ count_by-names number_at (length backends) place (λ other other_inside same. told_apart apart place other inside other_inside same) table places
      ∙ state.shares place inside in
      let fair = turns_of-fair (length backends) place size inside in
      let Fair : ℕ → ℕ → ℕ → Type 0 = λ share slots count. (share ≡ slots / count) ⊎ (share ≡ (slots + count - 1) / count) in
      subst (λ share. Fair share (length (owners_of left table)) (length (preference_numbers backends))) (sym share_is)
      (subst (λ slots. Fair (turns_of (length backends) place size) slots (length (preference_numbers backends))) (sym owners_long)
      (subst (λ count. Fair (turns_of (length backends) place size) size count) (sym numbers_long) fair))
