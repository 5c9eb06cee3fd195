-- One turn more: the table, the slots taken and what is left of the preferences, before and after.
use Rattle.std.proofs.Common.{◌≡◌, ◌≢◌, ℕ, ◌+◌, ◌-◌, ◌*◌, ◌%◌, ◌<◌, ◌≤◌, eqb, List, [], ◌∷◌, ◌++◌, length, get_or, set, take, replicate, ⊎_elim, refl, sym, ap, ◌∙◌, subst, arith}
use Rattle.std.specs.Prelude.{Contains, All, count_by}
use Rattle.std.proofs.Math.Nat.{mod-lt, mod-add-mod, mod-eq_of_lt}
use Rattle.std.proofs.lemmas.Bool.{cases_eq, cases_lt}
use Rattle.std.proofs.lemmas.List.{get_or_default, get_or_read, get_or_append_left, get_or_push, get_or-set_same, get_or-set_other, length-set, length_push, length-replicate, get_or-replicate, take-append-le, take_all}
use Rattle.std.proofs.lemmas.List.Elements.{Contains-append_left, Contains-push}
use Rattle.std.proofs.lemmas.List.Folds.{sum_by-replicate}
use Rattle.maglev.specs.declared.preference.Preference.{Preference}
use Rattle.maglev.specs.Population.{preferred_slot, IsPreference, IsFirstFree, no_backend, backend_of_turn}
use Rattle.maglev.specs.Turns.{IsFirstMarked, IsRestOf, preference_at, turns_of, AreTurnsTaken}
use Rattle.maglev.proofs.Shares.{counts, counts-same, counts-other, count_by-set, Contains-from_count, turns_of-zero, turns_of-more}

-- a place of what is left is a later place of the whole list
pub preferred_slot-rest : (size : ℕ) (preference : Preference) (taken : List ℕ) (left : Preference) (rest : IsRestOf size preference taken left) (choice : ℕ)
    → preferred_slot size left choice ≡ preferred_slot size preference (rest.passed + choice)
preferred_slot-rest size preference taken left rest choice =
    let sums : preference.offset + rest.passed * preference.skip + choice * preference.skip ≡ preference.offset + (rest.passed + choice) * preference.skip = omega arith in
    ap (λ z. (z + choice * left.skip) % size) rest.begins
    ∙ ap (λ z. (preferred_slot size preference rest.passed + choice * z) % size) rest.same_skip
    ∙ mod-add-mod (preference.offset + rest.passed * preference.skip) size (choice * preference.skip)
    ∙ ap (λ z. z % size) sums

-- what is left of a preference list is one too
pub IsPreference-rest : (size : ℕ) (preference : Preference) (taken : List ℕ) (left : Preference) → IsRestOf size preference taken left
    → IsPreference size preference → IsPreference size left
IsPreference-rest size preference taken left rest fits =
    let below : preferred_slot size preference rest.passed < size = let some : preference.offset < size = fits.offset_below in mod-lt (preference.offset + rest.passed * preference.skip) (omega arith) in
    let positive : 0 < preference.skip = fits.skip_positive in
    let small : preference.skip < size = fits.skip_below in
    record {
      offset_below = rw rest.begins below;
      skip_positive = rw rest.same_skip positive;
      skip_below = rw rest.same_skip small;
    }

-- more slots taken, and it is still what is left
IsRestOf-more : (size : ℕ) (preference : Preference) (taken more : List ℕ) (left : Preference) → IsRestOf size preference taken left
    → IsRestOf size preference (taken ++ more) left
IsRestOf-more size preference taken more left rest = record {
  passed = rest.passed;
  same_number = rest.same_number;
  same_skip = rest.same_skip;
  begins = rest.begins;
  passed_taken = λ earlier before. Contains-append_left taken more (preferred_slot size preference earlier) (rest.passed_taken earlier before);
}

-- a list in which each preference list is left whole
IsRestOf-whole : (size : ℕ) (preference : Preference) → IsPreference size preference → IsRestOf size preference [] preference
IsRestOf-whole size preference fits =
    let sums : preference.offset + 0 * preference.skip ≡ preference.offset = omega arith in
    record {
      passed = 0;
      same_number = refl;
      same_skip = refl;
      begins = sym (ap (λ z. z % size) sums ∙ mod-eq_of_lt fits.offset_below);
      passed_taken = λ earlier before. absurd (omega arith);
    }

-- before the first turn
pub AreTurnsTaken-start : (size free : ℕ) (backends : List Preference) (table : List ℕ) → length backends ≤ free → All (IsPreference size) backends
    → table ≡ replicate size free → AreTurnsTaken size free backends 0 table backends
AreTurnsTaken-start size free backends table room fits all_free =
    let marked : (slot : ℕ) → slot < size → get_or table slot 0 ≡ free = λ slot below. ap (λ z. get_or z slot 0) all_free ∙ get_or-replicate size slot free 0 below in
    let count_of : (mark : ℕ) → count_by (λ x. eqb x mark) table ≡ size * counts mark free =
    λ mark. ap (count_by (λ x. eqb x mark)) all_free ∙ sum_by-replicate (counts mark) size free in
    record {
      taken = [];
      each_turn = refl;
      first_free = λ turn before. absurd (omega arith);
      within = λ turn before. absurd (omega arith);
      slots = ap length all_free ∙ length-replicate size free;
      owned = λ turn before. absurd (omega arith);
      owned_is_taken = λ slot below owned. absurd (owned (marked slot below));
      places = λ slot below owned. absurd (owned (marked slot below));
      free_left =
          let one : counts free free ≡ 1 = counts-same free free refl in
          let all : size * counts free free ≡ size * 1 = ap (λ z. size * z) one in
          omega (arith, count_of free, all);
      shares = λ place inside.
          let none : counts place free ≡ 0 = counts-other place free (λ same. absurd (omega arith)) in
          let all : size * counts place free ≡ size * 0 = ap (λ z. size * z) none in
          let zeros : size * 0 ≡ 0 = omega arith in
          count_of place ∙ all ∙ zeros ∙ sym (turns_of-zero (length backends) place inside);
      same_length = refl;
      rest = λ place inside. IsRestOf-whole size (preference_at backends place) (fits place no_backend inside);
    }

-- while turns are left, a slot is free
pub some_free : (size free : ℕ) (backends : List Preference) (turns : ℕ) (table : List ℕ) (left : List Preference)
    → AreTurnsTaken size free backends turns table left → turns < size → Contains table free
some_free size free backends turns table left state before =
    let sums : count_by (λ place. eqb place free) table + turns ≡ size = state.free_left in
    Contains-from_count free table (omega arith)

IsFirstFree-same : (size : ℕ) (preference same : Preference) (taken known : List ℕ) (slot same_slot : ℕ) → preference ≡ same → taken ≡ known → slot ≡ same_slot
    → IsFirstFree size preference taken slot → IsFirstFree size same known same_slot
IsFirstFree-same size preference same taken known slot same_slot p t s first =
    subst (λ z. IsFirstFree size z known same_slot) p
    (subst (λ z. IsFirstFree size preference z same_slot) t (subst (λ z. IsFirstFree size preference taken z) s first))

module _ (size free : ℕ) (backends : List Preference) (turns : ℕ) (table : List ℕ) (left : List Preference)
    (state : AreTurnsTaken size free backends turns table left) (room : length backends ≤ free) (before : turns < size)
    (place : ℕ) (is_place : place ≡ turns % length backends) (inside : place < length backends)
    (slot : ℕ) (marked : IsFirstMarked size (preference_at left place) table free slot) (slot_below : slot < size) where
  -- the slots taken, with this turn's
  now_taken : List ℕ
  now_taken = state.taken ++ slot ∷ []

  the_rest : IsRestOf size (preference_at backends place) state.taken (preference_at left place)
  the_rest = state.rest place inside

  -- a slot with a place for an owner is not free
  not_free : (turn : ℕ) → turn < turns → get_or table (get_or state.taken turn 0) 0 ≢ free
  not_free turn earlier is_free =
      let owner : get_or table (get_or state.taken turn 0) 0 ≡ turn % length backends = state.owned turn earlier in
      let below : turn % length backends < length backends = mod-lt turn (omega arith) in
      absurd (omega (arith, owner, below, is_free))

  other_slot : (turn : ℕ) → turn < turns → get_or state.taken turn 0 ≢ slot
  other_slot turn earlier same = not_free turn earlier (ap (λ z. get_or table z 0) same ∙ marked.is_free)

  not_taken : ¬ Contains state.taken slot
  not_taken found =
      let each : length state.taken ≡ turns = state.each_turn in
      other_slot found.0 (omega (arith, found.1)) (get_or_default state.taken found.0 0 slot found.1 ∙ found.2)

  passed_over : (earlier : ℕ) → earlier < the_rest.passed + marked.choice → Contains state.taken (preferred_slot size (preference_at backends place) earlier)
  passed_over earlier sooner =
      ⊎_elim
      (λ long_ago. the_rest.passed_taken earlier long_ago)
      (λ just_now.
      let since : ℕ = earlier - the_rest.passed in
      let sums : the_rest.passed + since ≡ earlier = omega arith in
      let same : preferred_slot size (preference_at left place) since ≡ preferred_slot size (preference_at backends place) earlier =
      preferred_slot-rest size (preference_at backends place) state.taken (preference_at left place) the_rest since ∙ ap (preferred_slot size (preference_at backends place)) sums in
      let found = state.owned_is_taken (preferred_slot size (preference_at left place) since)
      (mod-lt ((preference_at left place).offset + since * (preference_at left place).skip) (omega arith))
      (marked.earlier_owned since (omega arith)) in
      subst (Contains state.taken) same found)
      (cases_lt earlier the_rest.passed)

  preferred_now : slot ≡ preferred_slot size (preference_at backends place) (the_rest.passed + marked.choice)
  preferred_now = marked.preferred ∙ preferred_slot-rest size (preference_at backends place) state.taken (preference_at left place) the_rest marked.choice

  this_turn : IsFirstFree size (preference_at backends place) state.taken slot
  this_turn = record { choice = the_rest.passed + marked.choice; preferred = preferred_now; free = not_taken; earlier_taken = passed_over }

  taken_long : length state.taken ≡ turns
  taken_long = state.each_turn

  earlier_slot : (turn : ℕ) → turn < turns → get_or state.taken turn 0 ≡ get_or now_taken turn 0
  unfolding now_taken
  earlier_slot turn earlier = sym (get_or_append_left state.taken (slot ∷ []) 0 turn (omega (arith, taken_long)))

  this_slot : slot ≡ get_or now_taken turns 0
  unfolding now_taken
  this_slot = sym (get_or_push state.taken slot 0 turns taken_long)

  earlier_slots : (turn : ℕ) → turn < turns → take turn state.taken ≡ take turn now_taken
  unfolding now_taken
  earlier_slots turn earlier = sym (take-append-le turn state.taken (slot ∷ []) (omega (arith, taken_long)))

  all_slots : state.taken ≡ take turns now_taken
  unfolding now_taken
  all_slots = sym (take-append-le turns state.taken (slot ∷ []) (omega (arith, taken_long)) ∙ take_all turns state.taken (omega (arith, taken_long)))

  next_first_free : (turn : ℕ) → turn < turns + 1 → IsFirstFree size (backend_of_turn backends turn) (take turn now_taken) (get_or now_taken turn 0)
  next_first_free turn sooner =
      ⊎_elim
      (λ here.
      let same_backend : preference_at backends place ≡ backend_of_turn backends turn = ap (preference_at backends) (is_place ∙ ap (λ z. z % length backends) (sym here)) in
      IsFirstFree-same size (preference_at backends place) (backend_of_turn backends turn) state.taken (take turn now_taken) slot (get_or now_taken turn 0)
      same_backend (all_slots ∙ ap (λ z. take z now_taken) (sym here)) (this_slot ∙ ap (λ z. get_or now_taken z 0) (sym here)) this_turn)
      (λ elsewhere.
      let earlier : turn < turns = omega arith in
      IsFirstFree-same size (backend_of_turn backends turn) (backend_of_turn backends turn) (take turn state.taken) (take turn now_taken)
      (get_or state.taken turn 0) (get_or now_taken turn 0)
      refl (earlier_slots turn earlier) (earlier_slot turn earlier) (state.first_free turn earlier))
      (cases_eq turn turns)

  next_within : (turn : ℕ) → turn < turns + 1 → get_or now_taken turn 0 < size
  next_within turn sooner =
      ⊎_elim
      (λ here. subst (λ z. z < size) (this_slot ∙ ap (λ z. get_or now_taken z 0) (sym here)) slot_below)
      (λ elsewhere. let earlier : turn < turns = omega arith in subst (λ z. z < size) (earlier_slot turn earlier) (state.within turn earlier))
      (cases_eq turn turns)

  slot_in : slot < length table
  slot_in = let whole : length table ≡ size = state.slots in omega (arith, whole)

  next_owned : (turn : ℕ) → turn < turns + 1 → get_or (set table slot place) (get_or now_taken turn 0) 0 ≡ turn % length backends
  next_owned turn sooner =
      ⊎_elim
      (λ here.
      ap (λ z. get_or (set table slot place) z 0) (sym (this_slot ∙ ap (λ z. get_or now_taken z 0) (sym here)))
      ∙ get_or-set_same table slot place 0 slot_in ∙ is_place ∙ ap (λ z. z % length backends) (sym here))
      (λ elsewhere.
      let earlier : turn < turns = omega arith in
      ap (λ z. get_or (set table slot place) z 0) (sym (earlier_slot turn earlier))
      ∙ get_or-set_other table slot (get_or state.taken turn 0) place 0 (other_slot turn earlier) ∙ state.owned turn earlier)
      (cases_eq turn turns)

  next_owned_is_taken : (s : ℕ) → s < size → get_or (set table slot place) s 0 ≢ free → Contains now_taken s
  unfolding now_taken
  next_owned_is_taken s below owned =
      ⊎_elim
      (λ here. subst (Contains now_taken) (sym here) (Contains-push state.taken slot))
      (λ elsewhere.
      let same : get_or (set table slot place) s 0 ≡ get_or table s 0 = get_or-set_other table slot s place 0 elsewhere in
      Contains-append_left state.taken (slot ∷ []) s (state.owned_is_taken s below (subst (λ z. z ≢ free) same owned)))
      (cases_eq s slot)

  next_places : (s : ℕ) → s < size → get_or (set table slot place) s 0 ≢ free → get_or (set table slot place) s 0 < length backends
  next_places s below owned =
      ⊎_elim
      (λ here.
      let same : get_or (set table slot place) s 0 ≡ place = ap (λ z. get_or (set table slot place) z 0) here ∙ get_or-set_same table slot place 0 slot_in in
      rw same inside)
      (λ elsewhere.
      let same : get_or (set table slot place) s 0 ≡ get_or table s 0 = get_or-set_other table slot s place 0 elsewhere in
      subst (λ z. z < length backends) (sym same) (state.places s below (subst (λ z. z ≢ free) same owned)))
      (cases_eq s slot)

  next_free_left : count_by (λ x. eqb x free) (set table slot place) + (turns + 1) ≡ size
  next_free_left =
      let moved : count_by (λ x. eqb x free) (set table slot place) + counts free free ≡ count_by (λ x. eqb x free) table + counts free place =
      count_by-set free table slot place free slot_in marked.is_free in
      let one : counts free free ≡ 1 = counts-same free free refl in
      let none : counts free place ≡ 0 = counts-other free place (λ same. absurd (omega arith)) in
      let sums : count_by (λ x. eqb x free) table + turns ≡ size = state.free_left in
      omega (arith, moved, one, none, sums)

  next_shares : (p : ℕ) → p < length backends → count_by (λ x. eqb x p) (set table slot place) ≡ turns_of (length backends) p (turns + 1)
  next_shares p p_inside =
      let moved : count_by (λ x. eqb x p) (set table slot place) + counts p free ≡ count_by (λ x. eqb x p) table + counts p place =
      count_by-set p table slot place free slot_in marked.is_free in
      let none : counts p free ≡ 0 = counts-other p free (λ same. absurd (omega arith)) in
      let so_far : count_by (λ x. eqb x p) table ≡ turns_of (length backends) p turns = state.shares p p_inside in
      let more : turns_of (length backends) p (turns + 1) ≡ turns_of (length backends) p turns + counts p place =
      turns_of-more (length backends) p turns p_inside ∙ ap (λ z. turns_of (length backends) p turns + counts p z) (sym is_place) in
      omega (arith, moved, none, so_far, more)

  -- what is left of this turn's preferences: those from the slot that it took on
  now_left : Preference → Preference
  now_left preference = record { number = preference.number; offset = slot; skip = preference.skip }

  next_rest_here : IsRestOf size (preference_at backends place) now_taken (now_left (preference_at left place))
  unfolding now_left now_taken
  next_rest_here = record {
    passed = the_rest.passed + marked.choice;
    same_number = the_rest.same_number;
    same_skip = the_rest.same_skip;
    begins = preferred_now;
    passed_taken = λ earlier sooner. Contains-append_left state.taken (slot ∷ []) (preferred_slot size (preference_at backends place) earlier) (passed_over earlier sooner);
  }

  next_rest : (p : ℕ) → p < length backends → IsRestOf size (preference_at backends p) now_taken (preference_at (set left place (now_left (preference_at left place))) p)
  unfolding now_taken
  next_rest p p_inside =
      let same_length : length left ≡ length backends = state.same_length in
      ⊎_elim
      (λ here.
      let written : now_left (preference_at left place) ≡ preference_at (set left place (now_left (preference_at left place))) place =
      sym (get_or-set_same left place (now_left (preference_at left place)) no_backend (omega (arith, same_length))) in
      subst (λ q. IsRestOf size (preference_at backends q) now_taken (preference_at (set left place (now_left (preference_at left place))) q)) (sym here)
      (subst (IsRestOf size (preference_at backends place) now_taken) written next_rest_here))
      (λ elsewhere.
      let kept : preference_at left p ≡ preference_at (set left place (now_left (preference_at left place))) p =
      sym (get_or-set_other left place p (now_left (preference_at left place)) no_backend elsewhere) in
      subst (IsRestOf size (preference_at backends p) now_taken) kept
      (IsRestOf-more size (preference_at backends p) state.taken (slot ∷ []) (preference_at left p) (state.rest p p_inside)))
      (cases_eq p place)

  pub AreTurnsTaken-next : AreTurnsTaken size free backends (turns + 1) (set table slot place)
      (set left place (record { number = (preference_at left place).number; offset = slot; skip = (preference_at left place).skip }))
  unfolding now_taken now_left
  AreTurnsTaken-next = record {
    taken = now_taken;
    each_turn = length_push state.taken slot ∙ ap (λ z. z + 1) taken_long;
    first_free = next_first_free;
    within = next_within;
    slots = length-set table slot place ∙ state.slots;
    owned = next_owned;
    owned_is_taken = next_owned_is_taken;
    places = next_places;
    free_left = next_free_left;
    shares = next_shares;
    same_length = length-set left place (now_left (preference_at left place)) ∙ state.same_length;
    rest = next_rest;
  }

module _ (size free : ℕ) (backends : List Preference) (turns : ℕ) (table : List ℕ) (left : List Preference)
    (state : AreTurnsTaken size free backends turns table left) (some : 0 < length backends)
    (count : ℕ) (is_count : count ≡ length backends) (preference : Preference) (read : preference ≡ get_or left (turns % count) preference) where
  inside : turns % count < length backends
  inside = rw is_count (mod-lt turns some)

  is_left : preference ≡ preference_at left (turns % count)
  is_left =
      let same_length : length left ≡ length backends = state.same_length in
      let within : turns % count < length left = omega (arith, inside, same_length) in
      get_or_read left (turns % count) preference within read no_backend

  -- the preferences that the code reads are a preference list
  pub read_fits : All (IsPreference size) backends → IsPreference size preference
  read_fits fits =
      subst (IsPreference size) (sym is_left)
      (IsPreference-rest size (preference_at backends (turns % count)) state.taken (preference_at left (turns % count)) (state.rest (turns % count) inside)
      (fits (turns % count) no_backend inside))

  -- one turn, as the code takes it
  pub turn_taken : (slot : ℕ) → length backends ≤ free → turns < size → IsFirstMarked size preference table free slot → slot < size
      → AreTurnsTaken size free backends (turns + 1) (set table slot (turns % count))
      (set left (turns % count) (record { number = preference.number; offset = slot; skip = preference.skip }))
  turn_taken slot room before marked slot_below =
      let place_is : turns % count ≡ turns % length backends = ap (λ z. turns % z) is_count in
      subst (λ p. AreTurnsTaken size free backends (turns + 1) (set table slot (turns % count)) (set left (turns % count) (record { number = p.number; offset = slot; skip = p.skip })))
      (sym is_left)
      (AreTurnsTaken-next size free backends turns table left state room before (turns % count) place_is inside slot
      (subst (λ p. IsFirstMarked size p table free slot) is_left marked) slot_below)
