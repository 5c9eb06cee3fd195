-- Whose the slots of a lookup table are, and how many of them change hands when a backend goes down.
use Rattle.std.proofs.Common.{◌≡◌, ◌≢◌, ◌⊎◌, inl, inr, ⊎_elim, ℕ, zero, suc, ◌+◌, ◌%◌, ◌<◌, ◌≤◌, ◌==◌, ◌&&◌, not, Bool, true, false, List, [], ◌∷◌, length, get_or, take, refl, sym, ◌∙◌, ap, subst, arith}
use Rattle.std.specs.Prelude.{Option, Some, None, slice_get, slice_set, slice_index, slice_index_or, if◌then◌else◌}
use Rattle.std.specs.List.{AllByRecursion}
use Rattle.std.proofs.Math.Nat.{mod-lt}
use Rattle.std.proofs.lemmas.Bool.{cases_eq, eqb-true, eqb-false}
use Rattle.std.proofs.lemmas.Bool.Decides.{nat_tests}
use Rattle.std.proofs.lemmas.List.{length-set, take_all}
use Rattle.std.proofs.lemmas.Option.{slice_get-get_or}
use Rattle.maglev.specs.declared.backend.Backend.{Backend as Server}
use Rattle.maglev.specs.declared.preference.Preference.{Preference}
use Rattle.maglev.specs.Hashing.{hashed_preferences}
use Rattle.maglev.specs.Population.{IsPopulation, IsOnlyPopulation, backend_of_turn, no_backend, share_of}
use Rattle.conntrack.specs.Layouts.{owner_word}
use Rattle.control.specs.Controlling.{IsTable, has_number, without_backend}
use Rattle.traffic.specs.Shares.{moved_below, share_at}
use Rattle.traffic.specs.Leaving.{leaves_another, left_below}
use Rattle.traffic.proofs.ShareLemmas.{ones, share_more}

-- ---- each slot is taken: else its owner could be another, and the population would not be the only one

get_set_other : (xs : List ℕ) (i j x : ℕ) → i ≢ j → slice_get (slice_set xs j x) i ≡ slice_get xs i
get_set_other [] i j x other = refl
get_set_other (y ∷ xs) zero zero x other = absurd (other refl)
get_set_other (y ∷ xs) zero (suc j) x other = refl
get_set_other (y ∷ xs) (suc i) zero x other = refl
get_set_other (y ∷ xs) (suc i) (suc j) x other = get_set_other xs i j x (λ same. other (ap suc same))

get_set_same : (xs : List ℕ) (j x : ℕ) → j < length xs → slice_get (slice_set xs j x) j ≡ Some x
get_set_same [] j x within = absurd (omega (arith, within))
get_set_same (y ∷ xs) zero x within = refl
get_set_same (y ∷ xs) (suc j) x within = get_set_same xs j x (omega (arith, within))

-- one of so many turns took the slot, or none
abbrev TurnOf : List ℕ → ℕ → ℕ → Type 0
TurnOf taken slot turns = (turn : ℕ) × (turn < turns) × (slice_index taken turn ≡ slot)

abbrev NoTurnOf : List ℕ → ℕ → ℕ → Type 0
NoTurnOf taken slot turns = (turn : ℕ) → turn < turns → slice_index taken turn ≢ slot

turn_or_none : (taken : List ℕ) (slot turns : ℕ) → TurnOf taken slot turns ⊎ NoTurnOf taken slot turns
turn_or_none taken slot zero = inr (λ turn below. absurd (omega (arith, below)))
turn_or_none taken slot (suc turns) =
    ⊎_elim
    (λ found. inl (found.0, (let below = found.1 in omega (arith, below)), found.2))
    (λ none. ⊎_elim (λ here. inl (turns, omega arith, here))
    (λ other. inr (λ turn below. ⊎_elim (λ last. subst (λ n. slice_index taken n ≢ slot) (sym last) other)
    (λ before. none turn (omega (arith, below, before))) (cases_eq turn turns)))
    (cases_eq (slice_index taken turns) slot))
    (turn_or_none taken slot turns)

module _ (size : ℕ) (backends : List Preference) (owners : List ℕ) (populated : IsPopulation size backends owners) (only : IsOnlyPopulation size backends owners) where
  none_is_free : (slot : ℕ) → slot < size → NoTurnOf populated.taken slot size → ⊥
  none_is_free slot within free =
      let slots = populated.slots in
      let inside : slot < length owners = omega (arith, slots, within) in
      let old : ℕ = get_or owners slot 0 in
      let others : List ℕ = slice_set owners slot (old + 1) in
      let also : IsPopulation size backends others = record {
        taken = populated.taken;
        turns = populated.turns;
        slots = length-set owners slot (old + 1) ∙ populated.slots;
        first_free = populated.first_free;
        owned = λ turn below. get_set_other owners (slice_index populated.taken turn) slot (old + 1) (free turn below) ∙ populated.owned turn below;
      } in
      let changed : Some (old + 1) ≡ Some old =
      sym (get_set_same owners slot (old + 1) inside) ∙ ap (λ (l : List ℕ). slice_get l slot) (only others also) ∙ slice_get-get_or owners slot 0 inside in
      let next : old + 1 ≡ old = cc changed in
      absurd (omega (arith, next))

  owner_of_turn : (slot : ℕ) → slot < size → (turn : ℕ) × (slice_get owners slot ≡ Some (backend_of_turn backends turn).number)
  owner_of_turn slot within =
      ⊎_elim (λ took. (took.0, ap (slice_get owners) (sym took.2) ∙ populated.owned took.0 took.1)) (λ none. absurd (none_is_free slot within none))
      (turn_or_none populated.taken slot size)

-- ---- so what holds of the numbers of the backends holds of the owners

number_has : (P : ℕ → Type 0) (size : ℕ) (up : List Server) → AllByRecursion (λ (server : Server). P server.number) up → (place : ℕ) →
    place < length (hashed_preferences size up) → P (slice_index_or (hashed_preferences size up) place no_backend).number
number_has P size [] all place within = absurd (omega (arith, within))
number_has P size (server ∷ up) all zero within = all.0
number_has P size (server ∷ up) all (suc place) within = number_has P size up all.1 place (omega (arith, within))

pub owner_has : (P : ℕ → Type 0) (size : ℕ) (up : List Server) (owners : List ℕ) → IsTable size up owners → AllByRecursion (λ (server : Server). P server.number) up →
    (slot : ℕ) → slot < size → (number : ℕ) → slice_get owners slot ≡ Some number → P number
owner_has P size [] owners table all slot within number is =
    absurd (let none : None ≡ Some number = sym (ap (λ (l : List ℕ). slice_get l slot) table) ∙ is in cc)
owner_has P size (server ∷ up) owners table all slot within number is =
    let backends : List Preference = hashed_preferences size (server ∷ up) in
    let turn = owner_of_turn size backends owners table.0 table.1 slot within in
    let same : Some (backend_of_turn backends turn.0).number ≡ Some number = sym turn.1 ∙ is in
    let number_is : (backend_of_turn backends turn.0).number ≡ number = cc same in
    subst P number_is (number_has P size (server ∷ up) all (turn.0 % length backends) (mod-lt turn.0 (omega arith)))

-- none that is left has the number of the one that is gone
all_left : (up : List Server) (gone : ℕ) → AllByRecursion (λ (server : Server). server.number ≢ gone) (without_backend up gone)
all_left [] gone = tt
all_left (one ∷ up) gone = by (all_left up gone) (has_number gone one) refl
  where
    by : AllByRecursion (λ (server : Server). server.number ≢ gone) (without_backend up gone) → (away : Bool) → has_number gone one ≡ away →
        AllByRecursion (λ (server : Server). server.number ≢ gone) (if not away then one ∷ without_backend up gone else without_backend up gone)
    by rest true is = rest
    by rest false is = (eqb-false one.number gone is, rest)

-- ---- slots that change hands

same_words : (owner other : ℕ) → (owner + 1 == other + 1) ≡ (owner == other)
same_words owner other = grind (arith, nat_tests)

some_word : (owner : ℕ) → (owner + 1 == 0) ≡ false
some_word owner = grind (arith, nat_tests)

-- an own slot changes hands, and one of another backend if it leaves that one
one_slot : (number owner : ℕ) (later : Option ℕ) → later ≢ Some number →
    (if owner_word (Some owner) == owner_word later then 0 else 1) ≡ ones number owner + (if leaves_another number (Some owner) later then 1 else 0)
one_slot number owner None gone = ap (λ (t : Bool). if t then 0 else 1) (some_word owner) ∙ by (owner == number)
  where
    by : (own : Bool) → 1 ≡ (if own then 1 else 0) + (if not own && true then 1 else 0)
    by true = refl
    by false = refl
one_slot number owner (Some other) gone =
    ap (λ (t : Bool). if t then 0 else 1) (same_words owner other)
    ∙ by (owner == number) (owner == other) refl refl
  where
    by : (own stays : Bool) → (owner == number) ≡ own → (owner == other) ≡ stays →
        (if stays then 0 else 1) ≡ (if own then 1 else 0) + (if not own && not stays then 1 else 0)
    by true true own stays = absurd (gone (ap Some (sym (eqb-true owner other stays) ∙ eqb-true owner number own)))
    by true false own stays = refl
    by false true own stays = refl
    by false false own stays = refl

module _ (size number : ℕ) (owners later words words' : List ℕ) (slots : length owners ≡ size)
    (gone : (slot : ℕ) → slot < size → slice_get later slot ≢ Some number)
    (before : (slot : ℕ) → slot < size → share_at words slot ≡ owner_word (slice_get owners slot))
    (behind : (slot : ℕ) → slot < size → share_at words' slot ≡ owner_word (slice_get later slot)) where
  counted_below : (count : ℕ) → count ≤ size → moved_below words words' count ≡ share_of number (take count owners) + left_below number owners later count
  counted_below zero few = refl
  counted_below (suc slot) few =
      let within : slot < size = omega (arith, few) in
      let inside : slot < length owners = omega (arith, slots, within) in
      let owner : slice_get owners slot ≡ Some (get_or owners slot 0) = slice_get-get_or owners slot 0 inside in
      let next : suc slot ≡ slot + 1 = omega arith in
      let left : ℕ = if leaves_another number (slice_get owners slot) (slice_get later slot) then 1 else 0 in
      let here : (if share_at words slot == share_at words' slot then 0 else 1) ≡ ones number (get_or owners slot 0) + left =
      ap (λ (n : ℕ). if n == share_at words' slot then 0 else 1) (before slot within ∙ ap owner_word owner)
      ∙ ap (λ (n : ℕ). if owner_word (Some (get_or owners slot 0)) == n then 0 else 1) (behind slot within)
      ∙ one_slot number (get_or owners slot 0) (slice_get later slot) (gone slot within)
      ∙ ap (λ (o : Option ℕ). ones number (get_or owners slot 0) + (if leaves_another number o (slice_get later slot) then 1 else 0)) (sym owner) in
      let shares : share_of number (take (suc slot) owners) ≡ share_of number (take slot owners) + ones number (get_or owners slot 0) =
      ap (λ (n : ℕ). share_of number (take n owners)) next ∙ share_more number owners slot inside in
      let rest = counted_below slot (omega (arith, few)) in
      omega (arith, here, shares, rest)

-- the slots of the backend that goes down change hands, and those that leave one which stays
pub moved_are : (size number : ℕ) (up : List Server) (owners later words words' : List ℕ) → length owners ≡ size → IsTable size (without_backend up number) later →
    ((slot : ℕ) → slot < size → share_at words slot ≡ owner_word (slice_get owners slot)) →
    ((slot : ℕ) → slot < size → share_at words' slot ≡ owner_word (slice_get later slot)) →
    moved_below words words' size ≡ share_of number owners + left_below number owners later size
moved_are size number up owners later words words' slots table before behind =
    counted_below size number owners later words words' slots
    (λ slot within is. owner_has (λ n. n ≢ number) size (without_backend up number) later table (all_left up number) slot within number is refl)
    before behind size (omega arith)
    ∙ ap (λ (l : List ℕ). share_of number l + left_below number owners later size) (take_all size owners (omega (arith, slots)))
