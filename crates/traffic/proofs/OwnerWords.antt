-- What the updates of a command make of the words of the lookup table: each slot's word is its owner's number and one, or 0.
use Rattle.std.proofs.Common.{◌≡◌, ◌≢◌, ⊎_elim, ℕ, zero, suc, ◌^◌, ◌<◌, ◌≤◌, ◌==◌, Bool, true, false, List, [], ◌∷◌, ◌++◌, length, set, refl, sym, ◌∙◌, ap, subst, arith}
use Rattle.std.specs.Prelude.{Option, Some, None, if◌then◌else◌, nat_lt, slice_get}
use Rattle.std.specs.List.{find}
use Rattle.std.proofs.lemmas.Bool.{cases_eq, eqb-true, lt-ltb}
use Rattle.std.proofs.lemmas.List.{get_or-set_other, get_or-set_same, length-set}
use Rattle.std.proofs.lemmas.Option.{unwrap_or-slice_get}
use Rattle.semantics.specs.LittleEndian.{bytes_of_number}
use Rattle.maglev.specs.declared.backend.Backend.{Backend as Server}
use Rattle.conntrack.specs.Layouts.{owner_word, padded_word}
use Rattle.conntrack.specs.SteeringMaps.{map_place}
use Rattle.conntrack.specs.declared.steering_maps.SteeringMap.TheVariants.{Ring}
use Rattle.control.specs.declared.command.Action.{Action}
use Rattle.control.specs.declared.command.Action.TheVariants as actions
use Rattle.control.specs.declared.ring_changes.Slot.{Slot}
use Rattle.control.specs.declared.update.Update.{Update as Change}
use Rattle.control.specs.Controlling.{down_update, first_updates, has_number}
use Rattle.control.specs.MapUpdates.{AreMade, UpdateBytes, map_update}
use Rattle.control.specs.RingChanges.{changes_below, is_same_owner, slot_change, slot_update, slot_updates}
use Rattle.traffic.specs.Shares.{share_at}
use Rattle.traffic.specs.WrittenMaps.{MapsState, IsUpdateAnswered, front_word, with_item_at}

-- ---- a word in its place

put_here : (words : List ℕ) (place word : ℕ) → place < length words → share_at (with_item_at words place word) place ≡ word
put_here words place word within =
    ap (λ (test : Bool). share_at (if test then set words place word else words) place) (lt-ltb place (length words) within)
    ∙ unwrap_or-slice_get (set words place word) place 0
    ∙ get_or-set_same words place word 0 within

put_elsewhere : (words : List ℕ) (place word slot : ℕ) → slot ≢ place → share_at (with_item_at words place word) slot ≡ share_at words slot
put_elsewhere words place word slot other = by (nat_lt place (length words))
  where
    by : (test : Bool) → share_at (if test then set words place word else words) slot ≡ share_at words slot
    by true =
        unwrap_or-slice_get (set words place word) slot 0 ∙ get_or-set_other words place slot word 0 other ∙ sym (unwrap_or-slice_get words slot 0)
    by false = refl

as_many_put : (words : List ℕ) (place word : ℕ) → length (with_item_at words place word) ≡ length words
as_many_put words place word = by (nat_lt place (length words))
  where
    by : (test : Bool) → length (if test then set words place word else words) ≡ length words
    by true = length-set words place word
    by false = refl

-- ---- the words behind updates

abbrev pub with_update : List ℕ → UpdateBytes → List ℕ
with_update words update = if update.map == map_place Ring then with_item_at words (front_word update.key) (front_word update.value) else words

abbrev pub words_by : List ℕ → List Change → List ℕ
words_by words [] = words
words_by words (change ∷ later) = words_by (with_update words (map_update change)) later

words_both : (words : List ℕ) (changes more : List Change) → words_by words (changes ++ more) ≡ words_by (words_by words changes) more
words_both words [] more = refl
words_both words (change ∷ changes) more = words_both (with_update words (map_update change)) changes more

made_words : (before : MapsState) (changes : List Change) (after : MapsState) → AreMade IsUpdateAnswered before changes after →
    (after.size ≡ before.size) × (after.words ≡ words_by before.words changes)
made_words before [] after made = (ap (λ (m : MapsState). m.size) (sym made), ap (λ (m : MapsState). m.words) (sym made))
made_words before (change ∷ later) after made =
    let rest = made_words made.0 later after made.2 in (
      rest.0 ∙ ap (λ (m : MapsState). m.size) made.1.state_is,
      rest.1 ∙ ap (λ (m : MapsState). words_by m.words later) made.1.state_is,
    )

-- what a command puts into a map first is in no slot
pub firsts_aside : (words : List ℕ) (up : List Server) (action : Action) → words_by words (first_updates up action) ≡ words
firsts_aside words up (actions.Vip service is_notrack) = refl
firsts_aside words up (actions.Up number address) = refl
firsts_aside words up (actions.Down number) = by (find (has_number number) up)
  where
    by : (found : Option Server) → words_by words (down_update found) ≡ words
    by None = refl
    by (Some server) = refl
firsts_aside words up (actions.Gateway source source_mac destination_mac) = refl

-- ---- slots

slots_both : (slots more : List Slot) → slot_updates (slots ++ more) ≡ slot_updates slots ++ slot_updates more
slots_both [] more = refl
slots_both (slot ∷ slots) more = ap (λ (l : List Change). slot_update slot ∷ l) (slots_both slots more)

same_owner : (one other : Option ℕ) → is_same_owner one other ≡ true → one ≡ other
same_owner None None is = refl
same_owner (Some owner) (Some other) is = ap Some (eqb-true owner other is)
same_owner None (Some other) is = absurd cc
same_owner (Some owner) None is = absurd cc

place_back : (place : ℕ) → place < 2 ^ 32 → front_word (bytes_of_number 4 place) ≡ place
place_back place small = omega (arith, small)

word_back : (word : ℕ) → word < 2 ^ 32 → front_word (padded_word word) ≡ word
word_back word small = omega (arith, small)

module _ (size : ℕ) (words old new : List ℕ) (small : size < 65538) (many : length words ≡ size)
    (few : (slot : ℕ) → slot < size → owner_word (slice_get new slot) < 2 ^ 32)
    (owned : (slot : ℕ) → slot < size → share_at words slot ≡ owner_word (slice_get old slot)) where
  abbrev put : ℕ → List ℕ
  put count = words_by words (slot_updates (changes_below old new count))

  record IsPut (count : ℕ) (now : List ℕ) : Type 0 where
    as_many : length now ≡ size
    done : (slot : ℕ) → slot < count → share_at now slot ≡ owner_word (slice_get new slot)
    left : (slot : ℕ) → count ≤ slot → slot < size → share_at now slot ≡ owner_word (slice_get old slot)

  -- a slot whose owner stays
  same_put : (place : ℕ) (now : List ℕ) → place < size → slice_get old place ≡ slice_get new place → IsPut place now → IsPut (suc place) now
  same_put place now within same is = record {
    as_many = is.as_many;
    done = λ slot below. ⊎_elim (λ here. is.left slot (omega (arith, here)) (omega (arith, here, within)) ∙ ap owner_word (subst (λ n. slice_get old n ≡ slice_get new n) (sym here) same))
        (λ other. is.done slot (omega (arith, below, other))) (cases_eq slot place);
    left = λ slot past inside. is.left slot (omega (arith, past)) inside;
  }

  -- and one that changes hands
  other_put : (place : ℕ) (now : List ℕ) → place < size → IsPut place now → IsPut (suc place) (with_item_at now place (owner_word (slice_get new place)))
  other_put place now within is =
      let word : ℕ = owner_word (slice_get new place) in
      let all = is.as_many in record {
        as_many = as_many_put now place word ∙ is.as_many;
        done = λ slot below. ⊎_elim
            (λ here. ap (share_at (with_item_at now place word)) here ∙ put_here now place word (omega (arith, all, within)) ∙ ap (λ n. owner_word (slice_get new n)) (sym here))
            (λ other. put_elsewhere now place word slot other ∙ is.done slot (omega (arith, below, other))) (cases_eq slot place);
        left = λ slot past inside. put_elsewhere now place word slot (λ here. absurd (omega (arith, past, here))) ∙ is.left slot (omega (arith, past)) inside;
      }

  one_put : (place : ℕ) (now : List ℕ) → place < size → IsPut place now → IsPut (suc place) (words_by now (slot_updates (slot_change old new place)))
  one_put place now within is = by (is_same_owner (slice_get old place) (slice_get new place)) refl
    where
      by : (same : Bool) → is_same_owner (slice_get old place) (slice_get new place) ≡ same →
          IsPut (suc place) (words_by now (slot_updates (if same then [] else (record { place = place; owner = slice_get new place } ∷ []))))
      by true same = same_put place now within (same_owner (slice_get old place) (slice_get new place) same) is
      by false same =
          let word : ℕ = owner_word (slice_get new place) in
          let put_is : with_item_at now (front_word (bytes_of_number 4 place)) (front_word (padded_word word)) ≡ with_item_at now place word =
          ap (λ (n : ℕ). with_item_at now n (front_word (padded_word word))) (place_back place (omega (arith, small, within)))
          ∙ ap (with_item_at now place) (word_back word (few place within)) in
          subst (IsPut (suc place)) (sym put_is) (other_put place now within is)

  all_put : (count : ℕ) → count ≤ size → IsPut count (put count)
  all_put zero within = record { as_many = many; done = λ slot below. absurd (omega (arith, below)); left = λ slot past inside. owned slot inside }
  all_put (suc count) within =
      subst (IsPut (suc count))
      (sym (ap (words_by words) (slots_both (changes_below old new count) (slot_change old new count))
      ∙ words_both words (slot_updates (changes_below old new count)) (slot_updates (slot_change old new count))))
      (one_put count (put count) (omega (arith, within)) (all_put count (omega (arith, within))))

  pub as_many_words : length (put size) ≡ size
  as_many_words = (all_put size (omega arith)).as_many

  pub owned_then : (slot : ℕ) → slot < size → share_at (put size) slot ≡ owner_word (slice_get new slot)
  owned_then slot within = (all_put size (omega arith)).done slot within

-- the words behind a command's updates, the first ones and those of the slots
pub words_then : (before after : MapsState) (up : List Server) (action : Action) (slots : List Slot) →
    AreMade IsUpdateAnswered before (first_updates up action ++ slot_updates slots) after →
    (after.size ≡ before.size) × (after.words ≡ words_by before.words (slot_updates slots))
words_then before after up action slots made =
    let all = made_words before (first_updates up action ++ slot_updates slots) after made in (
      all.0,
      all.1 ∙ words_both before.words (first_updates up action) (slot_updates slots)
          ∙ ap (λ (w : List ℕ). words_by w (slot_updates slots)) (firsts_aside before.words up action),
    )
