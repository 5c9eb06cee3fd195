-- Updates made one after the other.
use Rattle.std.proofs.Common.{◌≡◌, ℕ, zero, suc, Bool, true, false, Option, None, add-one, ◌+◌, ◌*◌, ◌/◌, ◌<◌, ◌≤◌, ◌^◌, List, [], ◌∷◌, ◌++◌, length, take, drop, get_or, Some, refl, sym, ap, ◌∙◌, arith, append_assoc, map}
use Rattle.std.specs.Prelude.{ℤ, pos, slice_get, All, IfSome}
use Rattle.std.proofs.lemmas.Bool.Decides.{nat_tests}
use Rattle.std.proofs.lemmas.List.Elements.{All-append, All-cons}
use Rattle.ebpf_decode.specs.declared.map.MapDef.{MapDef}
use Rattle.semantics.specs.LittleEndian.{number_of_bytes, bytes_of_number}
use Rattle.conntrack.specs.SteeringMaps.{AreSteeringMaps}
use Rattle.control.specs.declared.update.Update.{Update}
use Rattle.control.specs.declared.update.Update.TheVariants.{Vip, Ring, Backend, Tunnel}
use Rattle.control.specs.declared.ring_changes.Slot.{Slot}
use Rattle.control.specs.MapUpdates.{UpdateBytes, map_update, StandsInArray, IsInArray, AreMade, AreCutShort}
use Rattle.control.specs.RingChanges.{is_same_owner, slot_change, changes_below, slot_update, slot_updates, IsServedSlot}
use Rattle.control.specs.Controlling.{ControllerState, IsTable, IsCarriedOut, IsStopped}

-- four bytes give back a number of 32 bits
four_back : (n : ℕ) → n < 2 ^ 32 → number_of_bytes (bytes_of_number 4 n) ≡ n
four_back n lt = omega arith

pub in_array : (served : List MapDef) (size : ℕ) (update : Update) → AreSteeringMaps size served → StandsInArray size update → IsInArray served (map_update update)
in_array served size (Vip service vip) is stands = absurd stands
in_array served size (Ring slot ring) is stands = record {
  definition = _;
  known = ap (λ (maps : List MapDef). slice_get maps 2) is.maps_are ∙ refl;
  array = refl;
  index = refl;
  inside = rw (four_back slot (omega (arith, stands.0, stands.1))) (omega (arith, stands.0));
}
in_array served size (Backend number backend) is stands = record {
  definition = _;
  known = ap (λ (maps : List MapDef). slice_get maps 3) is.maps_are ∙ refl;
  array = refl;
  index = refl;
  inside = rw (four_back number (omega (arith, stands))) stands;
}
in_array served size (Tunnel tunnel) is stands = record {
  definition = _;
  known = ap (λ (maps : List MapDef). slice_get maps 4) is.maps_are ∙ refl;
  array = refl;
  index = refl;
  inside = omega arith;
}

-- one more update is made
pub made_more : {P : Type 0} (gives : P → UpdateBytes → ℤ → P → Type 0) (before middle after : P) (updates : List Update) (update : Update) → AreMade gives before updates middle → gives middle (map_update update) (pos 0) after
    → AreMade gives before (updates ++ update ∷ []) after
made_more gives before middle after [] update made one = (after, rw made one, refl)
made_more gives before middle after (first ∷ updates) update made one = (made.0, made.1, made_more gives made.0 middle after updates update made.2 one)

pub made_next : {P : Type 0} (gives : P → UpdateBytes → ℤ → P → Type 0) (before middle after : P) (slots : List Slot) (i : ℕ) (d : Slot) → i < length slots
    → AreMade gives before (slot_updates (take i slots)) middle → gives middle (map_update (slot_update (get_or slots i d))) (pos 0) after → AreMade gives before (slot_updates (take (suc i) slots)) after
made_next gives before middle after [] i d lt made one = absurd (omega arith)
made_next gives before middle after (s ∷ slots) zero d lt made one = (after, rw made one, refl)
made_next gives before middle after (s ∷ slots) (suc i) d lt made one = (made.0, made.1, made_next gives made.0 middle after slots i d (omega arith) made.2 one)

pub made_step : {P : Type 0} (gives : P → UpdateBytes → ℤ → P → Type 0) (before middle after : P) (slots : List Slot) (i : ℕ) (d : Slot) → i < length slots
    → AreMade gives before (slot_updates (take i slots)) middle → gives middle (map_update (slot_update (get_or slots i d))) (pos 0) after → AreMade gives before (slot_updates (take (i + 1) slots)) after
made_step gives before middle after slots i d lt made one = rw (add-one i) (made_next gives before middle after slots i d lt made one)

split_at : (slots : List Slot) (i : ℕ) (d : Slot) → i < length slots → slot_updates slots ≡ slot_updates (take i slots) ++ slot_update (get_or slots i d) ∷ slot_updates (drop (suc i) slots)
split_at [] i d lt = absurd (omega arith)
split_at (s ∷ slots) zero d lt = refl
split_at (s ∷ slots) (suc i) d lt = ap (λ (us : List Update). slot_update s ∷ us) (split_at slots i d (omega arith))

pub cut_in_slots : {P : Type 0} (gives : P → UpdateBytes → ℤ → P → Type 0) (refuses : P → UpdateBytes → P → Type 0) (before middle after : P) (slots : List Slot) (i : ℕ) (d : Slot) → i < length slots
    → AreMade gives before (slot_updates (take i slots)) middle → refuses middle (map_update (slot_update (get_or slots i d))) after → AreCutShort gives refuses before (slot_updates slots) after
cut_in_slots gives refuses before middle after slots i d lt made one = record {
  made = slot_updates (take i slots);
  next = slot_update (get_or slots i d);
  later = slot_updates (drop (suc i) slots);
  middle = middle;
  in_order = split_at slots i d lt;
  are_made = made;
  is_refused = one;
}

pub cut_at_once : {P : Type 0} (gives : P → UpdateBytes → ℤ → P → Type 0) (refuses : P → UpdateBytes → P → Type 0) (before after : P) (first : Update) (updates : List Update) → refuses before (map_update first) after
    → AreCutShort gives refuses before (first ∷ updates) after
cut_at_once gives refuses before after first updates one = record { made = []; next = first; later = updates; middle = before; in_order = refl; are_made = refl; is_refused = one }

pub cut_later : {P : Type 0} (gives : P → UpdateBytes → ℤ → P → Type 0) (refuses : P → UpdateBytes → P → Type 0) (before middle after : P) (first : Update) (updates : List Update) → gives before (map_update first) (pos 0) middle
    → AreCutShort gives refuses middle updates after → AreCutShort gives refuses before (first ∷ updates) after
cut_later gives refuses before middle after first updates one cut = record {
  made = first ∷ cut.made;
  next = cut.next;
  later = cut.later;
  middle = cut.middle;
  in_order = ap (λ (us : List Update). first ∷ us) cut.in_order;
  are_made = (middle, one, cut.are_made);
  is_refused = cut.is_refused;
}

-- ---- slots that change hands

same_as_itself : (owner : Option ℕ) → is_same_owner owner owner ≡ true
same_as_itself None = refl
same_as_itself (Some owner) = grind (arith, nat_tests)

pub no_change : (owners : List ℕ) (count : ℕ) → changes_below owners owners count ≡ []
no_change owners zero = refl
no_change owners (suc place) = rw (no_change owners place, same_as_itself (slice_get owners place)) refl

owner_below : (owners : List ℕ) (place : ℕ) → All (λ owner. owner < 256) owners → IfSome (slice_get owners place) (λ number. number + 1 < 2 ^ 32)
owner_below [] place all = tt
owner_below (owner ∷ owners) zero all = let lt : owner < 256 = all 0 0 (omega arith) in omega (arith, lt)
owner_below (owner ∷ owners) (suc place) all = owner_below owners place (λ k d lt. all (suc k) d (omega arith))

pub served_slots : (size : ℕ) (old new : List ℕ) → size < 65538 → All (λ owner. owner < 256) new → (count : ℕ) → count ≤ size → All (IsServedSlot size) (changes_below old new count)
served_slots size old new few numbers zero le = λ k d lt. absurd (omega arith)
served_slots size old new few numbers (suc place) le =
    All-append (IsServedSlot size) (changes_below old new place) (slot_change old new place) (served_slots size old new few numbers place (omega arith)) (by_test (is_same_owner (slice_get old place) (slice_get new place)) refl) where
      by_test : (t : Bool) → is_same_owner (slice_get old place) (slice_get new place) ≡ t → All (IsServedSlot size) (slot_change old new place)
      by_test true is = rw is (λ k d lt. absurd (omega arith))
      by_test false is = rw is (All-cons (IsServedSlot size) (record { place = place; owner = slice_get new place }) [] (record { inside = omega arith; few = few; owner = owner_below new place numbers }) (λ k d lt. absurd (omega arith)))

-- ---- one update alone

pub done_alone : {P : Type 0} (gives : P → UpdateBytes → ℤ → P → Type 0) (state : ControllerState) (before after : P) (update : Update) → state.is_full ≡ false → IsTable state.size state.up state.owners
    → gives before (map_update update) (pos 0) after → IsCarriedOut gives state before (update ∷ []) state.up state after
done_alone gives state before after update room table one = record {
  owners = state.owners;
  table = table;
  state_is = ap (λ (full : Bool). record { size = state.size; up = state.up; owners = state.owners; is_full = full }) room;
  are_made = rw (no_change state.owners state.size) (after, one, refl);
}

pub stopped_alone : {P : Type 0} (gives : P → UpdateBytes → ℤ → P → Type 0) (refuses : P → UpdateBytes → P → Type 0) (state : ControllerState) (before after : P) (update : Update) (state' : ControllerState)
    → state.is_full ≡ false → IsTable state.size state.up state.owners → state' ≡ record { size = state.size; up = state.up; owners = state.owners; is_full = true } → refuses before (map_update update) after
    → IsStopped gives refuses state before (update ∷ []) state.up state' after
stopped_alone gives refuses state before after update state' room table full one = record {
  not_full = room;
  owners = state.owners;
  table = table;
  state_is = full;
  cut_short = cut_at_once gives refuses before after update (slot_updates (changes_below state.owners state.owners state.size)) one;
}
