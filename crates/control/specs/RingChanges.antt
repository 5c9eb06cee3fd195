-- Which slots of the lookup table change hands.
use Rattle.std.specs.Prelude.{ℕ, zero, suc, ◌==◌, Bool, true, false, List, [], ◌∷◌, ◌++◌, Option, Some, None, IfSome, ◌<◌, ◌+◌, ◌^◌, map}
use Rattle.std.specs.Prelude.{slice_get, if◌then◌else◌}
use Rattle.conntrack.specs.declared.records.RingRecord.{RingRecord}
use Rattle.control.specs.declared.update.Update.{Update}
use Rattle.control.specs.declared.update.Update.TheVariants.{Ring}
use Rattle.control.specs.declared.ring_changes.Slot.{Slot}

abbrev pub is_same_owner : Option ℕ → Option ℕ → Bool
is_same_owner None None = true
is_same_owner (Some owner) (Some other) = owner == other
is_same_owner None (Some other) = false
is_same_owner (Some owner) None = false

-- this slot, where its owner changes; a table without owners has none anywhere
abbrev pub slot_change : List ℕ → List ℕ → ℕ → List Slot
slot_change old new place =
    if is_same_owner (slice_get old place) (slice_get new place) then [] else (record { place = place; owner = slice_get new place } ∷ [])

-- the slots below this one whose owner changes, rising, each with its owner in the second table
abbrev pub changes_below : List ℕ → List ℕ → ℕ → List Slot
changes_below old new zero = []
changes_below old new (suc place) = changes_below old new place ++ slot_change old new place

abbrev pub slot_list : Option Slot → List Slot
slot_list None = []
slot_list (Some slot) = slot ∷ []

-- a slot of a table of this size, with an owner's number that can be kept as one more
pub record IsServedSlot (size : ℕ) (slot : Slot) : Type 0 where
  pub inside : slot.place < size
  pub few : size < 65538
  pub owner : IfSome slot.owner (λ number. number + 1 < 2 ^ 32)

-- the update that a slot's change asks
abbrev pub slot_update : Slot → Update
slot_update slot = Ring slot.place (record { owner = slot.owner })

abbrev pub slot_updates : List Slot → List Update
slot_updates slots = map slot_update slots
