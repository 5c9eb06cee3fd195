-- The search for the first free slot of a preference list.
use Rattle.std.proofs.Common.{◌≡◌, ◌≢◌, ℕ, ◌+◌, ◌*◌, ◌%◌, ◌<◌, ◌≤◌, List, length, get_or, ⊎_elim, sym, ap, ◌∙◌, subst, arith}
use Rattle.std.specs.Prelude.{Contains}
use Rattle.std.proofs.Math.Nat.{mod-lt, mod-add-mod, mod-eq_of_lt}
use Rattle.std.proofs.lemmas.Bool.{cases_eq}
use Rattle.std.proofs.lemmas.List.{get_or_default}
use Rattle.maglev.specs.declared.preference.Preference.{Preference}
use Rattle.maglev.specs.RingSize.{IsRingSize}
use Rattle.maglev.specs.Population.{preferred_slot, IsPreference}
use Rattle.maglev.specs.Turns.{IsFirstMarked}
use Rattle.maglev.proofs.Preferences.{IsPermutationOfSlots-from_prime}

-- the slot is the one preferred in this place, and all before it have owners
pub record IsReached (size : ℕ) (preference : Preference) (table : List ℕ) (free choice slot : ℕ) : Type 0 where
  pub preferred : slot ≡ preferred_slot size preference choice
  pub within : slot < size
  pub earlier_owned : (earlier : ℕ) → earlier < choice → get_or table (preferred_slot size preference earlier) 0 ≢ free

pub IsReached-start : (size : ℕ) (preference : Preference) (table : List ℕ) (free : ℕ) → IsPreference size preference → IsReached size preference table free 0 preference.offset
IsReached-start size preference table free fits =
    let sums : preference.offset + 0 * preference.skip ≡ preference.offset = omega arith in
    record {
      preferred = sym (ap (λ z. z % size) sums ∙ mod-eq_of_lt fits.offset_below);
      within = fits.offset_below;
      earlier_owned = λ earlier before. absurd (omega arith);
    }

-- past a slot with an owner
pub IsReached-next : (size : ℕ) (preference : Preference) (table : List ℕ) (free choice slot next : ℕ) → IsReached size preference table free choice slot
    → get_or table slot 0 ≢ free → next ≡ (slot + preference.skip) % size → IsReached size preference table free (choice + 1) next
IsReached-next size preference table free choice slot next reached owned moved =
    let sums : preference.offset + choice * preference.skip + preference.skip ≡ preference.offset + (choice + 1) * preference.skip = omega arith in
    record {
      preferred =
          moved ∙ ap (λ z. (z + preference.skip) % size) reached.preferred
          ∙ mod-add-mod (preference.offset + choice * preference.skip) size preference.skip ∙ ap (λ z. z % size) sums;
      within = let below : slot < size = reached.within in rw moved (mod-lt (slot + preference.skip) (omega arith));
      earlier_owned = λ earlier before.
          ⊎_elim
          (λ here. subst (λ z. get_or table z 0 ≢ free) (reached.preferred ∙ ap (preferred_slot size preference) (sym here)) owned)
          (λ elsewhere. reached.earlier_owned earlier (omega arith))
          (cases_eq earlier choice);
    }

-- a slot that is free is found among the first preferences, where these are as many as there are slots
pub IsReached-all : (size : ℕ) (preference : Preference) (table : List ℕ) (free choice slot : ℕ) → size ≡ length table → IsRingSize size → IsPreference size preference
    → Contains table free → size ≤ choice → ¬ IsReached size preference table free choice slot
IsReached-all size preference table free choice slot whole served fits some all reached =
    let found = (IsPermutationOfSlots-from_prime size preference served fits).every_slot some.0 (rw whole some.1) in
    let owned : get_or table (preferred_slot size preference found.0) 0 ≢ free = reached.earlier_owned found.0 (omega arith) in
    owned (ap (λ z. get_or table z 0) found.2 ∙ get_or_default table some.0 0 free some.1 ∙ some.2)

pub IsFirstMarked-from_reached : (size : ℕ) (preference : Preference) (table : List ℕ) (free choice slot : ℕ) → IsReached size preference table free choice slot
    → get_or table slot 0 ≡ free → IsFirstMarked size preference table free slot
IsFirstMarked-from_reached size preference table free choice slot reached is_free =
    record { choice = choice; preferred = reached.preferred; is_free = is_free; earlier_owned = reached.earlier_owned }
