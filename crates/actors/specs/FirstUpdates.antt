-- Updates that the controller makes before the first record, one after the other, through a port.
use Rattle.std.specs.Prelude.{◌≡◌, ◌≢◌, ℕ, ℤ, List, [], ◌∷◌, take, Some, slice_get}
use Rattle.map_updates.specs.declared.update.MapUpdate.{MapUpdate}
use Rattle.semantics.specs.Linux.{success}
use Rattle.control.specs.MapUpdates.{UpdateBytes}
use Rattle.actors.specs.declared.fault.ReplayFault.{ReplayFault}
use Rattle.actors.specs.declared.fault.ReplayFault.TheVariants.{BadOptions, Memory, NoThread, Refused, Full}

abbrev pub update_bytes : MapUpdate → UpdateBytes
update_bytes update = record { map = update.map; key = update.key; value = update.value }

-- each is made of the port that the one before it left, and is answered 0
abbrev pub AreSet : {P : Type 0} → (P → UpdateBytes → ℤ → P → Type 0) → P → List MapUpdate → P → Type 0
AreSet gives before [] after = before ≡ after
AreSet {P} gives before (update ∷ later) after =
    (middle : P) × gives before (update_bytes update) success middle × AreSet gives middle later after

-- the update at a place, and the port as those before it have left it
pub record IsNextUpdate {P : Type 0} (gives : P → UpdateBytes → ℤ → P → Type 0) (before : P) (updates : List MapUpdate) (place : ℕ)
    (update : MapUpdate) (middle : P) : Type 0 where
  pub known : slice_get updates place ≡ Some update
  pub set : AreSet gives before (take place updates) middle

-- the map's answer to it is no 0
pub record IsRefusedOnPort {P : Type 0} (gives : P → UpdateBytes → ℤ → P → Type 0) (before : P) (updates : List MapUpdate) (after : P)
    (place : ℕ) (answer : ℤ) : Type 0 where
  pub update : MapUpdate
  pub middle : P
  pub next : IsNextUpdate gives before updates place update middle
  pub answered : gives middle (update_bytes update) answer after
  pub no_success : answer ≢ success

-- the journal has no room for it
pub record IsFullOnPort {P : Type 0} (gives : P → UpdateBytes → ℤ → P → Type 0) (refuses : P → UpdateBytes → P → Type 0) (before : P)
    (updates : List MapUpdate) (after : P) (place : ℕ) : Type 0 where
  pub update : MapUpdate
  pub middle : P
  pub next : IsNextUpdate gives before updates place update middle
  pub full : refuses middle (update_bytes update) after

-- why not all of them were made, and the port as it was left then: the fault is that of the first that was refused or met a full journal
abbrev pub IsWhyLeft : {P : Type 0} → (P → UpdateBytes → ℤ → P → Type 0) → (P → UpdateBytes → P → Type 0) → P → List MapUpdate → P →
    ReplayFault → Type 0
IsWhyLeft gives refuses before updates after (Refused place answer) = IsRefusedOnPort gives before updates after place answer
IsWhyLeft gives refuses before updates after (Full place) = IsFullOnPort gives refuses before updates after place
IsWhyLeft gives refuses before updates after BadOptions = ⊥
IsWhyLeft gives refuses before updates after Memory = ⊥
IsWhyLeft gives refuses before updates after NoThread = ⊥

-- however it was left
abbrev pub IsWhyNotSet : {P : Type 0} → (P → UpdateBytes → ℤ → P → Type 0) → (P → UpdateBytes → P → Type 0) → P → List MapUpdate →
    ReplayFault → Type 0
IsWhyNotSet {P} gives refuses before updates fault = (after : P) × IsWhyLeft gives refuses before updates after fault
