-- Updates of maps that the commands of a script set.
use Rattle.std.specs.Prelude.{◌≡◌, ℕ, ◌==◌, ◌&&◌, Bool, true, false, not, List, All, Some, slice_get, take}
use Rattle.map_updates.specs.declared.update.MapUpdate.{MapUpdate}

-- of the six maps of steering the commands set all but the second, of the flows, and the last, of the counts
abbrev pub is_of_commands : ℕ → Bool
is_of_commands map = not (map == 1) && not (map == 5)

-- no command sets what these updates set
abbrev pub AreLeftByCommands : List MapUpdate → Type 0
AreLeftByCommands updates = All (λ (update : MapUpdate). is_of_commands update.map ≡ false) updates

-- the update at a place is the first one of a map that commands set
pub record IsFirstOfCommands (updates : List MapUpdate) (place : ℕ) : Type 0 where
  pub update : MapUpdate
  pub known : slice_get updates place ≡ Some update
  pub set : is_of_commands update.map ≡ true
  pub earlier : AreLeftByCommands (take place updates)
