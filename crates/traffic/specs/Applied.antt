-- The lookup table behind commands of a script, as a replay's controller makes it.
use Rattle.std.specs.Prelude.{◌≡◌, ◌≢◌, ℕ, List, [], ◌∷◌, None}
use Rattle.control.specs.declared.command.Action.{Action}
use Rattle.control.specs.declared.command.Command.{Command}
use Rattle.control.specs.declared.fault.ControlFault.{ControlFault}
use Rattle.control.specs.declared.fault.ControlFault.TheVariants.{Memory}
use Rattle.control.specs.Controlling.{ControllerState, refusal_of, IsCarriedOut, IsLeft, first_updates, up_after, opened_controller}
use Rattle.traffic.specs.WrittenMaps.{MapsState, IsUpdateAnswered, IsNeverRefused}
use Rattle.traffic.specs.TableText.{no_maps}

-- The action leads from one state of the controller and of the maps to another, as a replay's controller carries it out; or it is refused,
-- but not for memory, and leaves what the controller says.
pub data IsApplied (state : ControllerState) (maps : MapsState) (action : Action) (state' : ControllerState) (maps' : MapsState) : Type 0 where
  is_done : refusal_of state action ≡ None
      → IsCarriedOut IsUpdateAnswered state maps (first_updates state.up action) (up_after state.up action) state' maps'
      → IsApplied state maps action state' maps'
  is_refused : (fault : ControlFault) → fault ≢ Memory → IsLeft IsUpdateAnswered IsNeverRefused state maps action state' maps' fault
      → IsApplied state maps action state' maps'

-- the commands lead from one state to another, one after the other
abbrev pub AreApplied : ControllerState → MapsState → List Command → ControllerState → MapsState → Type 0
AreApplied state maps [] last left = (last ≡ state) × (left ≡ maps)
AreApplied state maps (command ∷ later) last left =
    (state' : ControllerState) × (maps' : MapsState) × IsApplied state maps command.action state' maps' × AreApplied state' maps' later last left

-- the words of a lookup table of this size behind these commands: of each slot the number of its owner and one, or 0
pub record AreWordsAfter (size : ℕ) (commands : List Command) (words : List ℕ) : Type 0 where
  pub state : ControllerState
  pub maps : MapsState
  pub applied : AreApplied (opened_controller size) (no_maps size) commands state maps
  pub words_are : words ≡ maps.words
