-- Whether words are those of an action of a script.
use Rattle.std.specs.Prelude.{◌≡◌, ◌≢◌, ℕ, Bool, true, false, List, [], ◌∷◌}
use Rattle.control.specs.declared.command.Action.{Action}
use Rattle.control.specs.declared.command.Command.{Command}
use Rattle.control.specs.ScriptText.{ActionFits, action_text}

-- the command of this action behind no frame
abbrev pub at_once : Action → Command
at_once action = record { frame = 0; action = action }

-- one command alone behind no frame, or anything else
abbrev pub IsOnly : List Command → Bool → Type 0
IsOnly commands true = (action : Action) × (commands ≡ at_once action ∷ [])
IsOnly commands false = (action : Action) → commands ≢ at_once action ∷ []

-- the words of an action, or of none
abbrev pub SpellsAction : List ℕ → Bool → Type 0
SpellsAction words true = (action : Action) × ActionFits action × (words ≡ action_text action)
SpellsAction words false = (action : Action) → ActionFits action → words ≢ action_text action
