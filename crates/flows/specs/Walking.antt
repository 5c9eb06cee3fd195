-- What the code keeps of a script while it goes through a report.
use Rattle.std.specs.Prelude.{◌≡◌, ℕ, ◌≤◌, Bool, false, List, Option, Some, None, if◌then◌else◌, unwrap_or, take}
use Rattle.std.specs.BTreeMap.{get_by_text}
use Rattle.std.specs.List.{prefix_len}
use Rattle.std.specs.Str.{bytes_eq}
use Rattle.control.specs.declared.command.Action.{Action}
use Rattle.control.specs.declared.command.Command.{Command}
use Rattle.flows.specs.declared.settings.Flags.{Flags}
use Rattle.flows.specs.declared.settings.Settings.{Settings}
use Rattle.flows.specs.Settings.{is_due, is_up, up_by}

-- what is noted of a name
abbrev pub flag : Flags → List ℕ → Bool
flag flags name = unwrap_or (get_by_text flags.set name) false

-- one name has this flag, and every other one has what it had
abbrev pub SetsFlag : Flags → Flags → List ℕ → Bool → Type 0
SetsFlag old new name is_so = (other : List ℕ) → flag new other ≡ (if bytes_eq name other then is_so else flag old other)

-- the commands that were carried out
abbrev pub applied : Settings → List Command
applied settings = take settings.done settings.commands.now

-- there is a command, and it comes before the record at this place
abbrev pub is_one_due : ℕ → Option Command → Bool
is_one_due place None = false
is_one_due place (Some command) = is_due place command

-- an action was carried out
pub record IsSetBy (old new : Settings) (action : Action) : Type 0 where
  pub up : (backend_number : List ℕ) → flag new.up backend_number ≡ up_by backend_number (flag old.up backend_number) action
  pub done : new.done ≡ old.done
  pub commands : new.commands.now ≡ old.commands.now

-- the flags are those that the commands set
pub record KnowsSettings (settings : Settings) : Type 0 where
  pub up : (backend_number : List ℕ) → flag settings.up backend_number ≡ is_up backend_number (applied settings)

-- the flags are those of the commands that were carried out, and none of these comes after the record at this place
pub record IsWalked (settings : Settings) (place : ℕ) : Type 0 where
  pub knows : KnowsSettings settings
  pub due : settings.done ≤ prefix_len (is_due place) settings.commands.now
