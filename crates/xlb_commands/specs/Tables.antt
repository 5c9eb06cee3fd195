-- The lookup table after each command of a script.
use Rattle.std.specs.Prelude.{◌≡◌, ℕ, List, Bool}
use Rattle.maglev.specs.RingSize.{IsRingSize}
use Rattle.control.specs.declared.command.Command.{Command}
use Rattle.traffic.specs.TableText.{AreTables, is_some}
use Rattle.traffic.specs.declared.tables.Refused.{Refused}
use Rattle.xlb_commands.specs.Files.{FileBytes}
use Rattle.xlb_commands.specs.Replays.{IsScriptFile}

-- what is printed are the tables of the script, and whether some of its commands was refused
abbrev pub AreShownTables : ℕ → List Command → List ℕ → Bool → Type 0
AreShownTables ring script printed some_refused =
    (noted : List Refused) × AreTables ring script printed noted × (some_refused ≡ is_some noted)

-- the size is one of a lookup table, the script is read from its file, and what is printed are the tables that a replay's controller
-- writes for it; and whether some of its commands was refused
pub record IsTableShown (files : FileBytes) (name : List ℕ) (ring : ℕ) (printed : List ℕ) (some_refused : Bool) : Type 0 where
  pub size : IsRingSize ring
  pub script : List Command
  pub read : IsScriptFile files name script
  pub tables : AreShownTables ring script printed some_refused
