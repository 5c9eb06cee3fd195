-- The commands of a script before the first record, and the later ones.
use Rattle.std.specs.Prelude.{ℕ, ◌==◌, not, Bool, List, [], ◌∷◌, Option, Some, None}
use Rattle.std.specs.List.{filter}
use Rattle.control.specs.declared.command.Command.{Command}

abbrev pub is_first : Command → Bool
is_first command = command.frame == 0

-- the commands before the first record
abbrev pub first_ones : List Command → List Command
first_ones commands = filter (λ (command : Command). command.frame == 0) commands

-- the commands behind it
abbrev pub later_ones : List Command → List Command
later_ones commands = filter (λ (command : Command). not (command.frame == 0)) commands

-- how many records come before the first of commands
abbrev pub records_before : List Command → Option ℕ
records_before [] = None
records_before (command ∷ more) = Some command.frame
