-- What a script has set when a record comes: which backends are up.
use Rattle.std.specs.Prelude.{ℕ, nat_lt, not, Bool, true, false, List, decimal, if◌then◌else◌, fold}
use Rattle.std.specs.List.{take_while}
use Rattle.std.specs.Str.{bytes_eq}
use Rattle.control.specs.declared.command.Action.{Action}
use Rattle.control.specs.declared.command.Action.TheVariants.{Vip, Up, Down, Gateway}
use Rattle.control.specs.declared.command.Command.{Command}

-- the command comes before the record at this place, counted from 0: at most as many records as that come before it
abbrev pub is_due : ℕ → Command → Bool
is_due place command = not (nat_lt place command.frame)

-- the commands that come before the record at this place: the first ones, since the numbers of a script never fall
abbrev pub before : ℕ → List Command → List Command
before place commands = take_while (is_due place) commands

-- ---- backends

-- whether the backend of this number, in decimal, is up after a command, if it was or was not before
abbrev pub up_by : List ℕ → Bool → Action → Bool
up_by backend_number was (Vip service is_notrack) = was
up_by backend_number was (Up backend address) = if bytes_eq (decimal backend) backend_number then true else was
up_by backend_number was (Down backend) = if bytes_eq (decimal backend) backend_number then false else was
up_by backend_number was (Gateway source source_mac destination_mac) = was

-- whether the backend of this number is up after these commands
abbrev pub is_up : List ℕ → List Command → Bool
is_up backend_number commands = fold (λ was command. up_by backend_number was command.action) false commands
