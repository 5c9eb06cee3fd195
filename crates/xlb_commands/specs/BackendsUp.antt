-- The backends that are up when the turn of a record comes, by the commands of a script alone.
use Rattle.std.specs.Prelude.{ℕ, ◌==◌, ◌||◌, not, nat_le, Bool, List, [], ◌∷◌, ◌++◌, Option, Some, None, if◌then◌else◌}
use Rattle.std.specs.List.{filter, find, list_any}
use Rattle.control.specs.declared.command.Action.{Action}
use Rattle.control.specs.declared.command.Action.TheVariants as actions
use Rattle.control.specs.declared.command.Command.{Command}
use Rattle.traffic.specs.Counting.{address_at}
use Rattle.xlb_commands.specs.declared.backends_up.UpBackend.{UpBackend}

abbrev pub has_number : ℕ → UpBackend → Bool
has_number number backend = backend.number == number

abbrev pub has_address : ℕ → UpBackend → Bool
has_address address backend = backend.address == address

-- a backend of this number, or one of this address, is up
abbrev pub is_taken : List UpBackend → ℕ → ℕ → Bool
is_taken up number address = list_any (has_number number) up || list_any (has_address address) up

-- who is up behind a backend that comes up: it is refused, and changes nothing, where none has such a number, or where its number or its
-- address is up
abbrev pub up_with : List UpBackend → ℕ → ℕ → List UpBackend
up_with up number address =
    if nat_le 256 number || is_taken up number address then up else up ++ (record { number = number; address = address } ∷ [])

-- behind one that goes down
abbrev pub up_without : List UpBackend → ℕ → List UpBackend
up_without up number = filter (λ backend. not (has_number number backend)) up

-- behind a command
abbrev pub up_behind : List UpBackend → Action → List UpBackend
up_behind up (actions.Vip service is_notrack) = up
up_behind up (actions.Up number address) = up_with up number (address_at 0 address.0)
up_behind up (actions.Down number) = up_without up number
up_behind up (actions.Gateway source source_mac destination_mac) = up

-- behind those of the commands that come before the record of this number, counted from 0
abbrev pub up_before : ℕ → List UpBackend → List Command → List UpBackend
up_before number up [] = up
up_before number up (command ∷ later) =
    if nat_le command.frame number then up_before number (up_behind up command.action) later else up

abbrev pub number_of : Option UpBackend → Option ℕ
number_of None = None
number_of (Some backend) = Some backend.number

-- the number of the backend that is up at this address
abbrev pub number_at : List UpBackend → ℕ → Option ℕ
number_at up address = number_of (find (has_address address) up)
