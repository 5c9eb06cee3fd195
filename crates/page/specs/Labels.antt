-- What a backend is called: its number, and the address that the last command of a script for it gives.
use Rattle.std.specs.Prelude.{ℕ, ◌+◌, ◌-◌, ◌==◌, ◌++◌, List, Option, Some, None, codes, decimal, fold, if◌then◌else◌, length}
use Rattle.control.specs.declared.command.Action.{Action}
use Rattle.control.specs.declared.command.Action.TheVariants.{Vip, Up, Down, Gateway}
use Rattle.control.specs.declared.command.Command.{Command}
use Rattle.control.specs.ScriptText.{address_text}
use Rattle.wire.specs.declared.ethernet.Ipv4Address.{Ipv4Address}

-- the address of the backend with this key after a command, if it had this one or none before
abbrev pub address_by : ℕ → Option Ipv4Address → Action → Option Ipv4Address
address_by key was (Up backend address) = if backend + 1 == key then Some address else was
address_by key was (Down backend) = was
address_by key was (Vip service is_notrack) = was
address_by key was (Gateway source source_mac destination_mac) = was

-- the address that the last of these commands gives it
abbrev pub address_of_key : List Command → ℕ → Option Ipv4Address
address_of_key commands key = fold (λ was (command : Command). address_by key was command.action) None commands

-- a number and an address, as far as they are known
unfoldable pub both_text : List ℕ → List ℕ → List ℕ
both_text backend address = backend ++ (codes " (" ++ (address ++ codes ")"))

abbrev pub backend_phrase : List ℕ → List ℕ → List ℕ
backend_phrase backend address =
    if length backend == 0 then address else (if length address == 0 then backend else both_text backend address)

-- the label of a number, whose address is this one or not known
unfoldable pub label_with : ℕ → Option Ipv4Address → List ℕ
label_with backend None = codes "backend " ++ decimal backend
label_with backend (Some address) = both_text (decimal backend) (address_text address.0)

-- the label of the backend with this key
abbrev pub backend_label : List Command → ℕ → List ℕ
backend_label commands key = label_with (key - 1) (address_of_key commands key)
