-- What a command does: which updates it asks, in which order, and who is up after it.
use Rattle.std.specs.Prelude.{◌≡◌, ◌≢◌, ℕ, ◌+◌, ◌<◌, ◌≤◌, ◌==◌, ℤ, pos, ◌⊎◌, Bool, true, false, not, ◌&&◌, ◌||◌, nat_lt, bytes_eq, List}
use Rattle.std.specs.Prelude.{[], ◌∷◌, ◌++◌, Option, Some, None, Result, Ok, Err, if◌then◌else◌}
use Rattle.std.specs.List.{filter, find, list_any, AllByRecursion}
use Rattle.wire.specs.declared.ethernet.Ipv4Address.{Ipv4Address}
use Rattle.maglev.specs.declared.backend.Backend.{Backend as Server}
use Rattle.maglev.specs.RingSize.{IsRingSize}
use Rattle.maglev.specs.Population.{IsPopulation, IsOnlyPopulation}
use Rattle.maglev.specs.Hashing.{hashed_preferences}
use Rattle.control.specs.declared.command.Action.{Action}
use Rattle.control.specs.declared.command.Action.TheVariants as actions
use Rattle.control.specs.declared.fault.ControlFault.{ControlFault}
use Rattle.control.specs.declared.fault.ControlFault.TheVariants.{BadSize, BadLine, UnknownBackend, BackendTwice, Refused, JournalFull}
use Rattle.control.specs.declared.fault.ControlFault.TheVariants.{Memory}
use Rattle.control.specs.declared.update.Update.{Update}
use Rattle.control.specs.declared.update.Update.TheVariants.{Vip, Ring, Backend, Tunnel}
use Rattle.control.specs.MapUpdates.{UpdateBytes, map_update, AreMade, AreCutShort}
use Rattle.control.specs.RingChanges.{changes_below, slot_updates}

-- ---- who is up

abbrev pub has_number : ℕ → Server → Bool
has_number number server = server.number == number

abbrev pub has_address : Ipv4Address → Server → Bool
has_address address server = bytes_eq server.address.0 address.0

-- the backends with this one among them, by rising number
abbrev pub with_backend : List Server → Server → List Server
with_backend up server =
    filter (λ (other : Server). nat_lt other.number server.number) up ++
    server ∷ filter (λ (other : Server). nat_lt server.number other.number) up

abbrev pub without_backend : List Server → ℕ → List Server
without_backend up number = filter (λ server. not (has_number number server)) up

-- the backends that are up, by rising number from this one on
unfoldable pub IsRising : ℕ → List Server → Type 0
IsRising least [] = Unit {0}
IsRising least (server ∷ up) = (least ≤ server.number) × IsRising (server.number + 1) up

-- two backends have one address only if they are one
abbrev pub IsApart : Server → Server → Type 0
IsApart one other = one.address ≡ other.address → one.number ≡ other.number

-- the backends are those of a controller: by rising number, each number below 256 and the table's size, each address once
pub record AreUp (size : ℕ) (up : List Server) : Type 0 where
  pub rising : IsRising 0 up
  pub below : AllByRecursion (λ (server : Server). (server.number < size) × (server.number < 256)) up
  pub addresses : AllByRecursion (λ (one : Server). AllByRecursion (IsApart one) up) up

-- the table is Maglev's population of the backends that are up, and the only one; without any backend there is no owner
abbrev pub IsTable : ℕ → List Server → List ℕ → Type 0
IsTable size [] owners = owners ≡ []
IsTable size (server ∷ up) owners =
    IsPopulation size (hashed_preferences size (server ∷ up)) owners × IsOnlyPopulation size (hashed_preferences size (server ∷ up)) owners

-- the owners in a ring, if there is one
abbrev pub owners_in : Option (List ℕ) → List ℕ
owners_in None = []
owners_in (Some owners) = owners

-- ---- the controller

pub record ControllerState : Type 0 where
  -- how many slots the lookup table has
  pub size : ℕ
  -- the backends that are up, by rising number
  pub up : List Server
  -- the number of the owner of each slot, or nothing while no backend is up
  pub owners : List ℕ
  -- a journal was full when a command was carried out
  pub is_full : Bool

-- a controller before its first command
abbrev pub opened_controller : ℕ → ControllerState
opened_controller size = record { size = size; up = []; owners = []; is_full = false }

-- what holds of every controller
pub record IsController (size : ℕ) (up : List Server) (owners : List ℕ) : Type 0 where
  pub ring_size : IsRingSize size
  pub are_up : AreUp size up
  pub table : IsTable size up owners

-- the fault of a backend that comes up
abbrev pub up_refusal : ℕ → List Server → ℕ → Ipv4Address → Option ControlFault
up_refusal size up number address =
    if nat_lt number 256 && nat_lt number size
    then (if list_any (has_number number) up || list_any (has_address address) up then Some BackendTwice else None)
    else Some UnknownBackend

-- the fault of one that goes down
abbrev pub down_refusal : Option Server → Option ControlFault
down_refusal (Some server) = None
down_refusal None = Some UnknownBackend

abbrev pub action_refusal : ℕ → List Server → Action → Option ControlFault
action_refusal size up (actions.Vip service is_notrack) = None
action_refusal size up (actions.Up number address) = up_refusal size up number address
action_refusal size up (actions.Down number) = down_refusal (find (has_number number) up)
action_refusal size up (actions.Gateway source source_mac destination_mac) = None

-- why the command is refused before anything is asked
abbrev pub refusal_of : ControllerState → Action → Option ControlFault
refusal_of state action = if state.is_full then Some JournalFull else action_refusal state.size state.up action

-- who is up after the command
abbrev pub up_after : List Server → Action → List Server
up_after up (actions.Vip service is_notrack) = up
up_after up (actions.Up number address) = with_backend up (record { number = number; address = address })
up_after up (actions.Down number) = without_backend up number
up_after up (actions.Gateway source source_mac destination_mac) = up

-- the record of a backend that goes down: its address stays
abbrev pub down_update : Option Server → List Update
down_update (Some server) = Backend server.number (record { address = server.address; is_up = false }) ∷ []
down_update None = []

-- what the command itself puts into a map
abbrev pub first_updates : List Server → Action → List Update
first_updates up (actions.Vip service is_notrack) = Vip service (record { is_notrack = is_notrack }) ∷ []
first_updates up (actions.Up number address) = Backend number (record { address = address; is_up = true }) ∷ []
first_updates up (actions.Down number) = down_update (find (has_number number) up)
first_updates up (actions.Gateway source source_mac destination_mac) =
    Tunnel (record { source = source; source_mac = source_mac; destination_mac = destination_mac; is_ready = true }) ∷ []

-- ---- what a command leaves

-- the updates that are asked where the table becomes this one: the record first, then the slots that change hands, rising
abbrev pub updates_of : ControllerState → List Update → List ℕ → List Update
updates_of state firsts owners = firsts ++ slot_updates (changes_below state.owners owners state.size)

-- all updates are made, and these backends are up
pub record IsCarriedOut {P : Type 0} (gives : P → UpdateBytes → ℤ → P → Type 0) (state : ControllerState) (before : P)
    (firsts : List Update) (up : List Server)
    (state' : ControllerState) (after : P) : Type 0 where
  pub owners : List ℕ
  pub table : IsTable state.size up owners
  pub state_is : state' ≡ record { size = state.size; up = up; owners = owners; is_full = false }
  pub are_made : AreMade gives before (updates_of state firsts owners) after

-- an update met a full journal, of a controller that had met none before: those before it remain, and the controller is full
pub record IsStopped {P : Type 0} (gives : P → UpdateBytes → ℤ → P → Type 0) (refuses : P → UpdateBytes → P → Type 0)
    (state : ControllerState) (before : P)
    (firsts : List Update) (up : List Server) (state' : ControllerState) (after : P) : Type 0 where
  pub not_full : state.is_full ≡ false
  pub owners : List ℕ
  pub table : IsTable state.size up owners
  pub state_is : state' ≡ record { size = state.size; up = state.up; owners = state.owners; is_full = true }
  pub cut_short : AreCutShort gives refuses before (updates_of state firsts owners) after

-- nothing is changed
pub record IsUnchanged {P : Type 0} (state : ControllerState) (before : P) (state' : ControllerState) (after : P) : Type 0 where
  pub state_is : state' ≡ state
  pub port_is : after ≡ before

-- the map of services gave this answer to the one update, and the controller is as it was
pub record IsServiceAnswered {P : Type 0} (gives : P → UpdateBytes → ℤ → P → Type 0) (state : ControllerState) (before : P)
    (firsts : List Update) (answer : ℤ)
    (state' : ControllerState) (after : P) : Type 0 where
  pub update : Update
  pub only : firsts ≡ update ∷ []
  pub not_done : answer ≢ pos 0
  pub answered : gives before (map_update update) answer after
  pub state_is : state' ≡ state

-- what a refusal leaves
abbrev pub IsLeft : {P : Type 0} → (P → UpdateBytes → ℤ → P → Type 0) → (P → UpdateBytes → P → Type 0) → ControllerState → P → Action →
    ControllerState → P → ControlFault → Type 0
IsLeft gives refuses state before action state' after UnknownBackend =
    IsUnchanged state before state' after × (refusal_of state action ≡ Some UnknownBackend)
IsLeft gives refuses state before action state' after BackendTwice =
    IsUnchanged state before state' after × (refusal_of state action ≡ Some BackendTwice)
IsLeft gives refuses state before action state' after (Refused answer) =
    IsServiceAnswered gives state before (first_updates state.up action) answer state' after
IsLeft gives refuses state before action state' after JournalFull =
    (IsUnchanged state before state' after × (refusal_of state action ≡ Some JournalFull))
    ⊎ IsStopped gives refuses state before (first_updates state.up action) (up_after state.up action) state' after
IsLeft gives refuses state before action state' after Memory = IsUnchanged state before state' after × (refusal_of state action ≡ None)
IsLeft gives refuses state before action state' after BadSize = ⊥
IsLeft gives refuses state before action state' after (BadLine line) = ⊥
