-- The maps of the shipped program at a moment of a replay in which no command met a full journal: the lookup table, the backends and the
-- services are those that the commands carried out so far have left, whatever frames came. So it is of the end of the replay.
use Rattle.std.specs.Prelude.{◌≡◌, ◌≢◌, ℕ, ◌+◌, ◌<◌, ◌==◌, Bool, false, true, List, [], ◌∷◌, ◌++◌, Option, Some, None, option_map, reverse}
use Rattle.std.specs.Prelude.{take, length, bytes_eq}
use Rattle.std.specs.Prelude.{slice_get, if◌then◌else◌}
use Rattle.std.specs.List.{AllByRecursion, list_any}
use Rattle.wire.specs.declared.records.Sent.{Sent}
use Rattle.semantics.specs.declared.call.Caller.TheVariants.{Controller}
use Rattle.semantics.specs.declared.call.Entry.{Entry}
use Rattle.semantics.specs.declared.options.Options.{Options}
use Rattle.semantics.specs.declared.plan.ShardPlan.{ShardPlan}
use Rattle.semantics.specs.CallerLaws.{own_entries}
use Rattle.semantics.specs.LittleEndian.{bytes_of_number}
use Rattle.semantics.specs.Program.{shard_of_key}
use Rattle.semantics.specs.SequentialShard.{SequentialShard, shard_after, cell_of_key, cell_bytes}
use Rattle.semantics.specs.ShardPlan.{plan_at, AreOptions}
use Rattle.journals.specs.JournalsView.{JournalsView, entries_at}
use Rattle.maglev.specs.declared.backend.Backend.{Backend as Server}
use Rattle.maglev.specs.RingSize.{IsRingSize}
use Rattle.conntrack.specs.declared.records.BackendRecord.{BackendRecord}
use Rattle.conntrack.specs.declared.records.VipRecord.{VipRecord}
use Rattle.conntrack.specs.declared.steering_maps.SteeringMap.{SteeringMap}
use Rattle.conntrack.specs.declared.steering_maps.SteeringMap.TheVariants.{Vips, Ring, Backends}
use Rattle.conntrack.specs.Layouts.{service_key, vip_bytes, ring_bytes, backend_bytes}
use Rattle.conntrack.specs.SteeringMaps.{map_place, map_kind, sized_maps}
use Rattle.steer.specs.SteeringLaws.{of_size, shipped_program}
use Rattle.control.specs.declared.command.Action.{Action}
use Rattle.control.specs.declared.command.Action.TheVariants as actions
use Rattle.control.specs.declared.command.Command.{Command}
use Rattle.control.specs.declared.fault.ControlFault.TheVariants.{JournalFull}
use Rattle.control.specs.Controlling.{IsTable, up_after}
use Rattle.actors.specs.declared.outcome.Applied.{Applied}
use Rattle.actors.specs.declared.outcome.Outcome.{Outcome}
use Rattle.actors.specs.Accounted.{IsAccounted}
use Rattle.actors.specs.Captured.{IsCaptured}
use Rattle.actors.specs.Commands.{made_in, with_updates}
use Rattle.semantics.specs.Entries.{History}

-- ---- the value of a key

-- in a shard; none where the key is not present
abbrev pub value_of_key : ShardPlan → SequentialShard → List ℕ → Option (List ℕ)
value_of_key plan shard key = option_map (cell_bytes shard) (cell_of_key plan shard key)

abbrev pub value_in_shard : List Entry → Option ShardPlan → List ℕ → Option (List ℕ)
value_in_shard history None key = None
value_in_shard history (Some plan) key = value_of_key plan (shard_after plan history) key

-- the one-thread maps at a moment of a replay, by the histories of their shards
pub record MapsAt : Type 0 where
  -- what the shards were opened with
  pub journals : JournalsView
  -- by the shards' numbers
  pub histories : ℕ → List Entry

-- in a map: in the shard of the key
abbrev pub value_at : MapsAt → SteeringMap → List ℕ → Option (List ℕ)
value_at now map key =
    value_in_shard (now.histories (shard_of_key (map_place map) (map_kind map) now.journals.options.shards key))
    (plan_at now.journals.maps now.journals.options (shard_of_key (map_place map) (map_kind map) now.journals.options.shards key)) key

-- the histories to which the journals lead
abbrev pub last_histories : JournalsView → ℕ → History
last_histories journals number = reverse (entries_at journals number)

-- the maps at the end of a replay
abbrev pub maps_at_end : JournalsView → MapsAt
maps_at_end journals = record { journals = journals; histories = last_histories journals }

-- ---- what commands leave

-- the command of this number is among the refused ones
abbrev pub is_refused : List Applied → ℕ → Bool
is_refused refused number = list_any (λ (one : Applied). one.command == number) refused

-- what the commands do that were not refused, in order; the first of the list has this number
abbrev pub carried_out : List Applied → ℕ → List Command → List Action
carried_out refused number [] = []
carried_out refused number (command ∷ later) =
    if is_refused refused number then carried_out refused (number + 1) later
    else command.action ∷ carried_out refused (number + 1) later

-- no command was refused since a journal was full
abbrev pub MetNoFullJournal : List Applied → Type 0
MetNoFullJournal refused = AllByRecursion (λ (one : Applied). one.fault ≢ Some JournalFull) refused

-- the backends that are up once these are done, by rising number
abbrev pub up_left : List Server → List Action → List Server
up_left up [] = up
up_left up (action ∷ later) = up_left (up_after up action) later

-- one that was never up
abbrev pub no_record : BackendRecord
no_record = record { address = record { 0 = 0 ∷ 0 ∷ 0 ∷ 0 ∷ [] }; is_up = false }

-- the record of the backend of a number after a command: one that goes down keeps its address
abbrev pub record_after : ℕ → BackendRecord → Action → BackendRecord
record_after number before (actions.Up other address) = if other == number then record { address = address; is_up = true } else before
record_after number before (actions.Down other) = if other == number then record { address = before.address; is_up = false } else before
record_after number before (actions.Vip service is_notrack) = before
record_after number before (actions.Gateway source source_mac destination_mac) = before

abbrev pub record_left : ℕ → BackendRecord → List Action → BackendRecord
record_left number before [] = before
record_left number before (action ∷ later) = record_left number (record_after number before action) later

-- the record of the service of this key after a command, if there is one
abbrev pub service_after : List ℕ → Option VipRecord → Action → Option VipRecord
service_after key before (actions.Vip service is_notrack) =
    if bytes_eq (service_key service) key then Some (record { is_notrack = is_notrack }) else before
service_after key before (actions.Up number address) = before
service_after key before (actions.Down number) = before
service_after key before (actions.Gateway source source_mac destination_mac) = before

abbrev pub service_left : List ℕ → Option VipRecord → List Action → Option VipRecord
service_left key before [] = before
service_left key before (action ∷ later) = service_left key (service_after key before action) later

-- ---- the tables

-- a backend that is up: its number is one of the map's, its address has four bytes, and its record is the address and a 1
pub record IsRecordedUp (done : List Action) (server : Server) : Type 0 where
  pub few : server.number < 256
  pub address : length server.address.0 ≡ 4
  pub recorded : record_left server.number no_record done ≡ record { address = server.address; is_up = true }

-- each slot of the lookup table has one more than the number of its owner by the population of the backends that are up, which is the only
-- one, or 0 where none is up; each backend's record is what the last command of it put there, and those that are up have their address and
-- a 1
pub record AreTablesAtEnd (size : ℕ) (done : List Action) (now : MapsAt) : Type 0 where
  pub owners : List ℕ
  pub table : IsTable size (up_left [] done) owners
  pub ring : (slot : ℕ) → slot < size → value_at now Ring (bytes_of_number 4 slot) ≡ Some (ring_bytes (record { owner = slice_get owners slot }))
  pub backends : (number : ℕ) → number < 256 →
      value_at now Backends (bytes_of_number 4 number) ≡ Some (backend_bytes (record_left number no_record done))
  pub up : AllByRecursion (IsRecordedUp done) (up_left [] done)

-- of the services those are there that a command named, each with its last flags
abbrev pub AreServices : List Action → MapsAt → Type 0
AreServices done now = (key : List ℕ) → value_at now Vips key ≡ option_map vip_bytes (service_left key None done)

-- ---- replays

-- a replay of the shipped program for a flow table of so many notes and a lookup table of this size, without updates before its first
-- record, in which no command met a full journal
pub record IsPlainReplay (notes size : ℕ) (script : List Command) (options : Options) (records : List Sent) (outcome : Outcome)
    : Type 0 where
  pub fit : AreOptions (sized_maps notes size) options
  pub captured : AllByRecursion IsCaptured records
  pub accounted : IsAccounted (shipped_program notes (of_size options.shards size)) script options records outcome
  pub none_set : outcome.updates.items ≡ []
  pub none_full : MetNoFullJournal outcome.refused.items

-- The histories of the shards at a moment when the controller has applied this many commands: each is the oldest part of the one to which
-- the shard's journal leads, and has the updates of these commands, and no other of the controller's.
pub record IsMoment (notes size : ℕ) (script : List Command) (options : Options) (records : List Sent) (outcome : Outcome)
    (plain : IsPlainReplay notes size script options records outcome) (commands : ℕ) (histories : ℕ → List Entry) : Type 0 where
  pub newer : ℕ → List Entry
  pub oldest : (number : ℕ) → number < plain.accounted.count → last_histories outcome.journals number ≡ newer number ++ histories number
  pub controlled : (number : ℕ) → number < plain.accounted.count →
      own_entries Controller (histories number)
      ≡ with_updates (sized_maps notes size) options number (made_in (take commands plain.accounted.commands.done)) []

-- there is such a moment behind any number of commands
abbrev pub MomentsExist : Type 0
MomentsExist =
    (notes size : ℕ) (script : List Command) (options : Options) (records : List Sent) (outcome : Outcome)
    (plain : IsPlainReplay notes size script options records outcome) (commands : ℕ) →
    (histories : ℕ → List Entry) × IsMoment notes size script options records outcome plain commands histories

-- at each moment the tables are those that the commands so far have left
abbrev pub TablesFollow : Type 0
TablesFollow =
    (notes size : ℕ) → IsRingSize size → (script : List Command) (options : Options) (records : List Sent) (outcome : Outcome)
    (plain : IsPlainReplay notes size script options records outcome) (commands : ℕ) (histories : ℕ → List Entry) →
    IsMoment notes size script options records outcome plain commands histories →
    AreTablesAtEnd size (carried_out outcome.refused.items 0 (take commands script)) (record { journals = outcome.journals; histories = histories })

-- and at the end those that the script has left
abbrev pub TablesAreLeft : Type 0
TablesAreLeft =
    (notes size : ℕ) → IsRingSize size → (script : List Command) (options : Options) (records : List Sent) (outcome : Outcome) →
    IsPlainReplay notes size script options records outcome →
    AreTablesAtEnd size (carried_out outcome.refused.items 0 script) (maps_at_end outcome.journals)

-- so it is of the services
abbrev pub ServicesFollow : Type 0
ServicesFollow =
    (notes size : ℕ) → IsRingSize size → (script : List Command) (options : Options) (records : List Sent) (outcome : Outcome)
    (plain : IsPlainReplay notes size script options records outcome) (commands : ℕ) (histories : ℕ → List Entry) →
    IsMoment notes size script options records outcome plain commands histories →
    AreServices (carried_out outcome.refused.items 0 (take commands script)) (record { journals = outcome.journals; histories = histories })

abbrev pub ServicesAreLeft : Type 0
ServicesAreLeft =
    (notes size : ℕ) → IsRingSize size → (script : List Command) (options : Options) (records : List Sent) (outcome : Outcome) →
    IsPlainReplay notes size script options records outcome →
    AreServices (carried_out outcome.refused.items 0 script) (maps_at_end outcome.journals)
