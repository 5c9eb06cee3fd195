-- Two machines of a fleet, at moments when the commands that each has carried out leave the same backends up, whatever their captures,
-- workers and shards are: their tables are the same, so a frame that is sent by no note goes to the same backend on both. And what a
-- backend that goes down moves: of the frames that are sent by no note those of its slots, and of the slots that change hands. So it is
-- at two moments of one replay.
use Rattle.std.specs.Prelude.{◌≡◌, ◌≢◌, ◌↔◌, ℕ, ◌+◌, ◌%◌, ◌<◌, not, true, false, List, [], ◌∷◌, ◌++◌, Option, Some, None, option_map, slice_get}
use Rattle.std.specs.Prelude.{take}
use Rattle.std.specs.List.{AllByRecursion, find}
use Rattle.wire.specs.FlowForm.{HasFlow, flow_bytes_of}
use Rattle.wire.specs.Fnv.{fnv1a64_of}
use Rattle.wire.specs.declared.records.Sent.{Sent}
use Rattle.semantics.specs.declared.call.Entry.{Entry}
use Rattle.semantics.specs.declared.options.Options.{Options}
use Rattle.semantics.specs.LittleEndian.{bytes_of_number}
use Rattle.maglev.specs.declared.backend.Backend.{Backend as Server}
use Rattle.maglev.specs.RingSize.{IsRingSize}
use Rattle.conntrack.specs.declared.choosing.Assigned.{Assigned}
use Rattle.conntrack.specs.declared.choosing.Choice.{Choice}
use Rattle.conntrack.specs.declared.choosing.Choice.TheVariants.{Drop, Tx}
use Rattle.conntrack.specs.declared.choosing.Records.{Records}
use Rattle.conntrack.specs.declared.records.TunnelRecord.{TunnelRecord}
use Rattle.conntrack.specs.declared.records.VipRecord.{VipRecord}
use Rattle.conntrack.specs.declared.steering_maps.SteeringMap.TheVariants.{Ring, Backends}
use Rattle.conntrack.specs.Layouts.{ring_of, backend_of}
use Rattle.conntrack.specs.SteeringRule.{IsSteered, fits_tunnel, is_set_up, tracked_choice}
use Rattle.control.specs.declared.command.Action.{Action}
use Rattle.control.specs.declared.command.Action.TheVariants.{Down}
use Rattle.control.specs.declared.command.Command.{Command}
use Rattle.control.specs.Controlling.{IsTable, has_number, without_backend}
use Rattle.actors.specs.declared.outcome.Outcome.{Outcome}
use Rattle.steered_replays.specs.TablesAtEnd.{MapsAt, value_at, up_left, AreTablesAtEnd, is_refused, carried_out, IsPlainReplay, IsMoment}

-- ---- the same tables

-- the lookup tables agree, and so do the records of the backends that are up
pub record HaveSameTables (size : ℕ) (up : List Server) (one other : MapsAt) : Type 0 where
  pub ring : (slot : ℕ) → slot < size → value_at other Ring (bytes_of_number 4 slot) ≡ value_at one Ring (bytes_of_number 4 slot)
  pub backends :
      AllByRecursion
      (λ (server : Server). value_at other Backends (bytes_of_number 4 server.number) ≡ value_at one Backends (bytes_of_number 4 server.number)) up

abbrev pub SameTables : Type 0
SameTables =
    (size : ℕ) (done others : List Action) (one other : MapsAt) → AreTablesAtEnd size done one → AreTablesAtEnd size others other →
    up_left [] done ≡ up_left [] others → HaveSameTables size (up_left [] done) one other

-- ---- frames that are sent by the table

abbrev pub slot_of_flow : ℕ → List ℕ → ℕ
slot_of_flow size frame = fnv1a64_of (flow_bytes_of frame) % size

abbrev pub owner_in : Option (List ℕ) → Option ℕ
owner_in None = None
owner_in (Some bytes) = (ring_of bytes).owner

-- a backend with its record, as a run reads it
abbrev pub assigned_in : MapsAt → Option ℕ → Option Assigned
assigned_in now None = None
assigned_in now (Some number) =
    Some (record { number = number; «record» = option_map backend_of (value_at now Backends (bytes_of_number 4 number)) })

-- the owner of the slot of a frame's flow, as a run reads it
abbrev pub owner_of_flow : ℕ → MapsAt → List ℕ → Option Assigned
owner_of_flow size now frame = assigned_in now (owner_in (value_at now Ring (bytes_of_number 4 (slot_of_flow size frame))))

-- The rule chooses this for a frame of a service of this record, once its tunnel is set up, and by no note: the service is not tracked, no
-- backend was noted for the flow, or the noted one is not up. So the owner of the flow's slot decides, which is read at this moment.
pub record IsSentByTable (size : ℕ) (now : MapsAt) (frame : List ℕ) (vip : VipRecord) (choice : Choice) : Type 0 where
  pub records : Records
  pub steered : IsSteered frame records choice
  pub has_flow : HasFlow frame
  pub fits : fits_tunnel frame ≡ true
  pub service : records.vip ≡ Some vip
  pub set_up : is_set_up records.tunnel ≡ true
  pub no_note : tracked_choice vip records ≡ None
  pub slot_read : records.slot ≡ owner_of_flow size now frame

-- the backend of this number among those that are up; without it the frame is dropped
abbrev pub sent_to : VipRecord → Option Server → Choice
sent_to vip None = Drop
sent_to vip (Some server) = Tx server.number server.address (not vip.is_notrack)

abbrev pub server_of : List Server → Option ℕ → Option Server
server_of up None = None
server_of up (Some number) = find (has_number number) up

-- such a frame is sent to the owner of its flow's slot
abbrev pub OwnersAreSentTo : Type 0
OwnersAreSentTo =
    (size : ℕ) (done : List Action) (now : MapsAt) (tables : AreTablesAtEnd size done now) (frame : List ℕ) (vip : VipRecord) (choice : Choice) →
    0 < size → IsSentByTable size now frame vip choice →
    choice ≡ sent_to vip (server_of (up_left [] done) (slice_get tables.owners (slot_of_flow size frame)))

-- and while any backend is up, to one that is
abbrev pub SomeAreSentTo : Type 0
SomeAreSentTo =
    (size : ℕ) (done : List Action) (now : MapsAt) (tables : AreTablesAtEnd size done now) → up_left [] done ≢ [] → (slot : ℕ) → slot < size →
    (server : Server) × (server_of (up_left [] done) (slice_get tables.owners slot) ≡ Some server)

-- there are such frames: any with a flow that fits, for any service, once the tunnel is set up and as long as no backend is noted
abbrev pub FramesAreSent : Type 0
FramesAreSent =
    (size : ℕ) (now : MapsAt) (frame : List ℕ) (vip : VipRecord) (tunnel : TunnelRecord) → HasFlow frame → fits_tunnel frame ≡ true →
    tunnel.is_ready ≡ true → (choice : Choice) × IsSentByTable size now frame vip choice

-- so on both machines to the same backend
abbrev pub StrangersAgree : Type 0
StrangersAgree =
    (size : ℕ) (done others : List Action) (one other : MapsAt) → 0 < size → AreTablesAtEnd size done one → AreTablesAtEnd size others other →
    up_left [] done ≡ up_left [] others → (frame : List ℕ) (vip : VipRecord) (choice its : Choice) →
    IsSentByTable size one frame vip choice → IsSentByTable size other frame vip its → its ≡ choice

-- ---- what moves when a backend goes down

-- before and behind the command a frame that is sent by no note goes to the same backend exactly if its flow's slot has the same owner
abbrev pub StrangersMove : Type 0
StrangersMove =
    (size : ℕ) (done : List Action) (number : ℕ) (before after : MapsAt) → 0 < size → (tables : AreTablesAtEnd size done before)
    (its : AreTablesAtEnd size (done ++ Down number ∷ []) after) (frame : List ℕ) (vip : VipRecord) (choice later : Choice) →
    IsSentByTable size before frame vip choice → IsSentByTable size after frame vip later →
    (later ≡ choice) ↔ (slice_get its.owners (slot_of_flow size frame) ≡ slice_get tables.owners (slot_of_flow size frame))

-- ---- the same in a replay

-- At two moments: the owners of the slots by the population of the backends that are up at the one, and of those that are up at the other.
-- Of the frames that are sent by no note exactly those go to the same backend at both whose flow's slot has the same owner.
pub record MoveWithOwners (size : ℕ) (up left : List Server) (before after : MapsAt) : Type 0 where
  pub owners : List ℕ
  pub table : IsTable size up owners
  pub later_owners : List ℕ
  pub later_table : IsTable size left later_owners
  pub moved : (frame : List ℕ) (vip : VipRecord) (choice later : Choice) → IsSentByTable size before frame vip choice →
      IsSentByTable size after frame vip later →
      (later ≡ choice) ↔ (slice_get later_owners (slot_of_flow size frame) ≡ slice_get owners (slot_of_flow size frame))

-- before a `down` of a replay's script that was carried out, and behind it: of the backends that were up then all but its own
abbrev pub StrangersMoveInReplays : Type 0
StrangersMoveInReplays =
    (notes size : ℕ) → IsRingSize size → (script : List Command) (options : Options) (records : List Sent) (outcome : Outcome)
    (plain : IsPlainReplay notes size script options records outcome) (commands : ℕ) (command : Command) (number : ℕ) →
    slice_get script commands ≡ Some command → command.action ≡ Down number → is_refused outcome.refused.items commands ≡ false →
    (before after : ℕ → List Entry) → IsMoment notes size script options records outcome plain commands before →
    IsMoment notes size script options records outcome plain (commands + 1) after →
    MoveWithOwners size (up_left [] (carried_out outcome.refused.items 0 (take commands script)))
    (without_backend (up_left [] (carried_out outcome.refused.items 0 (take commands script))) number)
    (record { journals = outcome.journals; histories = before }) (record { journals = outcome.journals; histories = after })
