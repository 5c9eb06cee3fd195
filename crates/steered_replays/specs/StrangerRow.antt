-- One run of a flow without a note, so that the law on such runs is not empty. A controller set backend 2 up and made it the owner of the
-- flow's slot; the run's frame goes to backend 2, which is then noted.
use Rattle.std.specs.Prelude.{◌≡◌, ℕ, ◌==◌, true, pos, List, [], ◌∷◌, ◌++◌, Some, if◌then◌else◌, reverse}
use Rattle.wire.specs.FrameView.{FrameView}
use Rattle.semantics.specs.declared.call.Call.TheVariants.{Enter, Lookup, Load, Update}
use Rattle.semantics.specs.declared.call.Entry.{Entry}
use Rattle.semantics.specs.declared.call.Reply.TheVariants.{Entered, Cell, Null, Word, Answer}
use Rattle.semantics.specs.declared.verdict.Verdict.TheVariants.{Tx}
use Rattle.semantics.specs.LittleEndian.{bytes_of_number}
use Rattle.semantics.specs.SystemRows.{by_worker, by_controller}
use Rattle.map_port.specs.Exchanges.{Exchange}
use Rattle.journals.specs.JournalsView.{JournalsView}
use Rattle.shard_port.specs.Sessions.{exchange_entry}
use Rattle.conntrack.specs.declared.choosing.Choice.TheVariants as choices
use Rattle.conntrack.specs.declared.records.VipRecord.{VipRecord}
use Rattle.conntrack.specs.declared.steering_maps.SteeringMap.TheVariants.{Ring}
use Rattle.conntrack.specs.Layouts.{flow_bytes, ring_bytes, vip_of}
use Rattle.conntrack.specs.SteeringMaps.{sized_maps}
use Rattle.conntrack.specs.SteeringRule.{steered_frame}
use Rattle.steered_replays.specs.SteeredRuns.{EndsByRule}
use Rattle.steered_replays.specs.TablesAtEnd.{MapsAt}
use Rattle.steered_replays.specs.Fleets.{slot_of_flow}
use Rattle.steered_replays.specs.StickyRow.{row_backend, row_backend_load, row_backend_lookup, row_backends, row_backends_before, row_cell}
use Rattle.steered_replays.specs.StickyRow.{row_count, row_frame, row_guards, row_key, row_tunnel, sticky_sizes}
use Rattle.steered_replays.specs.StrangerRuns.{RunOfStranger}

-- ---- what the run asks

abbrev pub row_slot : ℕ
row_slot = slot_of_flow 7 row_frame.bytes

abbrev pub stranger_lookup : Exchange
stranger_lookup = record { call = Lookup 1 row_key; reply = Null }

abbrev pub slot_lookup : Exchange
slot_lookup = record { call = Lookup 2 (bytes_of_number 4 row_slot); reply = Cell (row_cell Ring row_slot) }

abbrev pub slot_load : Exchange
slot_load = record { call = Load (row_cell Ring row_slot) 0 4; reply = Word 3 }

abbrev pub note_update : Exchange
note_update = record { call = Update 1 row_key (flow_bytes (record { backend = 2 })) 0; reply = Answer (pos 0) }

abbrev pub stranger_exchanges : List Exchange
stranger_exchanges =
    row_guards ++ stranger_lookup ∷ slot_lookup ∷ slot_load ∷ row_backend_lookup ∷ row_backend_load ∷ note_update ∷ row_count

-- ---- the histories, the newest entry first

abbrev pub row_ring_before : List Entry
row_ring_before =
    by_worker (Enter 2) Entered
    ∷ by_controller (Update 2 (bytes_of_number 4 row_slot) (ring_bytes (record { owner = Some 2 })) 0) (Answer (pos 0)) ∷ []

-- when the run reads the slot, and the owner's record
abbrev pub row_histories : ℕ → List Entry
row_histories number =
    if number == 2 then exchange_entry 0 slot_lookup ∷ row_ring_before
    else (if number == 3 then exchange_entry 0 row_backend_lookup ∷ row_backends_before else [])

abbrev pub row_journals : JournalsView
row_journals = record {
  maps = sized_maps 4096 7;
  options = record { workers = 1; shards = 1; journal = 16 };
  shards = [] ∷ [] ∷ reverse (exchange_entry 0 slot_load ∷ row_histories 2) ∷ reverse row_backends ∷ [] ∷ [] ∷ [];
}

abbrev pub row_now : MapsAt
row_now = record { journals = row_journals; histories = row_histories }

-- a service that is tracked
abbrev pub row_vip : VipRecord
row_vip = vip_of (bytes_of_number 8 0)

-- the run ends by the rule, finds no note, and sends its frame to the owner of the slot
pub record StrangerRow : Type 0 where
  pub left : FrameView
  pub ends : EndsByRule sticky_sizes row_frame stranger_exchanges Tx left
  pub run : RunOfStranger 7 row_now row_frame row_vip row_tunnel 0 stranger_exchanges
  pub left_is : left ≡ steered_frame row_tunnel (choices.Tx 2 row_backend.address true) row_frame
