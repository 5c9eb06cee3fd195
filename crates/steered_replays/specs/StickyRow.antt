-- One run of a flow that is noted, so that the law on such runs is not empty. A controller set backend 2 up and noted it for the
-- flow, and then changed the note of another flow; the run's frame goes to backend 2.
use Rattle.std.specs.Prelude.{◌≡◌, ℕ, pos, List, [], ◌∷◌, ◌++◌, replicate}
use Rattle.wire.specs.FlowForm.{flow_bytes_of}
use Rattle.wire.specs.FrameView.{FrameView}
use Rattle.semantics.specs.declared.call.Call.TheVariants.{Enter, Lookup, Load, Update}
use Rattle.semantics.specs.declared.call.CellRef.{CellRef}
use Rattle.semantics.specs.declared.call.Entry.{Entry}
use Rattle.semantics.specs.declared.call.Reply.TheVariants.{Entered, Cell, Word, Answer}
use Rattle.semantics.specs.declared.plan.ShardPlan.{ShardPlan}
use Rattle.semantics.specs.declared.verdict.Verdict.TheVariants.{Tx}
use Rattle.semantics.specs.LittleEndian.{number_of_bytes, bytes_of_number}
use Rattle.semantics.specs.System.{input_frame}
use Rattle.semantics.specs.SystemRows.{by_worker, by_controller}
use Rattle.map_port.specs.Exchanges.{Exchange}
use Rattle.shard_port.specs.Sessions.{exchange_entry}
use Rattle.conntrack.specs.declared.records.BackendRecord.{BackendRecord}
use Rattle.conntrack.specs.declared.records.TunnelRecord.{TunnelRecord}
use Rattle.conntrack.specs.declared.steering_maps.SteeringMap.{SteeringMap}
use Rattle.conntrack.specs.declared.steering_maps.SteeringMap.TheVariants.{Vips, Flows, Backends, Ctl, Stats}
use Rattle.conntrack.specs.Layouts.{flow_bytes, backend_of, tunnel_of}
use Rattle.conntrack.specs.Steering.{SteeringSizes, service_bytes_of, count_call}
use Rattle.conntrack.specs.SteeringMaps.{map_place, map_kind, defined}
use Rattle.steered_replays.specs.SteeredRuns.{EndsByRule}
use Rattle.steered_replays.specs.StickyFlows.{noting_entry, RunOfNoted}
use Rattle.semantics.specs.declared.call.Caller.TheVariants.{Controller}

-- one shard to a map
abbrev pub sticky_sizes : SteeringSizes
sticky_sizes = record { shards = 1; size = 7 }

-- UDP from 10.0.0.9, port 1000, to 10.0.0.1, port 80; the packet has 28 bytes
abbrev pub row_frame : FrameView
row_frame =
    input_frame
    (2 ∷ 0 ∷ 0 ∷ 0 ∷ 0 ∷ 1 ∷ 2 ∷ 0 ∷ 0 ∷ 0 ∷ 0 ∷ 9 ∷ 8 ∷ 0
    ∷ 69 ∷ 0 ∷ 0 ∷ 28 ∷ 0 ∷ 0 ∷ 0 ∷ 0 ∷ 64 ∷ 17 ∷ 0 ∷ 0 ∷ 10 ∷ 0 ∷ 0 ∷ 9 ∷ 10 ∷ 0 ∷ 0 ∷ 1
    ∷ 3 ∷ 232 ∷ 0 ∷ 80 ∷ 0 ∷ 8 ∷ 0 ∷ 0 ∷ [])

abbrev pub row_key : List ℕ
row_key = flow_bytes_of row_frame.bytes

-- the shard of a map, for one worker
abbrev pub sticky_plan : SteeringMap → ℕ → ℕ → ShardPlan
sticky_plan map key_size max_entries = record {
  number = map_place map;
  part = 0;
  parts = 1;
  definition = defined (map_kind map) key_size 8 max_entries;
  workers = 1;
  reserve = 16;
}

abbrev pub row_cell : SteeringMap → ℕ → CellRef
row_cell map id = record { shard = map_place map; id = id }

-- backend 2 at 10.0.1.2, up
abbrev pub row_record : List ℕ
row_record = 10 ∷ 0 ∷ 1 ∷ 2 ∷ 1 ∷ 0 ∷ 0 ∷ 0 ∷ []

abbrev pub row_backend : BackendRecord
row_backend = backend_of (bytes_of_number 8 (number_of_bytes row_record))

-- the tunnel's words: its state first in the run's order
abbrev pub row_tunnel : TunnelRecord
row_tunnel = tunnel_of (bytes_of_number 8 1 ++ (bytes_of_number 8 2 ++ bytes_of_number 8 1))

-- ---- what the run asks

abbrev pub row_guards : List Exchange
row_guards =
    (record { call = Lookup 0 (service_bytes_of row_frame.bytes); reply = Cell (row_cell Vips 0) })
    ∷ (record { call = Load (row_cell Vips 0) 0 8; reply = Word 0 })
    ∷ (record { call = Lookup 4 (bytes_of_number 4 0); reply = Cell (row_cell Ctl 0) })
    ∷ (record { call = Load (row_cell Ctl 0) 16 8; reply = Word 1 })
    ∷ (record { call = Load (row_cell Ctl 0) 0 8; reply = Word 1 })
    ∷ (record { call = Load (row_cell Ctl 0) 8 8; reply = Word 2 })
    ∷ []

abbrev pub row_flow_lookup : Exchange
row_flow_lookup = record { call = Lookup 1 row_key; reply = Cell (row_cell Flows 0) }

abbrev pub row_flow_load : Exchange
row_flow_load = record { call = Load (row_cell Flows 0) 0 8; reply = Word 2 }

abbrev pub row_backend_lookup : Exchange
row_backend_lookup = record { call = Lookup 3 (bytes_of_number 4 2); reply = Cell (row_cell Backends 2) }

abbrev pub row_backend_load : Exchange
row_backend_load = record { call = Load (row_cell Backends 2) 0 8; reply = Word (number_of_bytes row_record) }

abbrev pub row_count : List Exchange
row_count =
    (record { call = Lookup 5 (bytes_of_number 4 3); reply = Cell (row_cell Stats 3) })
    ∷ (record { call = count_call (row_cell Stats 3); reply = Word 0 })
    ∷ []

abbrev pub row_exchanges : List Exchange
row_exchanges = row_guards ++ row_flow_lookup ∷ row_flow_load ∷ row_backend_lookup ∷ row_backend_load ∷ row_count

-- ---- the histories, the newest entry first

-- after the note
abbrev pub row_since : List Entry
row_since =
    by_worker (Enter 1) Entered
    ∷ by_controller (Update 1 (replicate 16 7) (flow_bytes (record { backend = 5 })) 0) (Answer (pos 0))
    ∷ []

abbrev pub row_flows_before : List Entry
row_flows_before = row_since ++ noting_entry Controller 1 row_key 2 0 ∷ []

abbrev pub row_flows : List Entry
row_flows = exchange_entry 0 row_flow_load ∷ exchange_entry 0 row_flow_lookup ∷ row_flows_before

abbrev pub row_backends_before : List Entry
row_backends_before =
    by_worker (Enter 3) Entered ∷ by_controller (Update 3 (bytes_of_number 4 2) row_record 0) (Answer (pos 0)) ∷ []

abbrev pub row_backends : List Entry
row_backends = exchange_entry 0 row_backend_load ∷ exchange_entry 0 row_backend_lookup ∷ row_backends_before

-- the run ends by the rule, and is one of a flow that is noted
pub record StickyRow : Type 0 where
  pub left : FrameView
  pub ends : EndsByRule sticky_sizes row_frame row_exchanges Tx left
  pub run : RunOfNoted row_frame row_tunnel 2 row_backend 0 row_exchanges
  -- in these histories, of a shard of flows and one of backends
  pub flows_plan : run.flows ≡ sticky_plan Flows 16 4096
  pub flows_are : run.flows_history ≡ row_flows
  pub backends_plan : run.backends ≡ sticky_plan Backends 4 256
  pub backends_are : run.backends_history ≡ row_backends
