-- A flow stays with its backend, by the states of the shards: what an Update noted for the flow is what a later run finds, as long as
-- nothing in between changed it; and where the noted backend's record says that it is up, the run chooses that backend. Histories have the
-- newest entry first.
use Rattle.std.specs.Prelude.{◌≡◌, ℕ, ◌/◌, ◌<◌, ◌^◌, ◌==◌, Bool, true, false, List, [], ◌∷◌, ◌++◌, Some, None, bytes_eq}
use Rattle.wire.specs.FlowForm.{HasFlow, flow_bytes_of}
use Rattle.wire.specs.FrameView.{FrameView}
use Rattle.ebpf_decode.specs.declared.map.MapKind.TheVariants.{Array, LruHash}
use Rattle.semantics.specs.declared.call.Caller.{Caller}
use Rattle.semantics.specs.declared.call.Call.{Call}
use Rattle.semantics.specs.declared.call.Call.TheVariants.{Lookup, Store, Atomic, Update, Delete}
use Rattle.semantics.specs.declared.call.CellRef.{CellRef}
use Rattle.semantics.specs.declared.call.Entry.{Entry}
use Rattle.semantics.specs.declared.call.Reply.{Reply}
use Rattle.semantics.specs.declared.call.Reply.TheVariants.{Cell, Word, Answer}
use Rattle.semantics.specs.declared.plan.PresentKey.{PresentKey}
use Rattle.semantics.specs.declared.plan.ShardPlan.{ShardPlan}
use Rattle.semantics.specs.declared.verdict.Verdict.{Verdict}
use Rattle.semantics.specs.declared.verdict.Verdict.TheVariants as V
use Rattle.semantics.specs.History.{IsLegalHistory}
use Rattle.semantics.specs.LeastRecentlyUsed.{least_recently_used}
use Rattle.semantics.specs.Linux.{success}
use Rattle.semantics.specs.LittleEndian.{bytes_of_number}
use Rattle.semantics.specs.SequentialShard.{shard_after, cell_of_key, number_in_cell, update_answer, is_full_of_keys, reply_of}
use Rattle.map_port.specs.Exchanges.{Exchange, replies_in}
use Rattle.block_runs.specs.Plan.{plan_after}
use Rattle.shard_port.specs.Sessions.{exchange_entry}
use Rattle.ipip.specs.Encapsulation.{encapsulated_frame}
use Rattle.conntrack.specs.declared.choosing.Choice.TheVariants.{Tx}
use Rattle.conntrack.specs.declared.records.BackendRecord.{BackendRecord}
use Rattle.conntrack.specs.declared.records.TunnelRecord.{TunnelRecord}
use Rattle.conntrack.specs.Layouts.{flow_bytes, vip_of, backend_of, tunnel_of}
use Rattle.conntrack.specs.Steering.{SteeringSizes, steering, ending}
use Rattle.conntrack.specs.SteeringRule.{fits_tunnel, tunnel_to}
use Rattle.steered_replays.specs.SteeredRuns.{EndsByRule}

-- ---- what changes a note

-- the call puts or removes the key
abbrev pub is_of_key : List ℕ → Call → Bool
is_of_key key (Update shard asked value flags) = bytes_eq asked key
is_of_key key (Delete shard asked) = bytes_eq asked key
is_of_key key call = false

-- the call writes into the cell
abbrev pub writes_into : ℕ → Call → Bool
writes_into cell (Store ref offset size value) = ref.id == cell
writes_into cell (Atomic ref offset size op value expected) = ref.id == cell
writes_into cell call = false

-- the call evicts the key: it adds another one to a shard that is full of keys, and of these this one was used longest ago
pub record Evicts (plan : ShardPlan) (history : List Entry) (key : List ℕ) (call : Call) : Type 0 where
  pub shard : ℕ
  pub asked : List ℕ
  pub value : List ℕ
  pub flags : ℕ
  pub call_is : call ≡ Update shard asked value flags
  pub absent : cell_of_key plan (shard_after plan history) asked ≡ None
  pub added : update_answer plan (shard_after plan history) asked flags ≡ success
  pub full : is_full_of_keys plan (shard_after plan history) ≡ true
  pub gone : PresentKey
  pub longest_ago : least_recently_used history (shard_after plan history).present ≡ Some gone
  pub is_key : gone.key ≡ key

-- the call, made after this history, leaves the key's cell and what is in it
pub record LeavesNote (plan : ShardPlan) (key : List ℕ) (cell : ℕ) (history : List Entry) (call : Call) : Type 0 where
  pub other_key : is_of_key key call ≡ false
  pub other_cell : writes_into cell call ≡ false
  pub no_eviction : ¬ Evicts plan history key call

-- and so do all of these entries, which follow a history
abbrev pub AllLeaveNote : ShardPlan → List ℕ → ℕ → List Entry → List Entry → Type 0
AllLeaveNote plan key cell [] history = Unit {0}
AllLeaveNote plan key cell (entry ∷ older) history =
    LeavesNote plan key cell (older ++ history) entry.call × AllLeaveNote plan key cell older history

-- ---- notes

-- an Update that notes a backend under a key
abbrev pub noting_entry : Caller → ℕ → List ℕ → ℕ → ℕ → Entry
noting_entry who shard key number flags =
    record { who = who; call = Update shard key (flow_bytes (record { backend = number })) flags; reply = Answer success }

-- At the end of the history the backend of this number is noted under the key, in this cell: an Update noted it, and no entry since
-- changed that.
pub record IsBackendNoted (plan : ShardPlan) (key : List ℕ) (number cell : ℕ) (history : List Entry) : Type 0 where
  pub who : Caller
  pub shard : ℕ
  pub flags : ℕ
  pub since : List Entry
  pub before : List Entry
  pub history_is : history ≡ since ++ noting_entry who shard key number flags ∷ before
  pub fits : number < 2 ^ 32
  pub put_in : cell_of_key plan (shard_after plan (noting_entry who shard key number flags ∷ before)) key ≡ Some cell
  pub untouched : AllLeaveNote plan key cell since (noting_entry who shard key number flags ∷ before)

-- in a legal history of an LRU map's shard a lookup of the key then finds the cell, and the cell holds the backend's number
abbrev pub NotesAreFound : Type 0
NotesAreFound =
    (plan : ShardPlan) (history : List Entry) (key : List ℕ) (number cell : ℕ) →
    plan.definition.kind ≡ LruHash → IsLegalHistory plan history → IsBackendNoted plan key number cell history →
    ((shard : ℕ) → reply_of plan history (shard_after plan history) (Lookup shard key) ≡ Cell (record { shard = plan.number; id = cell }))
    × (number_in_cell (shard_after plan history) cell 0 8 ≡ number)

-- ---- a run of the flow

-- the frame has a flow whose packet gets through the tunnel, and by these replies, a run's first, it is for a tracked service and the
-- tunnel is set up
pub record GetsPastGuards (frame : List ℕ) (tunnel : TunnelRecord) (replies : List Reply) : Type 0 where
  pub has_flow : HasFlow frame
  pub fits : fits_tunnel frame ≡ true
  pub service_cell : CellRef
  pub flags : ℕ
  pub tunnel_cell : CellRef
  pub state : ℕ
  pub source : ℕ
  pub macs : ℕ
  pub replies_are : replies ≡ Cell service_cell ∷ Word flags ∷ Cell tunnel_cell ∷ Word state ∷ Word source ∷ Word macs ∷ []
  pub is_tracked : (vip_of (bytes_of_number 8 flags)).is_notrack ≡ false
  pub tunnel_is : tunnel ≡ tunnel_of (bytes_of_number 8 source ++ (bytes_of_number 8 macs ++ bytes_of_number 8 state))
  pub is_ready : tunnel.is_ready ≡ true

-- The legal history of a shard of flows has these two exchanges of the worker, while the backend of this number is noted under the key.
pub record StandsNoted (plan : ShardPlan) (history : List Entry) (worker : ℕ) (key : List ℕ) (number : ℕ) (lookup load : Exchange) : Type 0
  where
    pub kind_is : plan.definition.kind ≡ LruHash
    pub legal : IsLegalHistory plan history
    pub later : List Entry
    pub between : List Entry
    pub earlier : List Entry
    pub history_is : history ≡ later ++ exchange_entry worker load ∷ (between ++ exchange_entry worker lookup ∷ earlier)
    pub cell : ℕ
    pub noted : IsBackendNoted plan key number cell earlier
    pub untouched : AllLeaveNote plan key cell between (exchange_entry worker lookup ∷ earlier)

-- The legal history of a shard of backends has these two exchanges of the worker, and when the second is made the record of this number
-- says that the backend is up.
pub record StandsUp (plan : ShardPlan) (history : List Entry) (worker number : ℕ) (backend : BackendRecord)
    (lookup load : Exchange) : Type 0
  where
    pub kind_is : plan.definition.kind ≡ Array
    pub legal : IsLegalHistory plan history
    pub later : List Entry
    pub between : List Entry
    pub earlier : List Entry
    pub history_is : history ≡ later ++ exchange_entry worker load ∷ (between ++ exchange_entry worker lookup ∷ earlier)
    pub is_index : number < plan.definition.max_entries
    pub record_is :
        backend
        ≡ backend_of (bytes_of_number 8
        (number_in_cell (shard_after plan (between ++ exchange_entry worker lookup ∷ earlier)) (number / plan.parts) 0 8))
    pub is_up : backend.is_up ≡ true

-- A run of a flow that is noted: it gets past the guards, and its next four exchanges, its Lookup of the flow and the Load of the
-- note, the Lookup of a backend and the Load of its record, are in the shards' histories.
pub record RunOfNoted (frame : FrameView) (tunnel : TunnelRecord) (number : ℕ) (backend : BackendRecord) (worker : ℕ)
    (exchanges : List Exchange) : Type 0 where
  pub guards : List Exchange
  pub flow_lookup : Exchange
  pub flow_load : Exchange
  pub backend_lookup : Exchange
  pub backend_load : Exchange
  pub last : List Exchange
  pub exchanges_are : exchanges ≡ guards ++ flow_lookup ∷ flow_load ∷ backend_lookup ∷ backend_load ∷ last
  pub past : GetsPastGuards frame.bytes tunnel (replies_in guards)
  pub flows : ShardPlan
  pub flows_history : List Entry
  pub noted : StandsNoted flows flows_history worker (flow_bytes_of frame.bytes) number flow_lookup flow_load
  pub backends : ShardPlan
  pub backends_history : List Entry
  pub up : StandsUp backends backends_history worker number backend backend_lookup backend_load

-- the run chooses this backend, and does not note it anew
pub record ChoosesNoted (sizes : SteeringSizes) (frame : FrameView) (tunnel : TunnelRecord) (number : ℕ) (backend : BackendRecord)
    (exchanges : List Exchange) (verdict : Verdict) (left : FrameView) : Type 0 where
  pub asked : List Exchange
  pub last : List Exchange
  pub exchanges_are : exchanges ≡ asked ++ last
  pub chosen : plan_after (steering sizes frame) (replies_in asked) ≡ ending sizes frame (Some tunnel) (Tx number backend.address false)
  pub verdict_is : verdict ≡ V.Tx
  pub left_is : left ≡ encapsulated_frame (tunnel_to tunnel backend.address) frame

-- every run of the rule that is one of a flow that is noted chooses the noted backend
abbrev pub NotedFlowsStick : Type 0
NotedFlowsStick =
    (sizes : SteeringSizes) (frame : FrameView) (tunnel : TunnelRecord) (number : ℕ) (backend : BackendRecord) (worker : ℕ)
    (exchanges : List Exchange) (verdict : Verdict) (left : FrameView) →
    EndsByRule sizes frame exchanges verdict left → RunOfNoted frame tunnel number backend worker exchanges →
    ChoosesNoted sizes frame tunnel number backend exchanges verdict left
