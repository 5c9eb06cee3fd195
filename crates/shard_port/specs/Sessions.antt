-- What a run leaves in the journals: for each shard that it called, one session with an Enter, the calls, and a Leave.
use Rattle.std.specs.Prelude.{◌≡◌, ◌⊎◌, ℕ, ◌==◌, Bool, List, [], ◌∷◌, ◌++◌, map, Some, slice_get, slice_set, IsFalse}
use Rattle.std.specs.List.{filter}
use Rattle.ebpf_decode.specs.declared.map.MapDef.{MapDef}
use Rattle.semantics.specs.declared.options.Options.{Options}
use Rattle.semantics.specs.declared.call.Call.{Call}
use Rattle.semantics.specs.declared.call.Entry.{Entry}
use Rattle.semantics.specs.History.{shard_of_call, IsLegalJournal}
use Rattle.shard_core.specs.JournaledShard.{JournaledShard, shard_with_entry}
use Rattle.shards.specs.Opening.{AreOpened}
use Rattle.map_port.specs.Exchanges.{Exchange, IsChain}
use Rattle.shard_port.specs.Asking.{is_in, enter_by, leave_by, asked_entry, all_left}
use Rattle.shard_port.specs.PortView.{ServesMaps, SetsBytes}
use Rattle.shard_port.specs.declared.plain.PlainPort.{PlainPort}
use Rattle.shard_port.specs.PlainPorts.{IsSamePort, PortGives, PortRefuses}

abbrev pub exchange_entry : ℕ → Exchange → Entry
exchange_entry worker exchange = asked_entry worker exchange.call exchange.reply

abbrev pub is_asked_of : ℕ → Exchange → Bool
is_asked_of number exchange = shard_of_call exchange.call == number

-- the entries of the exchanges with the shard of this number, in order
abbrev pub exchange_entries : ℕ → ℕ → List Exchange → List Entry
exchange_entries worker number exchanges = map (exchange_entry worker) (filter (is_asked_of number) exchanges)

-- entries behind the Enter that the first of them asks for
abbrev pub behind_enter : ℕ → ℕ → List Entry → List Entry
behind_enter worker number [] = []
behind_enter worker number (first ∷ later) = enter_by worker number ∷ first ∷ later

-- and before the Leave
abbrev pub session : ℕ → ℕ → List Entry → List Entry
session worker number [] = []
session worker number (first ∷ later) = enter_by worker number ∷ first ∷ later ++ leave_by worker number ∷ []

abbrev pub with_entries : JournaledShard → List Entry → JournaledShard
with_entries shard entries = record { plan = shard.plan; journal = shard.journal ++ entries }

-- the worker entered the shard for this call alone, which was refused there
pub record IsVisited (worker : ℕ) (after : PlainPort) (number : ℕ) (shard : JournaledShard) (entries : List Entry) (call : Call) : Type 0
  where
    pub own : shard_of_call call ≡ number
    pub first_call : entries ≡ []
    pub finished : slice_get (all_left after.worker after.shards.now) number ≡ Some
        (with_entries shard (enter_by worker shard.plan.number ∷ leave_by worker shard.plan.number ∷ []))

-- ---- the laws

-- from a port whose worker is outside a shard: what was asked of the shard and what it answered is what its journal then has
-- more, behind one Enter; and before one Leave once the port is finished
abbrev pub WritesSessions : Type 0
WritesSessions =
    (before after : PlainPort) (exchanges : List Exchange) → IsChain PortGives before exchanges after →
    (number : ℕ) (shard : JournaledShard) → slice_get before.shards.now number ≡ Some shard → IsFalse (is_in before.worker shard) →
    (slice_get after.shards.now number ≡ Some
    (with_entries shard (behind_enter before.worker shard.plan.number (exchange_entries before.worker number exchanges))))
    × (slice_get (all_left after.worker after.shards.now) number ≡ Some
    (with_entries shard (session before.worker shard.plan.number (exchange_entries before.worker number exchanges))))

-- where the run ended because a call was refused: the same, except that the shard of this call, if it was the first there, may
-- have an Enter and a Leave with no call between
abbrev pub WritesRefusedSessions : Type 0
WritesRefusedSessions =
    (before middle after : PlainPort) (exchanges : List Exchange) (call : Call) →
    IsChain PortGives before exchanges middle → PortRefuses middle call after →
    (number : ℕ) (shard : JournaledShard) → slice_get before.shards.now number ≡ Some shard → IsFalse (is_in before.worker shard) →
    (slice_get (all_left after.worker after.shards.now) number ≡ Some
    (with_entries shard (session before.worker shard.plan.number (exchange_entries before.worker number exchanges))))
    ⊎ IsVisited before.worker after number shard (exchange_entries before.worker number exchanges) call

-- calls leave a port over the same shards, maps and options, for the same worker
abbrev pub StaysOnePort : Type 0
StaysOnePort = (before after : PlainPort) (exchanges : List Exchange) → IsChain PortGives before exchanges after → IsSamePort before after

-- a port that is finished has left every shard
abbrev pub IsOutsideAll : Type 0
IsOutsideAll = (worker : ℕ) (shards : List JournaledShard) (number : ℕ) (shard : JournaledShard) →
    slice_get (all_left worker shards) number ≡ Some shard → IsFalse (is_in worker shard)

-- a worker's session leaves every other worker inside or outside, as it was
abbrev pub LeavesOthersAlone : Type 0
LeavesOthersAlone =
    (worker other number : ℕ) (shard : JournaledShard) (exchanges : List Exchange) → IsFalse (worker == other) →
    is_in other (with_entries shard (session worker shard.plan.number (exchange_entries worker number exchanges))) ≡ is_in other shard

-- shards that were opened are those of the maps, and stay that by every call that sets bytes, of any caller
abbrev pub OpenedServe : Type 0
OpenedServe = (maps : List MapDef) (options : Options) (shards : List JournaledShard) → AreOpened maps options shards →
    ServesMaps maps options shards

-- and nobody is inside one that was opened
abbrev pub OpenedAreOutside : Type 0
OpenedAreOutside =
    (maps : List MapDef) (options : Options) (shards : List JournaledShard) (worker number : ℕ) (shard : JournaledShard) →
    AreOpened maps options shards →
    slice_get shards number ≡ Some shard → IsFalse (is_in worker shard)

abbrev pub CallsKeepServing : Type 0
CallsKeepServing =
    (maps : List MapDef) (options : Options) (shards : List JournaledShard) (number : ℕ) (shard : JournaledShard) (entry : Entry) →
    ServesMaps maps options shards → slice_get shards number ≡ Some shard → SetsBytes entry.call →
    IsLegalJournal shard.plan (shard_with_entry shard entry).journal → ServesMaps maps options (slice_set shards number (shard_with_entry shard entry))
