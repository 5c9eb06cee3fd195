-- A shard of counts: an array whose only calls were to find counts, to read them, and to add one to one of them. What its cells then hold
-- is how often each was raised.
use Rattle.std.specs.Prelude.{◌≡◌, ◌⊎◌, ℕ, ◌+◌, ◌/◌, ◌<◌, ◌^◌, ◌==◌, List, [], ◌∷◌, if◌then◌else◌}
use Rattle.std.specs.List.{AllByRecursion}
use Rattle.ebpf_decode.specs.declared.map.MapKind.TheVariants.{Array}
use Rattle.semantics.specs.declared.call.Call.{Call}
use Rattle.semantics.specs.declared.call.Call.TheVariants.{Enter, Leave, Lookup, Load, Atomic}
use Rattle.semantics.specs.declared.call.CellRef.{CellRef}
use Rattle.semantics.specs.declared.call.Entry.{Entry}
use Rattle.semantics.specs.declared.call.Reply.TheVariants.{Cell}
use Rattle.semantics.specs.declared.plan.ShardPlan.{ShardPlan}
use Rattle.semantics.specs.History.{IsLegalHistory}
use Rattle.semantics.specs.LittleEndian.{number_of_bytes}
use Rattle.semantics.specs.SequentialShard.{SequentialShard, shard_after, number_in_cell, reply_of}
use Rattle.semantics.specs.ShardPlan.{capacity}
use Rattle.conntrack.specs.Steering.{count_call}

-- ---- calls

-- a call that changes nothing
abbrev pub IsQuiet : Call → Type 0
IsQuiet (Enter number) = Unit {0}
IsQuiet (Leave number) = Unit {0}
IsQuiet (Lookup number key) = Unit {0}
IsQuiet (Load cell offset size) = Unit {0}
IsQuiet call = ⊥

-- or one that adds one to a count
abbrev pub IsCounting : Call → Type 0
IsCounting call = IsQuiet call ⊎ ((cell : CellRef) × (call ≡ count_call cell))

abbrev pub AreCounting : List Entry → Type 0
AreCounting history = AllByRecursion (λ (entry : Entry). IsCounting entry.call) history

-- ---- how often a cell's count was raised

abbrev pub raised_by : ℕ → Call → ℕ
raised_by cell (Atomic ref offset size op value expected) = if ref.id == cell then 1 else 0
raised_by cell call = 0

abbrev pub raised : ℕ → List Entry → ℕ
raised cell [] = 0
raised cell (entry ∷ older) = raised_by cell entry.call + raised cell older

-- ---- the laws

-- in a shard of counts each cell holds how often it was raised
abbrev pub CountsAreExact : Type 0
CountsAreExact =
    (plan : ShardPlan) (history : List Entry) (cell : ℕ) →
    plan.definition.kind ≡ Array → plan.definition.value_size ≡ 8 → cell < capacity plan → plan.reserve < 2 ^ 64 →
    IsLegalHistory plan history → AreCounting history →
    number_in_cell (shard_after plan history) cell 0 8 ≡ raised cell history

-- an array's shard answers each lookup of an index below its entries with that index's cell
abbrev pub LookupsOfArraysFind : Type 0
LookupsOfArraysFind =
    (plan : ShardPlan) (history : List Entry) (shard : SequentialShard) (number : ℕ) (key : List ℕ) → plan.definition.kind ≡ Array →
    number_of_bytes key < plan.definition.max_entries →
    reply_of plan history shard (Lookup number key) ≡ Cell (record { shard = plan.number; id = number_of_bytes key / plan.parts })
