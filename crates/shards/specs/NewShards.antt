-- Shards that were opened and have no callers yet, and the seats that wait for callers.
use Rattle.std.specs.Prelude.{◌≡◌, ◌<◌, ◌≤◌, ℕ, ◌+◌, ◌*◌, Bool, false, true, List, [], ◌∷◌, length, Some, slice_index_or}
use Rattle.atomic_table.specs.Seated.{TableId}
use Rattle.atomic_table.specs.declared.badge.Badge.{Badge}
use Rattle.ebpf_decode.specs.declared.map.MapDef.{MapDef}
use Rattle.semantics.specs.declared.call.Caller.{Caller}
use Rattle.semantics.specs.declared.options.Options.{Options}
use Rattle.semantics.specs.declared.plan.ShardPlan.{ShardPlan}
use Rattle.semantics.specs.ShardPlan.{plan_at, AreOptions}
use Rattle.shard_core.specs.JournaledShard.{JournaledShard, opened_shard}
use Rattle.journals.specs.JournalsView.{AreImageMaps}
use Rattle.shards.specs.declared.rule.Known.{Known}
use Rattle.shards.specs.declared.deeds.Account.{Account}
use Rattle.shards.specs.declared.deeds.OrderPart.TheVariants.{ByCaller}
use Rattle.shards.specs.GuardedView.{KeyedPlan}
use Rattle.shards.specs.LockRule.{lock_place, caller_at, pass_of, no_plan, no_table}
use Rattle.shards.specs.OrderRule.{IsFresh, order_place_at}
use Rattle.shards.specs.Passes.{badge_at}
use Rattle.semantics.specs.Each.{Each}
use Rattle.shards.specs.ShardPasses.{ShardPassView}
use Rattle.shards.specs.HeldCells.{HeldIds, most_held, room_at, room_of, IsRoomOf}

-- ---- one shard

-- a seat of a caller that has done nothing
pub record IsNewBadge (table : TableId) (key : KeyedPlan) (who : Caller) (badge : Badge Known) : Type 0 where
  pub table_is : badge.table_id ≡ table
  pub fresh : badge.views ≡ pass_of key who [] [] ∷ []

-- a seat for each caller by its place
abbrev pub AreNewSeats : TableId → KeyedPlan → List (Badge Known) → Type 0
AreNewSeats table key seats = (place : ℕ) → place < length seats → IsNewBadge table key (caller_at place) (badge_at seats place)

-- nothing has happened in the shard, and there is room for as many cells as a worker can hold
pub record IsNew (key : KeyedPlan) (table : TableId) (seats : List (Badge Known)) (room : ℕ) : Type 0 where
  pub some_word : lock_place < table.words
  pub one_slot : table.slots ≡ 1
  pub seats_are : AreNewSeats table key seats
  pub enough : most_held key.plan ≤ room

-- what contracts see of it
pub record NewShardView : Type 0 where
  pub plan : ShardPlan
  -- the names of the order of all deeds, and of the shard's word
  pub order : TableId
  pub table : TableId
  -- how many seats wait
  pub places : ℕ

abbrev pub no_shard : NewShardView
no_shard = record { plan = no_plan; order = no_table; table = no_table; places = 0 }

abbrev pub new_at : List NewShardView → ℕ → NewShardView
new_at shards number = slice_index_or shards number no_shard

-- ---- all of them

pub record OpenedShards : Type 0 where
  pub maps : List MapDef
  pub options : Options
  pub shards : List NewShardView
  -- the name of the order of all deeds
  pub order : TableId

-- each shard as its plan has it, with seats for controller, reclaimer and workers
pub record IsOpening (maps : List MapDef) (options : Options) (order : TableId) (shards : List NewShardView) : Type 0 where
  pub maps_are : AreImageMaps maps
  pub options_fit : AreOptions maps options
  pub count : length shards ≡ length maps * options.shards
  pub plans : (number : ℕ) → number < length shards → plan_at maps options number ≡ Some (new_at shards number).plan
  pub places : (number : ℕ) → number < length shards → (new_at shards number).places ≡ options.workers + 2
  pub orders : (number : ℕ) → number < length shards → (new_at shards number).order ≡ order

-- the names that a program picks for them
pub record IsNamed (count : ℕ) (table : ℕ → TableId) (plan : ℕ → ShardPlan) (order : TableId) (opened : OpenedShards) : Type 0 where
  pub count_is : count ≡ length opened.shards
  pub table_is : (number : ℕ) → table number ≡ (new_at opened.shards number).table
  pub plan_is : (number : ℕ) → plan number ≡ (new_at opened.shards number).plan
  pub order_is : order ≡ opened.order

-- the new shard has these names
pub record IsNamedAt (table : ℕ → TableId) (plan : ℕ → ShardPlan) (order : TableId) (number : ℕ) (new : NewShardView) : Type 0 where
  pub table_is : new.table ≡ table number
  pub plan_is : new.plan ≡ plan number
  pub order_is : new.order ≡ order
  pub number_is : new.plan.number ≡ number

-- ---- seats that wait for their callers: a row for each shard, with a place for each caller

abbrev pub badges_at : List (List (Badge Known)) → ℕ → List (Badge Known)
badges_at rows number = slice_index_or rows number []

abbrev pub is_dealt_at : List Bool → ℕ → Bool
is_dealt_at dealt place = slice_index_or dealt place true

-- the row has the seats of the callers that have none yet
abbrev pub HasSeatsLeft : (ℕ → TableId) → (ℕ → KeyedPlan) → List Bool → ℕ → List (Badge Known) → Type 0
HasSeatsLeft table key dealt number row = (place : ℕ) → is_dealt_at dealt place ≡ false →
    (place < length row) × IsNewBadge (table number) (key number) (caller_at place) (badge_at row place)

pub record IsDealer (table : ℕ → TableId) (key : ℕ → KeyedPlan) (count : ℕ) (rooms : List ℕ)
    (dealt : List Bool) (rows : List (List (Badge Known))) : Type 0 where
  pub sized : length rows ≡ count
  pub waiting : (number : ℕ) → number < count → HasSeatsLeft table key dealt number (badges_at rows number)
  pub roomed : length rooms ≡ count
  pub enough : (number : ℕ) → number < count → IsRoomOf (λ (n : ℕ). (key n).plan) number (room_at rooms number)

-- and at the order: the seats of the callers that have none yet
abbrev pub AreAtOrder : TableId → List Bool → List (Badge (List Account)) → Type 0
AreAtOrder order dealt places = (place : ℕ) → is_dealt_at dealt place ≡ false →
    (place < length places) × IsFresh order (ByCaller (caller_at place)) (order_place_at places place)

-- ---- a caller's part, made of its seat

-- the seat is a caller's that has done nothing, and there is room for as many cells as the caller can hold
pub record IsNewSeat (badge : Badge Known) (held : HeldIds) : Type 0 where
  pub key : KeyedPlan
  pub who : Caller
  pub fresh : badge.views ≡ pass_of key who [] [] ∷ []
  pub room : room_of who (most_held key.plan) ≤ held.room

-- the part has what the seat knew
abbrev pub view_of_known : TableId → Known → ShardPassView
view_of_known table v = record { table = table; key = v.key; who = v.who; has_it = false; view = record { seen = v.seen; own = v.own } }

abbrev pub IsPartOfSeat : Badge Known → ShardPassView → Type 0
IsPartOfSeat badge part = (v : Known) → badge.views ≡ v ∷ [] → part ≡ view_of_known badge.table_id v

-- ---- how they are made

abbrev pub shard_at : List JournaledShard → ℕ → JournaledShard
shard_at shards number = slice_index_or shards number (opened_shard no_plan)

-- nothing has happened in the shard
abbrev pub IsUnusedShard : JournaledShard → Type 0
IsUnusedShard shard = shard ≡ opened_shard shard.plan

abbrev pub AreUnused : List JournaledShard → Type 0
AreUnused shards = Each (λ number shard. IsUnusedShard shard) 0 shards

-- the new shard has the plan of the shard that it was made of, and N seats
pub record IsNewShardOf (shards : List JournaledShard) (order : TableId) (callers number : ℕ) (new : NewShardView) : Type 0 where
  pub plan_is : new.plan ≡ (shard_at shards number).plan
  pub places_are : new.places ≡ callers
  pub order_is : new.order ≡ order

-- the row has all seats of the shard that it was made of
pub record HasAllSeats (table : ℕ → TableId) (key : ℕ → KeyedPlan) (shards : List NewShardView) (number : ℕ)
    (row : List (Badge Known)) : Type 0 where
  pub count : length row ≡ (new_at shards number).places
  pub fresh : AreNewSeats (table number) (key number) row
