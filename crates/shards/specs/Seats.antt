-- The seats of a shard's word: alone, and with the shard.
use Rattle.std.specs.Prelude.{◌≡◌, ◌<◌, ◌++◌, ℕ, true, false, Bool, List, [], ◌∷◌, reverse}
use Rattle.atomic_table.specs.Seated.{TableId}
use Rattle.atomic_table.specs.Table.{Me}
use Rattle.atomic_table.specs.declared.owned.Table.{Table}
use Rattle.atomic_table.specs.declared.shared.Seat.{Seat}
use Rattle.semantics.specs.declared.call.Entry.{Entry}
use Rattle.semantics.specs.CallerLaws.{own_entries}
use Rattle.shards.specs.GuardedView.{KeyedPlan, GuardedView}
use Rattle.shards.specs.declared.rule.Known.{Known}
use Rattle.shards.specs.CallerView.{CallerView}
use Rattle.shards.specs.LockRule.{lock_place, visiting}
pub use Rattle.shards.specs.LockRule.{no_plan, no_key}

-- ---- the table of a word

-- the table has the word and the one slot
abbrev pub IsLock : {S V K P A : Type 0} → Table S V K P A → Type 0
IsLock lock = (lock_place < lock.shared.table_id.words) × (lock.shared.table_id.slots ≡ 1)

-- it is the table of this name, made for a shard of this plan and for this order
abbrev pub IsLockOf : {S V P A : Type 0} → TableId → KeyedPlan → Table S V KeyedPlan P A → Type 0
IsLockOf table key lock = (lock.shared.table_id ≡ table) × (lock_place < table.words) × (table.slots ≡ 1) × (lock.shared.key ≡ key)

-- ---- a seat

-- what a caller knows of the shard: the shard's whole journal while it has the shard
abbrev pub view_of : Me GuardedView Known → CallerView
view_of (v, []) = record { seen = v.seen; own = v.own }
view_of (v, (x ∷ xs)) = record { seen = reverse x.1.journal; own = own_entries v.who (reverse x.1.journal) }

abbrev pub has_shard : Me GuardedView Known → Bool
has_shard (v, []) = false
has_shard (v, (x ∷ xs)) = true

-- entries of the seat's own caller
abbrev pub AreBy : Known → List Entry → Type 0
AreBy v [] = Unit {0}
AreBy v (entry ∷ older) = (v.acts ≡ true) × (entry.who ≡ v.who) × AreBy v older

-- it has the shard, to whose journal nobody else has added since the lock was taken
pub record HasShard (v : Known) (x : ℕ × GuardedView) (others : List (ℕ × GuardedView)) : Type 0 where
  pub holds : v.holds ≡ true
  pub slot : x.0 ≡ 0
  pub only : others ≡ []
  pub planned : x.1.key ≡ v.key
  pub later : List Entry
  pub grown : reverse x.1.journal ≡ later ++ v.all
  pub made : AreBy v later

abbrev pub IsHolding : Known → List (ℕ × GuardedView) → Type 0
IsHolding v [] = v.holds ≡ false
IsHolding v (x ∷ xs) = HasShard v x xs

-- a seat of this table, alone or with the shard
pub record IsSeatOf (table : TableId) (seat : Seat GuardedView Known) : Type 0 where
  pub table_is : seat.table_id ≡ table
  pub seated : seat.me.0.seated ≡ true
  pub holding : IsHolding seat.me.0 seat.me.1

-- a visitor that has this shard
pub record IsVisitor (table : TableId) (key : KeyedPlan) (history : List Entry) (seat : Seat GuardedView Known) : Type 0 where
  pub table_is : seat.table_id ≡ table
  pub shard : GuardedView
  pub planned : shard.key ≡ key
  pub written : reverse shard.journal ≡ history
  pub has : seat.me ≡ (visiting key history, (0, shard) ∷ [])
