-- What a caller's pass has for one shard.
use Rattle.std.specs.Prelude.{◌≡◌, true, Bool, List}
use Rattle.atomic_table.specs.Seated.{TableId}
use Rattle.atomic_table.specs.declared.owned.Table.{Table}
use Rattle.atomic_table.specs.declared.shared.Seat.{Seat}
use Rattle.semantics.specs.declared.call.Caller.{Caller}
use Rattle.semantics.specs.declared.call.Caller.TheVariants.{Worker}
use Rattle.semantics.specs.declared.call.Entry.{Entry}
use Rattle.semantics.specs.CallerLaws.{own_entries}
use Rattle.semantics.specs.History.{IsLegalHistory}
use Rattle.semantics.specs.Reclamation.{is_inside}
use Rattle.shards.specs.GuardedView.{KeyedPlan, GuardedView}
use Rattle.shards.specs.declared.rule.Known.{Known}
use Rattle.shards.specs.CallerView.{CallerView}
use Rattle.shards.specs.declared.deeds.Account.{Account}
use Rattle.shards.specs.declared.deeds.OrderPart.TheVariants.{ByCaller}
use Rattle.shards.specs.declared.order_rule.OrderKey.{OrderKey}
use Rattle.shards.specs.OrderRule.{IsSeatFor, KnowsShard}
use Rattle.shards.specs.Seats.{IsLockOf, view_of, has_shard, IsHolding}
use Rattle.shards.specs.HeldCells.{HeldIds, AreHeldOf}

-- the table of the shard's word, the shard's plan with the order, the caller, whether it has the shard, and what it has seen
pub record ShardPassView : Type 0 where
  pub table : TableId
  pub key : KeyedPlan
  pub who : Caller
  pub has_it : Bool
  pub view : CallerView

abbrev pub shard_pass_view : Seat GuardedView Known → ShardPassView
shard_pass_view seat = record {
  table = seat.table_id;
  key = seat.me.0.key;
  who = seat.me.0.who;
  has_it = has_shard seat.me;
  view = view_of seat.me;
}

-- a worker's flag says whether it is inside; what the others' flags say is nobody's concern, since they are inside no shard
abbrev pub IsFlagOf : Caller → List Entry → Bool → Type 0
IsFlagOf (Worker number) own flag = flag ≡ is_inside number own
IsFlagOf who own flag = Unit {0}

-- a caller's seat, with or without the shard; a flag, and a list of the cells that the caller holds, by its own entries. Its own entries
-- are all of the caller's in what it has seen, and what it has seen is legal
pub record IsShardPass (seat : Seat GuardedView Known) (inside : Bool) (held : HeldIds) : Type 0 where
  pub seated : seat.me.0.seated ≡ true
  pub acts : seat.me.0.acts ≡ true
  pub holding : IsHolding seat.me.0 seat.me.1
  pub flagged : IsFlagOf seat.me.0.who (view_of seat.me).own inside
  pub held_are : AreHeldOf seat.me.0.who seat.me.0.key.plan (view_of seat.me).own held
  pub knows : (view_of seat.me).own ≡ own_entries seat.me.0.who (view_of seat.me).seen
  pub legal : IsLegalHistory seat.me.0.key.plan (view_of seat.me).seen

-- the same caller at the same shard
pub record IsSameShard (before after : ShardPassView) : Type 0 where
  pub table : after.table ≡ before.table
  pub key : after.key ≡ before.key
  pub plan : after.key.plan ≡ before.key.plan
  pub who : after.who ≡ before.who

-- the caller's part, with the shard or without it, at the lock of its shard; the order knows the shard, and the seat there is the caller's
pub record IsCallerAt {S V P A T Q C U : Type 0} (has_it : Bool) (part : ShardPassView) (who : Caller) (lock : Table S V KeyedPlan P A)
    (order : Table T (List Account) OrderKey Q C) (mine : Seat U (List Account)) : Type 0 where
  pub lock_is : IsLockOf part.table part.key lock
  pub caller : part.who ≡ who
  pub has : part.has_it ≡ has_it
  pub order_is : KnowsShard part.key order
  pub mine_is : IsSeatFor part.key.order (ByCaller who) mine
