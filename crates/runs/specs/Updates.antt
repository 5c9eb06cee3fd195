-- What the controller sets before a run: for each update one entry of its own, in the journal of the shard that the key belongs to.
use Rattle.std.specs.Prelude.{◌≡◌, ◌≢◌, ℕ, ◌*◌, ◌<◌, ◌==◌, ℤ, Bool, false, List, length, map, take, reverse}
use Rattle.std.specs.Prelude.{Option, Some, None, slice_get, slice_set}
use Rattle.std.specs.List.{filter}
use Rattle.ebpf_decode.specs.declared.map.MapDef.{MapDef}
use Rattle.map_updates.specs.declared.update.MapUpdate.{MapUpdate}
use Rattle.semantics.specs.declared.call.Call.{Call}
use Rattle.semantics.specs.declared.call.Caller.TheVariants.{Controller}
use Rattle.semantics.specs.declared.call.Entry.{Entry}
use Rattle.semantics.specs.declared.call.Reply.TheVariants.{Answer}
use Rattle.semantics.specs.declared.options.Options.{Options}
use Rattle.semantics.specs.declared.plan.ShardPlan.{ShardPlan}
use Rattle.semantics.specs.declared.linux.UpdateFlags.TheVariants.{Any}
use Rattle.semantics.specs.Linux.{flags_number, success}
use Rattle.semantics.specs.History.{meets, IsLegalJournal}
use Rattle.semantics.specs.SequentialShard.{update_answer}
use Rattle.semantics.specs.ShardPlan.{plan_at}
use Rattle.shard_core.specs.JournaledShard.{JournaledShard, state_of}
use Rattle.shard_core.specs.Calls.{IsFullFor, shard_with_call}
use Rattle.shard_core.specs.Calls as shard
use Rattle.map_port.specs.Served.{Maps, served_shard, update_call}
use Rattle.shards.specs.NewShards.{shard_at}

-- maps, and how many shards each of them has
abbrev pub served_by : List MapDef → Options → Maps
served_by maps options = record { maps = maps; shards = options.shards }

-- the number of the shard that the update's key belongs to
abbrev pub shard_of_update : Maps → MapUpdate → ℕ
shard_of_update served update = served_shard served update.map update.key

-- the update as a call, whether or not the key is there
abbrev pub call_of_update : Maps → MapUpdate → Call
call_of_update served update = update_call served update.map update.key update.value (flags_number Any)

-- the entry of an update that the map took
abbrev pub entry_of_update : Maps → MapUpdate → Entry
entry_of_update served update = record { who = Controller; call = call_of_update served update; reply = Answer success }

abbrev pub is_update_at : Maps → ℕ → MapUpdate → Bool
is_update_at served number update = shard_of_update served update == number

-- the entries of the updates of the shard of this number, in their order
abbrev pub updates_at : Maps → ℕ → List MapUpdate → List Entry
updates_at served number updates = map (entry_of_update served) (filter (is_update_at served number) updates)

-- a shard in which nothing has happened but these updates
abbrev pub updated_shard : Maps → ℕ → List MapUpdate → ShardPlan → JournaledShard
updated_shard served number updates plan = record { plan = plan; journal = updates_at served number updates }

-- the maps take these updates, one after the other: each is answered 0, and none comes past a full journal
abbrev pub AreTaken : List MapDef → Options → List MapUpdate → Type 0
AreTaken maps options updates =
    (number : ℕ) (plan : ShardPlan) → plan_at maps options number ≡ Some plan →
    IsLegalJournal plan (updates_at (served_by maps options) number updates)

-- the shards of these maps, in which nothing has happened but these updates
pub record AreUpdated (maps : List MapDef) (options : Options) (updates : List MapUpdate) (shards : List JournaledShard) : Type 0 where
  pub count : length shards ≡ length maps * options.shards
  pub planned : (number : ℕ) → number < length shards → plan_at maps options number ≡ Some (shard_at shards number).plan
  pub written : (number : ℕ) → number < length shards →
      (shard_at shards number).journal ≡ updates_at (served_by maps options) number updates
  pub taken : AreTaken maps options updates

-- ---- updates that are refused: the one at this place, after those before it

-- the update at a place, before which all were taken, and its shard as those have left it
pub record IsNext (maps : List MapDef) (options : Options) (updates : List MapUpdate) (place : ℕ) (update : MapUpdate)
    (before : JournaledShard) : Type 0
  where
    pub known : slice_get updates place ≡ Some update
    pub plan : ShardPlan
    pub planned : plan_at maps options (shard_of_update (served_by maps options) update) ≡ Some plan
    pub shard_is :
        before ≡ updated_shard (served_by maps options) (shard_of_update (served_by maps options) update) (take place updates) plan
    pub taken : AreTaken maps options (take place updates)

-- the map's answer to it is no 0
pub record IsRefusedUpdate (maps : List MapDef) (options : Options) (updates : List MapUpdate) (place : ℕ) (answer : ℤ) : Type 0 where
  pub update : MapUpdate
  pub before : JournaledShard
  pub next : IsNext maps options updates place update before
  pub answered : answer ≡ update_answer before.plan (state_of before) update.key (flags_number Any)
  pub no_success : answer ≢ success

-- the journal has no room for it
pub record IsFullForUpdate (maps : List MapDef) (options : Options) (updates : List MapUpdate) (place : ℕ) : Type 0 where
  pub update : MapUpdate
  pub before : JournaledShard
  pub next : IsNext maps options updates place update before
  pub full : IsFullFor before (call_of_update (served_by maps options) update)

-- ---- one update

-- the controller may make the update on this shard
abbrev pub may_update : Option JournaledShard → MapUpdate → Bool
may_update (Some one) update =
    meets one.plan (reverse one.journal) Controller (shard.shard_update_call one update.key update.value (flags_number Any))
may_update None update = false

-- the shard of this number took the update, or gave another answer; either way it has the entry
pub record IsUpdateMade (before : List JournaledShard) (number : ℕ) (update : MapUpdate) (answer : ℤ)
    (after : List JournaledShard) : Type 0 where
  pub one : JournaledShard
  pub known : slice_get before number ≡ Some one
  pub answered : answer ≡ update_answer one.plan (state_of one) update.key (flags_number Any)
  pub legal : IsLegalJournal one.plan
      (shard_with_call one Controller (shard.shard_update_call one update.key update.value (flags_number Any)) (Answer answer)).journal
  pub put_back : after ≡ slice_set before number
      (shard_with_call one Controller (shard.shard_update_call one update.key update.value (flags_number Any)) (Answer answer))

pub record IsFull (before : List JournaledShard) (number : ℕ) (update : MapUpdate) : Type 0 where
  pub one : JournaledShard
  pub known : slice_get before number ≡ Some one
  pub full : IsFullFor one (shard.shard_update_call one update.key update.value (flags_number Any))
