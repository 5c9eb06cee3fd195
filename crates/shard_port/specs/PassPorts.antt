-- A worker's port over shards that many callers share: what its calls return, by the worker's pass. Own entries and histories have the
-- newest entry first.
use Rattle.std.specs.Prelude.{◌≡◌, ◌⊎◌, ℕ, zero, suc, ◌<◌, ◌/◌, ◌==◌, Bool, true, false, ◌&&◌, nat_lt, List, [], ◌∷◌, ◌++◌, if◌then◌else◌}
use Rattle.std.specs.Prelude.{IsFalse}
use Rattle.semantics.specs.declared.call.Caller.{Caller}
use Rattle.semantics.specs.declared.call.Caller.TheVariants.{Worker}
use Rattle.semantics.specs.declared.call.Call.{Call}
use Rattle.semantics.specs.declared.call.Call.TheVariants.{Enter}
use Rattle.semantics.specs.declared.call.Reply.{Reply}
use Rattle.semantics.specs.declared.call.Entry.{Entry}
use Rattle.semantics.specs.declared.plan.ShardPlan.{ShardPlan}
use Rattle.semantics.specs.Reclamation.{is_inside}
use Rattle.semantics.specs.History.{shard_of_call, Meets, IsLegalHistory, IsJournalFull}
use Rattle.semantics.specs.RunTrace.{IsReplyTo}
use Rattle.map_port.specs.Served.{Maps, program_over}
use Rattle.shards.specs.declared.deeds.Deed.{Deed}
use Rattle.shards.specs.declared.deeds.Deed.TheVariants.{Wrote, MetFull}
use Rattle.shards.specs.CallerView.{CallerView, BeginsWith, ViewIsServed, ViewIsRefused}
use Rattle.shards.specs.Passes.{PassView, view_at, own_at, IsElsewhereSame}
use Rattle.shards.specs.SharedMaps.{SharedMaps}
use Rattle.shards.specs.HeldCells.{holds_own}
use Rattle.shard_port.specs.Asking.{enter_by, leave_by, asked_entry}
use Rattle.shard_port.specs.PortView.{IsRunCall}

-- the caller is a worker of a number below this
abbrev pub is_worker_below : ℕ → Caller → Bool
is_worker_below most (Worker number) = nat_lt number most
is_worker_below most who = false

-- the worker's number
abbrev pub worker_number : Caller → ℕ
worker_number (Worker number) = number
worker_number who = 0

-- ---- entering and leaving

-- the entry by which the worker enters, if it is not inside
abbrev pub entering_by_own : ℕ → ℕ → List Entry → List Entry
entering_by_own worker number own = if is_inside worker own then [] else enter_by worker number ∷ []

-- its own entries, once it is inside
abbrev pub inside_own : ℕ → ℕ → List Entry → List Entry
inside_own worker number own = entering_by_own worker number own ++ own

-- the deeds by which it enters and leaves, if it is outside or inside
abbrev pub entered_deeds : ℕ → ℕ → List Entry → List Deed
entered_deeds worker number own = if is_inside worker own then [] else Wrote (enter_by worker number) ∷ []

abbrev pub left_deeds : ℕ → ℕ → List Entry → List Deed
left_deeds worker number own = if is_inside worker own then Wrote (leave_by worker number) ∷ [] else []

-- ---- one shard

-- the shard answered the call, which the worker entered before where it was outside: the entries are next to each other at the end of
-- what it has seen, which is legal, and are the new ones of its own
pub record IsAskedAt (plan : ShardPlan) (number worker : ℕ) (before after : CallerView) (call : Call) (reply : Reply) : Type 0 where
  pub earlier : List Entry
  pub begins : BeginsWith earlier before.seen
  pub seen : after.seen ≡ asked_entry worker call reply ∷ entering_by_own worker number before.own ++ earlier
  pub legal : IsLegalHistory plan after.seen
  pub own : after.own ≡ asked_entry worker call reply ∷ inside_own worker number before.own

-- the worker is outside, and the journal had no room for its Enter at the end of what it has seen
pub record CannotEnterAt (plan : ShardPlan) (number worker : ℕ) (before after : CallerView) : Type 0 where
  pub outside : IsFalse (is_inside worker before.own)
  pub refused : ViewIsRefused plan before after (Enter number)

-- the worker is inside, by its Enter where it was outside, and the journal had no room for the call at the end of what it has seen
pub record CannotCallAt (plan : ShardPlan) (number worker : ℕ) (before after : CallerView) (call : Call) : Type 0 where
  pub earlier : List Entry
  pub begins : BeginsWith earlier before.seen
  pub seen : after.seen ≡ entering_by_own worker number before.own ++ earlier
  pub legal : IsLegalHistory plan after.seen
  pub full : IsJournalFull plan after.seen call
  pub own : after.own ≡ inside_own worker number before.own

-- the worker left the shard, if it was inside; a Leave is never refused
abbrev pub ViewHasLeft : Bool → ShardPlan → ℕ → ℕ → CallerView → CallerView → Type 0
ViewHasLeft true plan number worker before after = ViewIsServed plan before after (leave_by worker number)
ViewHasLeft false plan number worker before after = after ≡ before

-- ---- one shard, by the worker's pass

-- once it is inside, the worker may make the call on the shard of this number
abbrev pub MayAskOnceInside : ShardPlan → ℕ → PassView → Call → Type 0
MayAskOnceInside plan number pass call = Meets plan (inside_own (worker_number pass.who) number (own_at pass number)) pass.who call

-- the shard answered the call, and the worker's deeds, newest first, are the call and the Enter before it more
pub record IsAskedBy (plan : ShardPlan) (number : ℕ) (before after : PassView) (call : Call) (reply : Reply) : Type 0 where
  pub at : IsAskedAt plan number (worker_number before.who) (view_at before number) (view_at after number) call reply
  pub did :
      after.deeds ≡ Wrote (asked_entry (worker_number before.who) call reply) ∷
      entered_deeds (worker_number before.who) number (own_at before number) ++ before.deeds

-- its Enter met a full journal
pub record CannotEnterBy (plan : ShardPlan) (number : ℕ) (before after : PassView) : Type 0 where
  pub at : CannotEnterAt plan number (worker_number before.who) (view_at before number) (view_at after number)
  pub did : after.deeds ≡ MetFull before.who (Enter number) ∷ before.deeds

-- its call met one, behind the Enter where it was outside
pub record CannotCallBy (plan : ShardPlan) (number : ℕ) (before after : PassView) (call : Call) : Type 0 where
  pub at : CannotCallAt plan number (worker_number before.who) (view_at before number) (view_at after number) call
  pub did : after.deeds ≡ MetFull before.who call ∷ entered_deeds (worker_number before.who) number (own_at before number) ++ before.deeds

abbrev pub IsTurnedAwayBy : ShardPlan → ℕ → PassView → PassView → Call → Type 0
IsTurnedAwayBy plan number before after call = CannotEnterBy plan number before after ⊎ CannotCallBy plan number before after call

abbrev pub IsLeftBy : ShardPlan → ℕ → PassView → PassView → Type 0
IsLeftBy plan number before after =
    ViewHasLeft (is_inside (worker_number before.who) (own_at before number)) plan number (worker_number before.who) (view_at before number)
    (view_at after number)

-- ---- the port

-- the maps that it serves, and the pass
pub record PassPort : Type 0 where
  pub served : Maps
  pub pass : PassView

-- the maps of shared shards, and how many shards each of them has
abbrev pub served_of : SharedMaps → Maps
served_of shards = record { maps = shards.maps; shards = shards.options.shards }

-- a port over these shards by this pass
abbrev pub port_of : SharedMaps → PassView → PassPort
port_of shards pass = record { served = served_of shards; pass = pass }

-- the shard is one of the map's, and the worker holds the cell there
abbrev pub has_found : PassPort → ℕ → ℕ → ℕ → Bool
has_found port map shard cell = (shard / port.served.shards == map) && holds_own port.pass.who (own_at port.pass shard) cell

-- the worker asked the call's shard, which is one of this many; its views of the others stay
pub record PassGives (plan : ℕ → ShardPlan) (count : ℕ) (before : PassPort) (call : Call) (reply : Reply) (after : PassPort) : Type 0 where
  pub same_maps : after.served ≡ before.served
  pub some_shard : 0 < before.served.shards
  pub within : shard_of_call call < count
  pub elsewhere : IsElsewhereSame (shard_of_call call) before.pass after.pass
  pub is_worker : before.pass.who ≡ Worker (worker_number before.pass.who)
  pub run_call : IsRunCall call
  pub formed : IsReplyTo (program_over before.served) call reply
  pub asked : IsAskedBy (plan (shard_of_call call)) (shard_of_call call) before.pass after.pass call reply

-- the call's shard had no room for the Enter or for the call; its views of the others stay
pub record PassRefuses (plan : ℕ → ShardPlan) (count : ℕ) (before : PassPort) (call : Call) (after : PassPort) : Type 0 where
  pub same_maps : after.served ≡ before.served
  pub within : shard_of_call call < count
  pub elsewhere : IsElsewhereSame (shard_of_call call) before.pass after.pass
  pub is_worker : before.pass.who ≡ Worker (worker_number before.pass.who)
  pub turned_away : IsTurnedAwayBy (plan (shard_of_call call)) (shard_of_call call) before.pass after.pass call

-- the deeds by which it leaves those of N shards that it is inside of, the lowest number first: newest first
abbrev pub all_left_deeds : ℕ → PassView → ℕ → List Deed
all_left_deeds worker pass zero = []
all_left_deeds worker pass (suc number) = left_deeds worker number (own_at pass number) ++ all_left_deeds worker pass number

-- the worker left every one of this many shards that it was inside of
pub record IsFinishedBy (plan : ℕ → ShardPlan) (count : ℕ) (before after : PassView) : Type 0 where
  pub same_caller : after.who ≡ before.who
  pub left : (number : ℕ) → number < count → IsLeftBy (plan number) number before after
  pub did : after.deeds ≡ all_left_deeds (worker_number before.who) before count ++ before.deeds
