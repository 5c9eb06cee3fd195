-- What a call of a pass makes of its view of the shard.
use Rattle.std.specs.Prelude.{◌≡◌, ℕ, List, ◌∷◌}
use Rattle.semantics.specs.declared.call.Call.{Call}
use Rattle.semantics.specs.declared.call.Call.TheVariants.{Enter}
use Rattle.semantics.specs.declared.call.Caller.{Caller}
use Rattle.semantics.specs.declared.call.Reply.{Reply}
use Rattle.semantics.specs.declared.call.Entry.{Entry}
use Rattle.semantics.specs.declared.plan.ShardPlan.{ShardPlan}
use Rattle.semantics.specs.History.{IsLegalHistory, IsJournalFull, Meets, entry_of}
use Rattle.journal.specs.Entries.{enter_entry}
use Rattle.shards.specs.CallerView.{CallerView, BeginsWith, ViewIsServed, ViewIsRefused}
use Rattle.shards.specs.declared.stopped.Stopped.{Stopped}
use Rattle.shards.specs.declared.stopped.Stopped.TheVariants.{AtEnter, AtCall}
use Rattle.shards.specs.Passes.{PassView, view_at, own_at}

-- the pass's caller may make the call on the shard of this number: by its own entries alone
abbrev pub PassMayAsk : ShardPlan → ℕ → PassView → Call → Type 0
PassMayAsk plan number pass call = Meets plan (own_at pass number) pass.who call

-- the call was served with this reply
abbrev pub PassIsServed : ShardPlan → ℕ → PassView → PassView → Call → Reply → Type 0
PassIsServed plan number before after call reply =
    ViewIsServed plan (view_at before number) (view_at after number) (entry_of before.who call reply)

-- the journal was full for the call
abbrev pub PassIsRefused : ShardPlan → ℕ → PassView → PassView → Call → Type 0
PassIsRefused plan number before after call = ViewIsRefused plan (view_at before number) (view_at after number) call

-- ---- an Enter and a call that follows it at once

-- the caller may make the call once it has entered
abbrev pub PassMayAskInside : ShardPlan → ℕ → PassView → Call → Type 0
PassMayAskInside plan number pass call = Meets plan (enter_entry number pass.who ∷ own_at pass number) pass.who call

-- both were served, next to each other
pub record AreServed (plan : ShardPlan) (before after : CallerView) (first second : Entry) : Type 0 where
  pub earlier : List Entry
  pub seen : after.seen ≡ second ∷ first ∷ earlier
  pub begins : BeginsWith earlier before.seen
  pub legal : IsLegalHistory plan after.seen
  pub own : after.own ≡ second ∷ first ∷ before.own

-- the first was served, and then the journal was full for the second
pub record IsServedThenRefused (plan : ShardPlan) (before after : CallerView) (first : Entry) (call : Call) : Type 0 where
  pub earlier : List Entry
  pub seen : after.seen ≡ first ∷ earlier
  pub begins : BeginsWith earlier before.seen
  pub legal : IsLegalHistory plan after.seen
  pub full : IsJournalFull plan after.seen call
  pub own : after.own ≡ first ∷ before.own

abbrev pub PassEntersAndIsServed : ShardPlan → ℕ → PassView → PassView → Call → Reply → Type 0
PassEntersAndIsServed plan number before after call reply =
    AreServed plan (view_at before number) (view_at after number) (enter_entry number before.who) (entry_of before.who call reply)

-- which of the two the journal of the shard of this number was full for, and what is left then
abbrev pub IsStoppedAt : ShardPlan → ℕ → CallerView → CallerView → Caller → Call → Stopped → Type 0
IsStoppedAt plan number before after who call (AtEnter full) = ViewIsRefused plan before after (Enter number) × (full.shard ≡ number)
IsStoppedAt plan number before after who call (AtCall full) =
    IsServedThenRefused plan before after (enter_entry number who) call × (full.shard ≡ number)

-- which of the two the journal was full for, and what is left then
abbrev pub PassIsStopped : ShardPlan → ℕ → PassView → PassView → Call → Stopped → Type 0
PassIsStopped plan number before after call stopped =
    IsStoppedAt plan number (view_at before number) (view_at after number) before.who call stopped
