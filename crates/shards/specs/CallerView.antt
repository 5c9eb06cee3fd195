-- What a caller knows of a shard.
use Rattle.std.specs.Prelude.{◌≡◌, List, [], ◌∷◌, ◌++◌, reverse}
use Rattle.semantics.specs.declared.call.Caller.{Caller}
use Rattle.semantics.specs.declared.call.Entry.{Entry}
use Rattle.semantics.specs.declared.plan.ShardPlan.{ShardPlan}
use Rattle.semantics.specs.CallerLaws.{own_entries}
use Rattle.semantics.specs.History.{IsLegalHistory, IsJournalFull}
use Rattle.semantics.specs.declared.call.Call.{Call}
use Rattle.semantics.specs.Entries.{History}

pub record CallerView : Type 0 where
  -- a beginning of the shard's history
  pub seen : History
  -- all entries that the caller made, which are in what was seen
  pub own : History

-- a history begins with an earlier one: newest first, so that one is left where the later entries are gone
abbrev pub BeginsWith : History → History → Type 0
BeginsWith history earlier = (later : History) × (history ≡ later ++ earlier)

abbrev pub nothing_seen : CallerView
nothing_seen = record { seen = []; own = [] }

-- a call was served: what was seen then is legal, begins with what was seen before, and ends with the call; and the call is one more of
-- the caller's own
pub record ViewIsServed (plan : ShardPlan) (before after : CallerView) (entry : Entry) : Type 0 where
  pub earlier : List Entry
  pub seen : after.seen ≡ entry ∷ earlier
  pub begins : BeginsWith earlier before.seen
  pub legal : IsLegalHistory plan after.seen
  pub own : after.own ≡ entry ∷ before.own

-- a call was refused: what was seen then is legal, begins with what was seen before, and leaves the journal no room for the call
pub record ViewIsRefused (plan : ShardPlan) (before after : CallerView) (call : Call) : Type 0 where
  pub begins : BeginsWith after.seen before.seen
  pub legal : IsLegalHistory plan after.seen
  pub full : IsJournalFull plan after.seen call
  pub own : after.own ≡ before.own

-- a look at the shard: what was seen then is legal, and begins with what was seen before
pub record ViewHasLooked (plan : ShardPlan) (before after : CallerView) : Type 0 where
  pub begins : BeginsWith after.seen before.seen
  pub legal : IsLegalHistory plan after.seen
  pub own : after.own ≡ before.own

-- a caller's view, compared with the shard's journal: what was seen is a beginning of it, and own are all of this caller's entries in it
pub record IsSettled (who : Caller) (view : CallerView) (journal : List Entry) : Type 0 where
  pub begins : BeginsWith (reverse journal) view.seen
  pub own : view.own ≡ own_entries who (reverse journal)
