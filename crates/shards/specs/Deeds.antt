-- What all callers did on all shards, in one order: the newest deed first.
use Rattle.std.specs.Prelude.{◌≡◌, ℕ, ◌==◌, ◌<◌, Bool, true, List, [], ◌∷◌, ◌++◌, filter, Result, Ok, Err}
use Rattle.std.specs.List.{AllByRecursion}
use Rattle.semantics.specs.declared.call.Caller.{Caller}
use Rattle.semantics.specs.declared.call.Call.{Call}
use Rattle.semantics.specs.declared.call.Call.TheVariants.{Enter}
use Rattle.semantics.specs.declared.call.Reply.{Reply}
use Rattle.semantics.specs.declared.full.JournalFull.{JournalFull}
use Rattle.semantics.specs.declared.call.Entry.{Entry}
use Rattle.semantics.specs.declared.plan.ShardPlan.{ShardPlan}
use Rattle.semantics.specs.CallerLaws.{is_caller}
use Rattle.semantics.specs.History.{shard_of_call, IsJournalFull, entry_of}
use Rattle.journal.specs.Entries.{enter_entry}
use Rattle.shards.specs.declared.stopped.Stopped.{Stopped}
use Rattle.shards.specs.declared.stopped.Stopped.TheVariants.{AtEnter, AtCall}
use Rattle.shards.specs.declared.deeds.Deed.{Deed}
use Rattle.shards.specs.declared.deeds.Deed.TheVariants.{Wrote, MetFull}
use Rattle.shards.specs.declared.deeds.OrderPart.{OrderPart}
use Rattle.shards.specs.declared.deeds.OrderPart.TheVariants.{OnShard, ByCaller, AtFirst}
use Rattle.semantics.specs.Entries.{NewestFirst}

abbrev pub shard_of_deed : Deed → ℕ
shard_of_deed (Wrote entry) = shard_of_call entry.call
shard_of_deed (MetFull who call) = shard_of_call call

abbrev pub caller_of_deed : Deed → Caller
caller_of_deed (Wrote entry) = entry.who
caller_of_deed (MetFull who call) = who

abbrev pub is_deed_of : OrderPart → Deed → Bool
is_deed_of (OnShard number) deed = shard_of_deed deed == number
is_deed_of (ByCaller who) deed = is_caller who (caller_of_deed deed)
is_deed_of AtFirst deed = true

-- the deeds of one part, in their order
abbrev pub deeds_of : OrderPart → List Deed → List Deed
deeds_of part deeds = filter (is_deed_of part) deeds

-- the entries of deeds, in their order, and those on the shard of a number
abbrev pub entries_made : List Deed → List Entry
entries_made [] = []
entries_made (Wrote entry ∷ others) = entry ∷ entries_made others
entries_made (MetFull who call ∷ others) = entries_made others

abbrev pub is_of_shard : ℕ → Entry → Bool
is_of_shard number entry = shard_of_call entry.call == number

abbrev pub made_on : ℕ → List Deed → List Entry
made_on number deeds = filter (is_of_shard number) (entries_made deeds)

-- a deed that met a full journal met one, where its shard has this history
abbrev pub IsMetBehind : (ℕ → ShardPlan) → Deed → List Entry → Type 0
IsMetBehind plan (Wrote entry) history = Unit {0}
IsMetBehind plan (MetFull who call) history = IsJournalFull (plan (shard_of_call call)) history call

-- each deed that met a full journal met one: behind the entries that were made there earlier
abbrev pub AreMet : (ℕ → ShardPlan) → NewestFirst Deed → Type 0
AreMet plan [] = Unit {0}
AreMet plan (deed ∷ earlier) = IsMetBehind plan deed (made_on (shard_of_deed deed) earlier) × AreMet plan earlier

-- the order begins with these deeds: newest first, so that these are left where all later ones are gone
abbrev pub AreFirst : NewestFirst Deed → NewestFirst Deed → Type 0
AreFirst first all = (later : NewestFirst Deed) × (all ≡ later ++ first)

-- each is a deed on one of N shards
abbrev pub AreDeedsWithin : ℕ → List Deed → Type 0
AreDeedsWithin count deeds = AllByRecursion (λ (deed : Deed). shard_of_deed deed < count) deeds

-- ---- what a call makes of them

-- a call was served with this answer, or met a full journal
abbrev pub deed_by : {A : Type 0} → Caller → Call → (A → Reply) → Result A JournalFull → Deed
deed_by who call replies (Ok answer) = Wrote (entry_of who call (replies answer))
deed_by who call replies (Err full) = MetFull who call

-- an Enter and a call behind it, the newest first
abbrev pub deeds_by_both : {A : Type 0} → ℕ → Caller → Call → (A → Reply) → Result A Stopped → List Deed
deeds_by_both number who call replies (Ok answer) = Wrote (entry_of who call (replies answer)) ∷ Wrote (enter_entry number who) ∷ []
deeds_by_both number who call replies (Err (AtEnter full)) = MetFull who (Enter number) ∷ []
deeds_by_both number who call replies (Err (AtCall full)) = MetFull who call ∷ Wrote (enter_entry number who) ∷ []
