-- A caller's pass: for each shard, by its number, what the caller has seen of the shard's history, and its own entries there.
use Rattle.std.specs.Prelude.{◌≡◌, ◌≢◌, ◌<◌, ℕ, List, [], map, length, slice_index_or, Bool, true, false, Result, Ok, Err}
use Rattle.atomic_table.specs.Seated.{TableId}
use Rattle.atomic_table.specs.declared.badge.Badge.{Badge}
use Rattle.semantics.specs.declared.call.Caller.{Caller}
use Rattle.semantics.specs.declared.call.Caller.TheVariants.{Worker, Reclaimer}
use Rattle.semantics.specs.declared.call.SectionChange.{SectionChange}
use Rattle.semantics.specs.declared.call.SectionChange.TheVariants.{Begins, Ends, Stays}
use Rattle.semantics.specs.declared.full.JournalFull.{JournalFull}
use Rattle.semantics.specs.CallerLaws.{own_entries}
use Rattle.semantics.specs.Reclamation.{is_inside}
use Rattle.semantics.specs.declared.call.Entry.{Entry}
use Rattle.journals.specs.JournalsView.{JournalsView, entries_at}
use Rattle.shards.specs.declared.rule.Known.{Known}
use Rattle.shards.specs.declared.deeds.Deed.{Deed}
use Rattle.shards.specs.GuardedView.{KeyedPlan}
use Rattle.shards.specs.CallerView.{CallerView, nothing_seen, IsSettled}
use Rattle.shards.specs.LockRule.{no_key, no_table}
use Rattle.shards.specs.ShardPasses.{ShardPassView}
use Rattle.semantics.specs.Entries.{NewestFirst, History}

pub record PassView : Type 0 where
  pub who : Caller
  -- by the shards' numbers
  pub views : List CallerView
  -- what the caller did, over all shards
  pub deeds : NewestFirst Deed

-- what the pass knows of the shard of this number
abbrev pub view_at : PassView → ℕ → CallerView
view_at pass number = slice_index_or pass.views number nothing_seen

-- the caller's own entries on that shard
abbrev pub own_at : PassView → ℕ → History
own_at pass number = (view_at pass number).own

abbrev pub seen_at : PassView → ℕ → History
seen_at pass number = (view_at pass number).seen

-- on the shard of this number the caller's own entries are all of its entries in what it has seen there
abbrev pub KnowsItsOwn : ℕ → PassView → Type 0
KnowsItsOwn number pass = own_at pass number ≡ own_entries pass.who (seen_at pass number)

-- the pass of nobody, past the end of a list
abbrev pub no_pass : PassView
no_pass = record { who = Reclaimer; views = []; deeds = [] }

abbrev pub pass_at : List PassView → ℕ → PassView
pass_at passes place = slice_index_or passes place no_pass

-- one shard's view may have changed, and nothing else
pub record IsElsewhereSame (number : ℕ) (before after : PassView) : Type 0 where
  pub who : after.who ≡ before.who
  pub count : length after.views ≡ length before.views
  pub others : (other : ℕ) → other ≢ number → view_at after other ≡ view_at before other

-- a pass, compared with the journals: on each of N shards its view is settled
abbrev pub AreSettled : ℕ → JournalsView → PassView → Type 0
AreSettled count journals pass = (number : ℕ) → number < count → IsSettled pass.who (view_at pass number) (entries_at journals number)

-- ---- whether the caller is inside a shard, by its own entries

abbrev pub is_inside_of : Caller → List Entry → Bool
is_inside_of (Worker number) own = is_inside number own
is_inside_of who own = false

-- what a call makes of it
abbrev pub after_section : SectionChange → Bool → Bool
after_section Begins before = true
after_section Ends before = false
after_section Stays before = before

-- and a call that may be refused
abbrev pub flag_after : {A : Type 0} → Result A JournalFull → SectionChange → Bool → Bool
flag_after (Ok answer) change before = after_section change before
flag_after (Err full) change before = before

-- ---- how the fields make this

abbrev pub blank : Badge Known
blank = record { marker = record {}; table_id = no_table; id = 0; views = [] }

abbrev pub badge_at : List (Badge Known) → ℕ → Badge Known
badge_at badges number = slice_index_or badges number blank

abbrev pub no_part : ShardPassView
no_part = record { table = no_table; key = no_key; who = Reclaimer; has_it = false; view = nothing_seen }

abbrev pub shard_pass_at : List ShardPassView → ℕ → ShardPassView
shard_pass_at parts number = slice_index_or parts number no_part

abbrev pub pass_view : Caller → List ShardPassView → NewestFirst Deed → PassView
pass_view who parts deeds = record { who = who; views = map (λ (part : ShardPassView). part.view) parts; deeds = deeds }

-- this caller's, for the shard of this word, plan and order, which it does not have
pub record IsPartOf (table : TableId) (key : KeyedPlan) (who : Caller) (part : ShardPassView) : Type 0 where
  pub table_is : part.table ≡ table
  pub key_is : part.key ≡ key
  pub caller : part.who ≡ who
  pub alone : part.has_it ≡ false

-- one for each shard
pub record IsPass (table : ℕ → TableId) (key : ℕ → KeyedPlan) (count : ℕ) (who : Caller) (parts : List ShardPassView) : Type 0 where
  pub sized : length parts ≡ count
  pub each : (number : ℕ) → number < count → IsPartOf (table number) (key number) who (shard_pass_at parts number)
