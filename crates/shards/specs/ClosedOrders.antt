-- The one order of everything that all callers did on all shards, when the shards are closed. Deeds are listed newest first.
use Rattle.std.specs.Prelude.{◌≡◌, ℕ, ◌<◌, List, ◌∷◌, length, reverse}
use Rattle.atomic_table.specs.Table.{Me}
use Rattle.semantics.specs.declared.call.Entry.{Entry}
use Rattle.semantics.specs.declared.plan.ShardPlan.{ShardPlan}
use Rattle.journals.specs.JournalsView.{JournalsView, entries_at}
use Rattle.shards.specs.declared.deeds.Deed.{Deed}
use Rattle.shards.specs.declared.deeds.OrderPart.TheVariants.{OnShard, ByCaller}
use Rattle.shards.specs.declared.deeds.Account.{Account}
use Rattle.shards.specs.Deeds.{deeds_of, entries_made, made_on, AreMet, AreDeedsWithin, AreFirst}
use Rattle.shards.specs.OrderRule.{account, AreByCallers}
use Rattle.shards.specs.Passes.{PassView, pass_at}

-- There is one list of deeds, each on one of the shards and by one of the callers. Shard by shard, its entries are the journal; caller by
-- caller, of each pass that was handed in, it is what the caller did, in the caller's order over all shards; and each deed that met a full
-- journal is at a place where the entries before it on its shard leave the journal no room for the call.
pub record IsOneOrder (plan : ℕ → ShardPlan) (count callers : ℕ) (journals : JournalsView) (passes : List PassView) : Type 0 where
  pub deeds : List Deed
  pub within : AreDeedsWithin count deeds
  pub by : AreByCallers callers deeds
  pub journals_are : (number : ℕ) → number < count → entries_at journals number ≡ reverse (made_on number deeds)
  pub own : (place : ℕ) → place < length passes → (pass_at passes place).deeds ≡ deeds_of (ByCaller (pass_at passes place).who) deeds
  pub met : AreMet plan deeds

-- and the order begins with these deeds
pub record IsOneOrderBehind (plan : ℕ → ShardPlan) (count callers : ℕ) (first : List Deed) (journals : JournalsView)
    (passes : List PassView) : Type 0 where
  pub one : IsOneOrder plan count callers journals passes
  pub begins : AreFirst first one.deeds

-- ---- how it is gathered

abbrev pub account_of : PassView → Account
account_of pass = account (ByCaller pass.who) pass.deeds

-- one more account: that of the shard of this number, whose entries are the journal
pub record HasGathered {S : Type 0} (number : ℕ) (journal : List Entry) (before after : Me S (List Account)) : Type 0 where
  pub deeds : List Deed
  pub written : entries_made deeds ≡ reverse journal
  pub more : after ≡ (account (OnShard number) deeds ∷ before.0, before.1)
