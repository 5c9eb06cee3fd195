-- The end of a replay's list of events: the entries of the reclaimer's last round, behind which nothing is written.
use Rattle.std.specs.Prelude.{◌≡◌, ℕ, List, [], ◌∷◌, ◌++◌, reverse}
use Rattle.semantics.specs.declared.plan.ShardPlan.{ShardPlan}
use Rattle.semantics.specs.System.{Setting, SystemEvent, opening_system, after_all}
use Rattle.shards.specs.declared.deeds.Deed.{Deed}
use Rattle.shards.specs.Deeds.{entries_made}
use Rattle.actors.specs.Rounds.{EndsWithRound}
use Rattle.guarantees.specs.Merging.{AreWrittenInOrder}
use Rattle.semantics.specs.Entries.{NewestFirst}

-- the one order of all deeds ends with a round; the events are some that write the entries of all other deeds, in this order,
-- and behind them those that write the entries of the round and no others
pub record EndWithRound (setting : Setting) (plan : ℕ → ShardPlan) (count : ℕ) (order : NewestFirst Deed) (events : List SystemEvent) : Type 0 where
  pub ends : EndsWithRound plan count order
  pub earlier : List SystemEvent
  pub later : List SystemEvent
  pub events_are : events ≡ earlier ++ later
  pub written : AreWrittenInOrder setting (opening_system setting) earlier (entries_made (reverse ends.others))
  pub last : AreWrittenInOrder setting (after_all setting (opening_system setting) earlier) later (entries_made ends.last.made)
