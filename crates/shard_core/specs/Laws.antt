-- What follows for every legal journal.
use Rattle.std.specs.Prelude.{ℕ, ◌<◌, ◌≤◌, List, length, reverse}
use Rattle.semantics.specs.declared.call.Entry.{Entry}
use Rattle.semantics.specs.declared.plan.ShardPlan.{ShardPlan}
use Rattle.semantics.specs.Reclamation.{IsInside}
use Rattle.semantics.specs.History.{IsLegalJournal}

-- each run inside has room for its Leave: with a worker inside, a legal journal has fewer entries than its reserve
abbrev pub LeaveHasRoom : Type 0
LeaveHasRoom =
    (plan : ShardPlan) (journal : List Entry) (worker : ℕ) → plan.workers ≤ 8 → worker < 8 → IsLegalJournal plan journal →
    IsInside worker (reverse journal) → length journal < plan.reserve
