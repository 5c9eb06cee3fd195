-- The moves of each worker over a whole replay: one list for all shards, which each shard alone agrees with.
use Rattle.std.specs.Prelude.{◌≡◌, ◌≤◌, ℕ, ◌<◌, List, [], reverse}
use Rattle.std.specs.List.{AllByRecursion}
use Rattle.semantics.specs.declared.call.Caller.TheVariants.{Worker}
use Rattle.semantics.specs.CallerLaws.{own_entries}
use Rattle.semantics.specs.System.{Setting, Idle}
use Rattle.journals.specs.JournalsView.{JournalsView, entries_at}
use Rattle.shards.specs.declared.deeds.Deed.{Deed}
use Rattle.shards.specs.declared.deeds.OrderPart.TheVariants.{ByCaller}
use Rattle.shards.specs.Deeds.{deeds_of}
use Rattle.actors.specs.declared.runner.Ran.{Ran}
use Rattle.actors.specs.declared.runner.RunEnd.{RunEnd}
use Rattle.actors.specs.declared.runner.RunEnd.TheVariants.{Stopped}
use Rattle.actors.specs.Accounts.{runs_at}
use Rattle.guarantees.specs.Steps.{Move, AreSteps, entries_on, deeds_in}
use Rattle.guarantees.specs.Merging.{NoneRefused}
use Rattle.semantics.specs.Entries.{NewestFirst}

abbrev pub IsNotStopped : RunEnd → Type 0
IsNotStopped Stopped = ⊥
IsNotStopped end = Unit {0}

-- Steps of the system by one worker, run after run, from idle to idle. On each shard they wrote what the journal has of this worker, in the
-- journal's order. What they did over all shards is what this worker did in the one order of all deeds (the newest is the first).
-- Where none of its runs was stopped, no step met a full journal.
pub record AreMovesOf (setting : Setting) (count worker : ℕ) (runs : List Ran) (journals : JournalsView) (order : NewestFirst Deed)
    (moves : List Move) :
    Type 0 where
  pub steps : AreSteps setting count worker Idle moves Idle
  pub written : (number : ℕ) → number < count → entries_on number moves ≡ own_entries (Worker worker) (entries_at journals number)
  pub did : deeds_in worker moves ≡ reverse (deeds_of (ByCaller (Worker worker)) order)
  pub met_none : AllByRecursion (λ (ran : Ran). IsNotStopped ran.end) runs → NoneRefused moves

-- of each worker, and nothing of workers that there are not
pub record HasMoves (setting : Setting) (count : ℕ) (runs : List (List Ran)) (journals : JournalsView) (order : NewestFirst Deed) : Type 0 where
  pub moves : ℕ → List Move
  pub of_worker :
      (worker : ℕ) → worker < setting.options.workers → AreMovesOf setting count worker (runs_at runs worker) journals order (moves worker)
  pub of_others : (worker : ℕ) → setting.options.workers ≤ worker → moves worker ≡ []
