-- What a replay accounts for: each record, and each entry of the journals.
use Rattle.std.specs.Prelude.{◌≡◌, ◌<◌, ℕ, List, [], ◌∷◌, length, reverse, take}
use Rattle.wire.specs.declared.records.Sent.{Sent}
use Rattle.semantics.specs.declared.call.Caller.TheVariants.{Worker}
use Rattle.semantics.specs.declared.options.Options.{Options}
use Rattle.semantics.specs.declared.plan.ShardPlan.{ShardPlan}
use Rattle.semantics.specs.CallerLaws.{own_entries}
use Rattle.semantics.specs.History.{IsLegalJournal}
use Rattle.semantics.specs.Program.{Program}
use Rattle.journals.specs.JournalsView.{JournalsView, entries_at}
use Rattle.shards.specs.declared.deeds.Deed.{Deed}
use Rattle.shards.specs.declared.deeds.OrderPart.TheVariants.{ByCaller}
use Rattle.shards.specs.Deeds.{deeds_of, made_on, AreMet, AreDeedsWithin, AreFirst}
use Rattle.shards.specs.Passes.{PassView, own_at}
use Rattle.shards.specs.SharedMaps.{ArePlans}
use Rattle.actors.specs.declared.runner.Ran.{Ran}
use Rattle.actors.specs.Accounts.{runs_at, counts_of, frames_in, sent_of, ends_of}
use Rattle.actors.specs.RunsInOrder.{IsRunAt, IsChainOfRuns, HasHandled}
use Rattle.actors.specs.Shares.{frames_of, share, all_captured}
use Rattle.control.specs.declared.command.Command.{Command}
use Rattle.actors.specs.declared.outcome.Outcome.{Outcome}
use Rattle.actors.specs.Parts.{IsScriptAccounted, AreRoundsAccounted, round_count, first_commands, first_deeds}
use Rattle.actors.specs.Rounds.{EndsWithRound}
use Rattle.actors.specs.RunsOverShards.{IsNewPass, IsRunIn}
use Rattle.semantics.specs.Entries.{NewestFirst}

-- a worker ran its records, in order, from a pass that had seen nothing; in each journal its entries are those of its runs, one after the
-- other; and so are its deeds in the one order of all
pub record IsWorkOf (IsRun : PassView → Ran → PassView → Type 0) (records : List ℕ) (worker : ℕ) (runs : List Ran) (count : ℕ)
    (journals : JournalsView) (order : NewestFirst Deed) : Type 0 where
  pub after : PassView
  pub handled : HasHandled (IsNewPass worker) IsRun records runs after
  pub own : (number : ℕ) → number < count → own_at after number ≡ own_entries (Worker worker) (reverse (entries_at journals number))
  pub did : after.deeds ≡ deeds_of (ByCaller (Worker worker)) order

-- a run among others: the pass as the runs before it left it, the run, and the pass as it left it
pub record RunInPlace (IsRun : PassView → Ran → PassView → Type 0) : Type 0 where
  pub before : PassView
  pub ran : Ran
  pub after : PassView
  pub run : IsRun before ran after

-- the runs of a chain, each in its place
abbrev pub runs_in_chain : (IsRun : PassView → Ran → PassView → Type 0) (before : PassView) (runs : List Ran) (after : PassView)
    → IsChainOfRuns IsRun before runs after → List (RunInPlace IsRun)
runs_in_chain IsRun before [] after chain = []
runs_in_chain IsRun before (ran ∷ later) after chain =
    record { before = before; ran = ran; after = chain.0; run = chain.1 } ∷ runs_in_chain IsRun chain.0 later after chain.2

-- the runs that a worker made
abbrev pub runs_in_work : {IsRun : PassView → Ran → PassView → Type 0} {records : List ℕ} {worker : ℕ} {runs : List Ran} {count : ℕ}
    {journals : JournalsView} {order : NewestFirst Deed} → IsWorkOf IsRun records worker runs count journals order → List (RunInPlace IsRun)
runs_in_work {IsRun} {records} {worker} {runs} {count} {journals} {order} work =
    runs_in_chain IsRun work.handled.before runs work.after work.handled.chain

-- a run that is accounted for, among those of its worker
abbrev pub PlacedRun : (ℕ → ShardPlan) → ℕ → Program → ℕ → JournalsView → List Sent → Type 0
PlacedRun plan count program worker journals records = RunInPlace (IsRunAt (IsRunIn plan count program worker journals) records)

-- one order of all deeds on N shards: shard by shard it is the journal, and each look at a full journal met one
pub record IsOrderOfJournals (plan : ℕ → ShardPlan) (count : ℕ) (journals : JournalsView) (order : NewestFirst Deed) : Type 0 where
  pub within : AreDeedsWithin count order
  pub journals_are : (number : ℕ) → number < count → entries_at journals number ≡ reverse (made_on number order)
  pub met : AreMet plan order

pub record IsAccounted (program : Program) (script : List Command) (options : Options) (records : List Sent)
    (outcome : Outcome) : Type 0 where
  pub maps : outcome.journals.maps ≡ program.maps
  pub options_are : outcome.journals.options ≡ options
  -- the shards, and their journals
  pub count : ℕ
  pub count_is : length outcome.journals.shards ≡ count
  pub plan : ℕ → ShardPlan
  pub plans : ArePlans program.maps options count plan
  pub legal : (number : ℕ) → number < count → IsLegalJournal (plan number) (entries_at outcome.journals number)
  -- what all callers did on all shards, in one order
  pub order : NewestFirst Deed
  pub ordered : IsOrderOfJournals plan count outcome.journals order
  -- the runs of each worker
  pub runs : List (List Ran)
  pub workers : length runs ≡ options.workers
  pub work :
      (worker : ℕ) → worker < options.workers → IsWorkOf (IsRunAt (IsRunIn plan count program worker outcome.journals) records)
      (share (frames_of records) options.workers worker (length records)) worker (runs_at runs worker) count outcome.journals order
  -- what is counted of them, each record once
  pub counts : outcome.counts ≡ counts_of (frames_of records) options.workers runs (length records)
  pub each_once : frames_in outcome.counts ≡ length records
  -- what is sent, in the capture's order
  pub sent : all_captured outcome.sent.items ≡ sent_of (frames_of records) options.workers runs (length records)
  -- what became of each record, in the capture's order
  pub ends : outcome.ends.items ≡ ends_of (frames_of records) options.workers runs (length records)
  -- the updates before the first record, the commands of the script, and those that were refused
  pub commands : IsScriptAccounted plan program.maps options count outcome.updates.items script outcome.journals order outcome.refused.items
  -- the order begins with the updates and the commands that come before the first record
  pub begins :
      AreFirst (first_deeds program.maps options outcome.updates.items (take (first_commands script) commands.done)) order
  -- the reclaimer's rounds
  pub rounds : AreRoundsAccounted plan count (round_count (length records)) outcome.journals order
  -- the order ends with the last of them: nobody does anything behind it
  pub closes : EndsWithRound plan count order
