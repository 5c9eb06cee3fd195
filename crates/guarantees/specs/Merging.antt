-- One order of what all callers did on the shards, and the one list of events that it makes.
use Rattle.std.specs.Prelude.{◌≡◌, ℕ, ◌<◌, ◌≤◌, ◌*◌, ◌==◌, Bool, true, false, List, [], ◌∷◌, ◌++◌}
use Rattle.std.specs.Prelude.{length, reverse, filter, map, Some, if◌then◌else◌, IsFalse}
use Rattle.std.specs.List.{AllByRecursion}
use Rattle.semantics.specs.declared.call.Caller.TheVariants.{Worker, Controller}
use Rattle.semantics.specs.declared.call.Entry.{Entry}
use Rattle.semantics.specs.declared.plan.ShardPlan.{ShardPlan}
use Rattle.semantics.specs.ShardPlan.{plan_at, AreOptions}
use Rattle.semantics.specs.History.{shard_of_call, IsLegalJournal}
use Rattle.semantics.specs.System.{Setting, SystemEvent, SystemState, Idle}
use Rattle.semantics.specs.System.{worker_state, journal_of, with_entry, after_event, opening_system, system_after, CanAllHappen}
use Rattle.shards.specs.declared.deeds.Deed.{Deed}
use Rattle.shards.specs.declared.deeds.OrderPart.TheVariants.{ByCaller}
use Rattle.shards.specs.Deeds.{deeds_of, is_of_shard, entries_made, made_on, AreMet, AreDeedsWithin}
use Rattle.guarantees.specs.Steps.{AskedOfShard, TurnedAway, Move, AreSteps, entries_in, entries_on, deeds_in}
use Rattle.guarantees.specs.Moves.{is_event_of}

abbrev pub is_refusal : AskedOfShard → Bool
is_refusal (TurnedAway call) = true
is_refusal asked = false

-- The deeds of all callers in one order, the oldest first. Shard by shard they are its journal, which is legal, and each look at a full
-- journal met one; caller by caller they are what its own moves did, which lead a worker from idle to idle. Of callers that are no worker
-- of the options a look at a full journal is no event, and is left out.
pub record IsOrderOfMoves (setting : Setting) (plan : ℕ → ShardPlan) (count : ℕ) (journal : ℕ → List Entry)
    (moves : ℕ → List Move) (deeds : List Deed) : Type 0 where
  pub options : AreOptions setting.maps setting.options
  pub count_is : count ≡ length setting.maps * setting.options.shards
  pub plans : (number : ℕ) → number < count → plan_at setting.maps setting.options number ≡ Some (plan number)
  pub within : AreDeedsWithin count deeds
  pub journals : (number : ℕ) → number < count → made_on number deeds ≡ journal number
  pub legal : (number : ℕ) → number < count → IsLegalJournal (plan number) (journal number)
  pub met : AreMet plan (reverse deeds)
  pub own : (worker : ℕ) → worker < setting.options.workers → deeds_in worker (moves worker) ≡ deeds_of (ByCaller (Worker worker)) deeds
  pub steps : (worker : ℕ) → worker < setting.options.workers → AreSteps setting count worker Idle (moves worker) Idle
  pub of_others : (worker : ℕ) → setting.options.workers ≤ worker → moves worker ≡ []

abbrev pub events_of : List Move → List SystemEvent
events_of moves = map (λ (move : Move). move.event) moves

-- from one state of the system to the next, no history changes, or one has this entry more
abbrev pub IsWrittenNext : SystemState → List Entry → SystemState → Type 0
IsWrittenNext before [] after = after.histories ≡ before.histories
IsWrittenNext before (entry ∷ []) after = after.histories ≡ (with_entry before (shard_of_call entry.call) entry).histories
IsWrittenNext before (entry ∷ other ∷ more) after = ⊥

-- the events, from this state of the system on, write just these entries, over all shards in this order: each event the next one, or none
abbrev pub AreWrittenInOrder : Setting → SystemState → List SystemEvent → List Entry → Type 0
AreWrittenInOrder setting before [] entries = entries ≡ []
AreWrittenInOrder setting before (event ∷ later) entries =
    (first : List Entry) × (more : List Entry) × (entries ≡ first ++ more) × IsWrittenNext before first (after_event setting before event)
    × AreWrittenInOrder setting (after_event setting before event) later more

-- one list of events, which can all happen from the opening on; of each worker it has the worker's own events, in their order; over all
-- shards they write these entries, in this order; after it the histories are the journals, and every worker is idle
pub record IsOneList (setting : Setting) (count : ℕ) (journal : ℕ → List Entry) (moves : ℕ → List Move)
    (entries : List Entry) : Type 0 where
  pub events : List SystemEvent
  pub can : CanAllHappen setting events
  pub written : AreWrittenInOrder setting (opening_system setting) events entries
  pub of_each : (worker : ℕ) → filter (is_event_of worker) events ≡ events_of (moves worker)
  pub histories : (number : ℕ) → number < count → journal_of (system_after setting events) number ≡ journal number
  pub idle : (worker : ℕ) → worker_state (system_after setting events) worker ≡ Idle

-- the law
abbrev pub OneOrderIsOneList : Type 0
OneOrderIsOneList =
    (setting : Setting) (plan : ℕ → ShardPlan) (count : ℕ) (journal : ℕ → List Entry) (moves : ℕ → List Move) (deeds : List Deed) →
    IsOrderOfMoves setting plan count journal moves deeds → IsOneList setting count journal moves (entries_made deeds)

-- ---- one worker, behind what the controller set

-- the controller made the entry, on one of the shards
pub record IsSetBefore (count : ℕ) (entry : Entry) : Type 0 where
  pub who : entry.who ≡ Controller
  pub within : shard_of_call entry.call < count

-- no move meets a full journal
abbrev pub NoneRefused : List Move → Type 0
NoneRefused moves = AllByRecursion (λ (move : Move). IsFalse (is_refusal move.asked)) moves

-- one worker moves, and the others do nothing
abbrev pub moves_of : ℕ → List Move → ℕ → List Move
moves_of worker moves other = if other == worker then moves else []

-- the controller's entries on the shard of a number, and then the worker's
abbrev pub set_and_done : List Entry → List Move → ℕ → List Entry
set_and_done set moves number = filter (is_of_shard number) set ++ entries_on number moves

-- what the controller set, and then a worker's steps from idle to idle, one run after the other: where that is a legal journal of each
-- shard, it is one list of events of the system
abbrev pub OneWorkerIsOneList : Type 0
OneWorkerIsOneList =
    (setting : Setting) (plan : ℕ → ShardPlan) (count worker : ℕ) (set : List Entry) (moves : List Move) →
    AreOptions setting.maps setting.options → count ≡ length setting.maps * setting.options.shards →
    ((number : ℕ) → number < count → plan_at setting.maps setting.options number ≡ Some (plan number)) →
    AllByRecursion (IsSetBefore count) set → AreSteps setting count worker Idle moves Idle → NoneRefused moves →
    ((number : ℕ) → number < count → IsLegalJournal (plan number) (set_and_done set moves number)) →
    IsOneList setting count (set_and_done set moves) (moves_of worker moves) (set ++ entries_in moves)
