-- One order of deeds that comes in parts, each of one caller and a worker's from idle to idle, and the one list of events that comes in the
-- same parts.
use Rattle.std.specs.Prelude.{◌≡◌, ℕ, ◌<◌, ◌*◌, IsTrue, List, [], ◌∷◌, ◌++◌, length, reverse, map, Some}
use Rattle.std.specs.List.{AllByRecursion, flat_map}
use Rattle.semantics.specs.declared.call.Call.{Call}
use Rattle.semantics.specs.declared.call.Caller.{Caller}
use Rattle.semantics.specs.declared.call.Caller.TheVariants.{Controller, Reclaimer}
use Rattle.semantics.specs.declared.call.Entry.{Entry}
use Rattle.semantics.specs.declared.plan.ShardPlan.{ShardPlan}
use Rattle.semantics.specs.ShardPlan.{plan_at, AreOptions}
use Rattle.semantics.specs.History.{shard_of_call, meets, IsLegalJournal}
use Rattle.semantics.specs.System.{Setting, SystemEvent, Controls, Reclaims, Idle, worker_state, journal_of, system_after, CanAllHappen}
use Rattle.shards.specs.declared.deeds.Deed.{Deed}
use Rattle.shards.specs.declared.deeds.Deed.TheVariants.{Wrote, MetFull}
use Rattle.shards.specs.Deeds.{shard_of_deed, made_on, AreMet, AreDeedsWithin}
use Rattle.guarantees.specs.Steps.{Move, AreSteps, deeds_in}
use Rattle.guarantees.specs.Merging.{events_of}

-- ---- parts

pub data Part : Type 0 where
  -- what the controller did, the oldest deed first
  ByController : (deeds : List Deed) → Part
  -- what the reclaimer did
  ByReclaimer : (deeds : List Deed) → Part
  -- what a worker did
  ByWorker : (worker : ℕ) → (moves : List Move) → Part

abbrev pub call_of_deed : Deed → Call
call_of_deed (Wrote entry) = entry.call
call_of_deed (MetFull who call) = call

abbrev pub deeds_of_part : Part → List Deed
deeds_of_part (ByController deeds) = deeds
deeds_of_part (ByReclaimer deeds) = deeds
deeds_of_part (ByWorker worker moves) = deeds_in worker moves

-- each deed of the controller or the reclaimer is an event, also a look at a full journal
abbrev pub events_of_part : Part → List SystemEvent
events_of_part (ByController deeds) = map (λ (deed : Deed). Controls (call_of_deed deed)) deeds
events_of_part (ByReclaimer deeds) = map (λ (deed : Deed). Reclaims (shard_of_deed deed)) deeds
events_of_part (ByWorker worker moves) = events_of moves

abbrev pub deeds_in_parts : List Part → List Deed
deeds_in_parts parts = flat_map deeds_of_part parts

abbrev pub events_in_parts : List Part → List SystemEvent
events_in_parts parts = flat_map events_of_part parts

-- a call that met a full journal was one that its caller may make
abbrev pub IsOfCaller : (ℕ → ShardPlan) → Caller → Deed → Type 0
IsOfCaller plan who (Wrote entry) = entry.who ≡ who
IsOfCaller plan who (MetFull one call) = (one ≡ who) × IsTrue (meets (plan (shard_of_call call)) [] who call)

abbrev pub IsPart : Setting → (ℕ → ShardPlan) → ℕ → Part → Type 0
IsPart setting plan count (ByController deeds) = AllByRecursion (IsOfCaller plan Controller) deeds
IsPart setting plan count (ByReclaimer deeds) = AllByRecursion (IsOfCaller plan Reclaimer) deeds
IsPart setting plan count (ByWorker worker moves) = (worker < setting.options.workers) × AreSteps setting count worker Idle moves Idle

abbrev pub AreParts : Setting → (ℕ → ShardPlan) → ℕ → List Part → Type 0
AreParts setting plan count parts = AllByRecursion (IsPart setting plan count) parts

-- ---- the order and the list

-- shard by shard the deeds are its journal, which is legal, and each look at a full journal met one
pub record IsOrderInParts (setting : Setting) (plan : ℕ → ShardPlan) (count : ℕ) (journal : ℕ → List Entry) (parts : List Part) : Type 0 where
  pub options : AreOptions setting.maps setting.options
  pub count_is : count ≡ length setting.maps * setting.options.shards
  pub plans : (number : ℕ) → number < count → plan_at setting.maps setting.options number ≡ Some (plan number)
  pub within : AreDeedsWithin count (deeds_in_parts parts)
  pub journals : (number : ℕ) → number < count → made_on number (deeds_in_parts parts) ≡ journal number
  pub legal : (number : ℕ) → number < count → IsLegalJournal (plan number) (journal number)
  pub met : AreMet plan (reverse (deeds_in_parts parts))
  pub are_parts : AreParts setting plan count parts

abbrev pub AreAllIdle : Setting → List SystemEvent → Type 0
AreAllIdle setting events = (worker : ℕ) → worker_state (system_after setting events) worker ≡ Idle

-- behind each part every worker is idle; these events come before the parts
abbrev pub AreIdleBetween : Setting → List SystemEvent → List Part → Type 0
AreIdleBetween setting earlier [] = Unit {0}
AreIdleBetween setting earlier (part ∷ parts) =
    AreAllIdle setting (earlier ++ events_of_part part) × AreIdleBetween setting (earlier ++ events_of_part part) parts

-- the events of the parts, one part behind the other, can all happen; behind each part every worker is idle; at the end the histories are
-- the journals
pub record IsListInParts (setting : Setting) (count : ℕ) (journal : ℕ → List Entry) (parts : List Part) : Type 0 where
  pub can : CanAllHappen setting (events_in_parts parts)
  pub idle : AreIdleBetween setting [] parts
  pub histories :
      (number : ℕ) → number < count → journal_of (system_after setting (events_in_parts parts)) number ≡ journal number

-- the law
abbrev pub OrdersInPartsAreListsInParts : Type 0
OrdersInPartsAreListsInParts =
    (setting : Setting) (plan : ℕ → ShardPlan) (count : ℕ) (journal : ℕ → List Entry) (parts : List Part) →
    IsOrderInParts setting plan count journal parts → IsListInParts setting count journal parts
