-- What a run by a pass leaves among the worker's own entries: for each shard that it called, one session with an Enter, the calls, and a
-- Leave. Sessions have the oldest entry first, own entries the newest.
use Rattle.std.specs.Prelude.{◌≡◌, ◌⊎◌, ℕ, ◌<◌, List, [], ◌∷◌, ◌++◌, reverse, IsFalse}
use Rattle.std.specs.List.{AllByRecursion}
use Rattle.semantics.specs.declared.call.Caller.TheVariants.{Worker}
use Rattle.semantics.specs.declared.call.Call.{Call}
use Rattle.semantics.specs.declared.call.Call.TheVariants.{Enter}
use Rattle.semantics.specs.declared.call.Entry.{Entry}
use Rattle.semantics.specs.declared.plan.ShardPlan.{ShardPlan}
use Rattle.semantics.specs.Reclamation.{is_inside}
use Rattle.semantics.specs.History.{shard_of_call, IsJournalFull}
use Rattle.map_port.specs.Exchanges.{Exchange, IsChain}
use Rattle.shards.specs.CallerView.{BeginsWith}
use Rattle.shards.specs.Passes.{PassView, own_at, seen_at}
use Rattle.shard_port.specs.Asking.{enter_by, leave_by}
use Rattle.shard_port.specs.Sessions.{exchange_entries, session}
use Rattle.shard_port.specs.PassDeeds.{run_deeds, deeds_to_call, deeds_to_enter}
use Rattle.shard_port.specs.PassPorts.{PassPort, PassGives, PassRefuses, IsFinishedBy}
use Rattle.semantics.specs.Entries.{Journal}

-- the entries of a worker's session with the shard of a number: none where none of the exchanges is with it
abbrev pub session_at : ℕ → ℕ → List Exchange → Journal
session_at worker number exchanges = session worker number (exchange_entries worker number exchanges)

-- the worker is outside the shard of a number, by its own entries
abbrev pub IsOutsideAt : ℕ → PassView → ℕ → Type 0
IsOutsideAt worker pass number = IsFalse (is_inside worker (own_at pass number))

-- each call is of one of this many shards
abbrev pub AreCallsWithin : ℕ → List Exchange → Type 0
AreCallsWithin count exchanges = AllByRecursion (λ (exchange : Exchange). shard_of_call exchange.call < count) exchanges

-- a pass has a session more on each shard, and its worker is outside of all
pub record HasSessions (count worker : ℕ) (exchanges : List Exchange) (before after : PassView) : Type 0 where
  pub same_caller : after.who ≡ before.who
  pub within : AreCallsWithin count exchanges
  pub written : (number : ℕ) → number < count → own_at after number ≡ reverse (session_at worker number exchanges) ++ own_at before number
  pub seen_on : (number : ℕ) → number < count → BeginsWith (seen_at after number) (seen_at before number)
  pub outside : (number : ℕ) → number < count → IsOutsideAt worker after number
  -- its deeds over all shards, newest first, are those of the run more
  pub did : after.deeds ≡ reverse (run_deeds worker count exchanges) ++ before.deeds

-- the worker entered the shard for this call alone, which was refused there
pub record IsVisitedAt (worker : ℕ) (exchanges : List Exchange) (call : Call) (number : ℕ) (before after : List Entry) : Type 0 where
  pub own_shard : shard_of_call call ≡ number
  pub first_call : exchange_entries worker number exchanges ≡ []
  pub written : after ≡ leave_by worker number ∷ enter_by worker number ∷ before

-- the worker had not called the shard, its Enter met a full journal, and it wrote nothing there
pub record IsKeptOut (plan : ShardPlan) (full_at : List Entry) (worker : ℕ) (exchanges : List Exchange) (number : ℕ)
    (before after : List Entry) :
    Type 0 where
  pub first_call : exchange_entries worker number exchanges ≡ []
  pub nothing : after ≡ before
  pub full : IsJournalFull plan full_at (Enter number)

-- the run's last call met a full journal, or its last Enter did
pub record StoppedAtCall (plan : ShardPlan) (full_at : List Entry) (count worker : ℕ) (exchanges : List Exchange) (call : Call)
    (before after : PassView) : Type 0 where
  pub full : IsJournalFull plan full_at call
  -- where the run entered the shard for this call alone, that is what the worker wrote there
  pub visited :
      exchange_entries worker (shard_of_call call) exchanges ≡ [] →
      own_at after (shard_of_call call)
      ≡ leave_by worker (shard_of_call call) ∷ enter_by worker (shard_of_call call) ∷ own_at before (shard_of_call call)
  pub did : after.deeds ≡ reverse (deeds_to_call worker count exchanges call) ++ before.deeds

pub record StoppedAtEnter (plan : ShardPlan) (full_at : List Entry) (count worker : ℕ) (exchanges : List Exchange) (call : Call)
    (before after : PassView) : Type 0 where
  pub kept_out :
      IsKeptOut plan full_at worker exchanges (shard_of_call call) (own_at before (shard_of_call call)) (own_at after (shard_of_call call))
  pub did : after.deeds ≡ reverse (deeds_to_enter worker count exchanges call) ++ before.deeds

-- what a run that ended because a call was refused has written: a session on each shard, except that the shard of the refused call, if
-- this was the first there, may have an Enter and a Leave with no call between. There the journal was full for the call at the end of a
-- history that the pass's now begins with; or it was full for the Enter, and then the worker has written nothing there.
pub record HasRefusedSessions (plan : ℕ → ShardPlan) (count worker : ℕ) (exchanges : List Exchange) (call : Call)
    (before after : PassView) : Type 0
  where
    pub same_caller : after.who ≡ before.who
    pub within : AreCallsWithin count exchanges
    pub refused_within : shard_of_call call < count
    pub written :
        (number : ℕ) → number < count → (own_at after number ≡ reverse (session_at worker number exchanges) ++ own_at before number)
        ⊎ IsVisitedAt worker exchanges call number (own_at before number) (own_at after number)
    pub seen_on : (number : ℕ) → number < count → BeginsWith (seen_at after number) (seen_at before number)
    pub outside : (number : ℕ) → number < count → IsOutsideAt worker after number
    pub full_at : List Entry
    pub full_seen : BeginsWith (seen_at after (shard_of_call call)) full_at
    pub full :
        StoppedAtCall (plan (shard_of_call call)) full_at count worker exchanges call before after
        ⊎ StoppedAtEnter (plan (shard_of_call call)) full_at count worker exchanges call before after

-- ---- the laws: of a run from a pass whose worker is outside this many shards

abbrev pub WritesOwnSessions : Type 0
WritesOwnSessions =
    (plan : ℕ → ShardPlan) (count worker : ℕ) (before after : PassPort) (finished : PassView) (exchanges : List Exchange) →
    before.pass.who ≡ Worker worker → ((number : ℕ) → number < count → IsOutsideAt worker before.pass number) →
    IsChain (PassGives plan count) before exchanges after → IsFinishedBy plan count after.pass finished →
    HasSessions count worker exchanges before.pass finished

abbrev pub WritesRefusedOwnSessions : Type 0
WritesRefusedOwnSessions =
    (plan : ℕ → ShardPlan) (count worker : ℕ) (before middle after : PassPort) (finished : PassView) (exchanges : List Exchange)
    (call : Call) →
    before.pass.who ≡ Worker worker → ((number : ℕ) → number < count → IsOutsideAt worker before.pass number) →
    IsChain (PassGives plan count) before exchanges middle → PassRefuses plan count middle call after →
    IsFinishedBy plan count after.pass finished → HasRefusedSessions plan count worker exchanges call before.pass finished
