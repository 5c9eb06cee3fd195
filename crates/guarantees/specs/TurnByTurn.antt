-- A replay whose list of events comes turn by turn: the events of a turn come behind all of earlier turns and before all of later ones, also
-- those that write nothing.
use Rattle.std.specs.Prelude.{◌≡◌, ◌<◌, ℕ, Bool, true, false, List, [], ◌∷◌, ◌++◌, reverse, map, filter, Some, slice_get, MatchBool}
use Rattle.std.specs.List.{AllByRecursion, flat_map}
use Rattle.ebpf_decode.specs.declared.map.MapDef.{MapDef}
use Rattle.wire.specs.declared.records.Sent.{Sent}
use Rattle.semantics.specs.declared.call.Call.{Call}
use Rattle.semantics.specs.declared.options.Options.{Options}
use Rattle.semantics.specs.declared.plan.ShardPlan.{ShardPlan}
use Rattle.semantics.specs.Program.{Program}
use Rattle.semantics.specs.ShardPlan.{AreOptions}
use Rattle.semantics.specs.Events.{Input}
use Rattle.semantics.specs.System.{Setting, SystemEvent, BeginsRun, DoesInstruction, CallsShard, LeavesShard, Controls, Reclaims}
use Rattle.semantics.specs.Replay.{Captured, Asked, is_short_record, input_of, keyed_shards, shard_count}
use Rattle.verifier.specs.Verified.{Verified}
use Rattle.machine.specs.Running.{program_of}
use Rattle.shards.specs.declared.deeds.Deed.{Deed}
use Rattle.shards.specs.Passes.{PassView}
use Rattle.control.specs.declared.command.Command.{Command}
use Rattle.control.specs.ScriptText.{CommandFits}
use Rattle.actors.specs.declared.outcome.Outcome.{Outcome}
use Rattle.actors.specs.declared.runner.Ran.{Ran}
use Rattle.actors.specs.Accounted.{IsAccounted}
use Rattle.actors.specs.Accounts.{runs_at}
use Rattle.actors.specs.Actors.{numbers_from}
use Rattle.actors.specs.Captured.{IsCaptured}
use Rattle.actors.specs.Commands.{CommandDone, all_set, made_deeds, command_deeds}
use Rattle.actors.specs.Parts.{first_commands}
use Rattle.actors.specs.Rounds.{IsRoundDone}
use Rattle.actors.specs.RunsInOrder.{IsRunAt, IsChainOfRuns}
use Rattle.actors.specs.RunsOverShards.{IsRunIn}
use Rattle.actors.specs.Shares.{frames_of, is_short, is_handed}
use Rattle.guarantees.specs.HeadlineOf.{HeadlineOf}
use Rattle.guarantees.specs.InParts.{AreAllIdle}
use Rattle.guarantees.specs.ReplayOf.{asked_of}
use Rattle.guarantees.specs.SystemRuns.{setting_of}

pub data Turn : Type 0 where
  -- the script's command of this number is applied
  TheCommand : ℕ → Turn
  -- the capture's record of this number is run, if it is long enough
  TheRecord : ℕ → Turn
  -- the reclaimer makes a round
  TheRound : Turn

-- ---- the events of a turn, in the words of the model

-- a worker's event behind the beginning of a run
abbrev pub IsWithinRun : ℕ → SystemEvent → Type 0
IsWithinRun worker (BeginsRun one frame now told) = ⊥
IsWithinRun worker (DoesInstruction one) = one ≡ worker
IsWithinRun worker (CallsShard one) = one ≡ worker
IsWithinRun worker (LeavesShard one shard) = one ≡ worker
IsWithinRun worker (Controls call) = ⊥
IsWithinRun worker (Reclaims shard) = ⊥

-- one run of the worker, from its beginning on, and nothing else
abbrev pub IsWholeRun : ℕ → Input → List SystemEvent → Type 0
IsWholeRun worker input events =
    (later : List SystemEvent) × (events ≡ BeginsRun worker input.frame input.now input.told ∷ later) × AllByRecursion (IsWithinRun worker) later

-- a record that is short has no event, and any other one the run of its worker on its frame, at its moment
abbrev pub AreEventsOfRecord : Asked → Captured → List SystemEvent → Type 0
AreEventsOfRecord asked one events =
    MatchBool (is_short_record one) (events ≡ []) (IsWholeRun (asked.worker_of one.bytes) (input_of (asked.worker_of one.bytes) one) events)

-- a command's are its calls, and a round's one for each shard with retired cells
abbrev pub AreEventsOfTurn : Setting → Asked → Turn → List SystemEvent → Type 0
AreEventsOfTurn setting asked (TheCommand number) events =
    (calls : List Call) × (slice_get asked.commands number ≡ Some calls) × (events ≡ map (λ (call : Call). Controls call) calls)
AreEventsOfTurn setting asked (TheRecord number) events =
    (one : Captured) × (slice_get asked.records number ≡ Some one) × AreEventsOfRecord asked one events
AreEventsOfTurn setting asked TheRound events = events ≡ map (λ (shard : ℕ). Reclaims shard) (keyed_shards setting (shard_count setting))

-- one turn's events behind the other's, and behind each turn every worker is idle; these events come before them
abbrev pub AreEventsOfTurns : Setting → Asked → List SystemEvent → List Turn → List SystemEvent → Type 0
AreEventsOfTurns setting asked earlier [] events = events ≡ []
AreEventsOfTurns setting asked earlier (turn ∷ turns) events =
    (own : List SystemEvent) × (later : List SystemEvent) × (events ≡ own ++ later) × AreEventsOfTurn setting asked turn own ×
    AreAllIdle setting (earlier ++ own) × AreEventsOfTurns setting asked (earlier ++ own) turns later

abbrev pub events_of_updates : Asked → List SystemEvent
events_of_updates asked = map (λ (call : Call). Controls call) asked.updates

-- the updates, and then these turns
pub record IsTurnByTurn (setting : Setting) (asked : Asked) (turns : List Turn) (events : List SystemEvent) : Type 0 where
  pub later : List SystemEvent
  pub first : events ≡ events_of_updates asked ++ later
  pub in_turns : AreEventsOfTurns setting asked (events_of_updates asked) turns later

-- ---- what was done in each turn of a replay that is accounted for

-- the oldest deed first
pub record TurnDeeds : Type 0 where
  pub turn : Turn
  pub deeds : List Deed

-- the turn is that of a record which this worker runs
abbrev pub is_turn_of : List (List ℕ) → ℕ → ℕ → Turn → Bool
is_turn_of frames workers worker (TheRecord number) = is_handed frames workers worker number
is_turn_of frames workers worker (TheCommand number) = false
is_turn_of frames workers worker TheRound = false

abbrev pub turns_of : List (List ℕ) → ℕ → ℕ → List TurnDeeds → List TurnDeeds
turns_of frames workers worker done = filter (λ (one : TurnDeeds). is_turn_of frames workers worker one.turn) done

-- run after run, what its worker did in it is what was done in its record's turn
abbrev pub AreDeedsOfRuns : (IsRun : PassView → Ran → PassView → Type 0) (before : PassView) (runs : List Ran) (after : PassView) →
    IsChainOfRuns IsRun before runs after → List TurnDeeds → Type 0
AreDeedsOfRuns IsRun before [] after chain [] = Unit {0}
AreDeedsOfRuns IsRun before [] after chain (one ∷ done) = ⊥
AreDeedsOfRuns IsRun before (ran ∷ later) after chain [] = ⊥
AreDeedsOfRuns IsRun before (ran ∷ later) after chain (one ∷ done) =
    (one.turn ≡ TheRecord ran.number) × (chain.0.deeds ≡ reverse one.deeds ++ before.deeds) ×
    AreDeedsOfRuns IsRun chain.0 later after chain.2 done

-- what was done in a turn that is no run
abbrev pub IsTurnDone : (plan : ℕ → ShardPlan) (maps : List MapDef) (options : Options) (count : ℕ) (records : List Sent) (done : List CommandDone) →
    Turn → List Deed → Type 0
IsTurnDone plan maps options count records done (TheCommand number) deeds =
    (one : CommandDone) × (slice_get done number ≡ Some one) × (deeds ≡ command_deeds maps options one)
IsTurnDone plan maps options count records done (TheRecord number) deeds =
    (one : Sent) × (slice_get records number ≡ Some one) × (is_short one.bytes.items ≡ true → deeds ≡ [])
IsTurnDone plan maps options count records done TheRound deeds = IsRoundDone plan count deeds

-- the one order is that of these turns, behind the updates; and they begin with the commands before the first record
pub record AreDoneInTurns (program : Program) (script : List Command) (options : Options) (records : List Sent) (outcome : Outcome)
    (accounted : IsAccounted program script options records outcome) (turns : List Turn) : Type 0 where
  pub done : List TurnDeeds
  pub turns_are : map (λ (one : TurnDeeds). one.turn) done ≡ turns
  pub order_is :
      reverse accounted.order
      ≡ made_deeds program.maps options (all_set outcome.updates.items) ++ flat_map (λ (one : TurnDeeds). one.deeds) done
  pub each :
      AllByRecursion
      (λ (one : TurnDeeds). IsTurnDone accounted.plan program.maps options accounted.count records accounted.commands.done one.turn one.deeds)
      done
  pub of_runs : (worker : ℕ) → (below : worker < options.workers) →
      AreDeedsOfRuns (IsRunAt (IsRunIn accounted.plan accounted.count program worker outcome.journals) records)
      (accounted.work worker below).handled.before (runs_at accounted.runs worker) (accounted.work worker below).after
      (accounted.work worker below).handled.chain (turns_of (frames_of records) options.workers worker done)
  pub later : List Turn
  pub begins : turns ≡ map (λ (number : ℕ). TheCommand number) (numbers_from 0 (first_commands script)) ++ later

-- ---- the law

-- the headline's list comes in these turns
pub record HeadlineInTurns (verified : Verified) (script : List Command) (options : Options) (records : List Sent) (outcome : Outcome)
    (accounted : IsAccounted (program_of verified options.shards) script options records outcome) (turns : List Turn) : Type 0 where
  pub kept : HeadlineOf verified script options records outcome accounted
  pub in_turns :
      IsTurnByTurn (setting_of verified options) (asked_of verified script options records outcome kept.headline.replay.done) turns
      kept.headline.replay.events

abbrev pub ReplaysInTurnsAreListed : Verified → Type 0
ReplaysInTurnsAreListed verified =
    (script : List Command) (options : Options) (records : List Sent) (outcome : Outcome) (turns : List Turn) → AreOptions verified.maps options →
    AllByRecursion IsCaptured records → AllByRecursion CommandFits script →
    (accounted : IsAccounted (program_of verified options.shards) script options records outcome) →
    AreDoneInTurns (program_of verified options.shards) script options records outcome accounted turns →
    HeadlineInTurns verified script options records outcome accounted turns
