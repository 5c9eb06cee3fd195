-- The one order of all deeds of an exact replay goes through the states of its turns: it writes what they write, turn after turn. (A look at
-- a full journal writes nothing: it is in a turn of its caller.)
use Rattle.std.specs.Prelude.{◌≡◌, ℕ, ◌<◌, List, [], ◌∷◌, ◌++◌, length, reverse}
use Rattle.std.specs.List.{AllByRecursion}
use Rattle.wire.specs.declared.records.Sent.{Sent}
use Rattle.semantics.specs.declared.call.Caller.{Caller}
use Rattle.semantics.specs.declared.call.Caller.TheVariants.{Worker, Controller, Reclaimer}
use Rattle.semantics.specs.declared.options.Options.{Options}
use Rattle.semantics.specs.Program.{Program}
use Rattle.shard_core.specs.JournaledShard.{JournaledShard}
use Rattle.shards.specs.declared.deeds.Deed.{Deed}
use Rattle.shards.specs.Deeds.{caller_of_deed, made_on}
use Rattle.shards.specs.NewShards.{shard_at}
use Rattle.control.specs.declared.command.Command.{Command}
use Rattle.actors.specs.declared.outcome.Outcome.{Outcome}
use Rattle.actors.specs.Accounted.{IsAccounted}
use Rattle.actors.specs.Shares.{frames_of, frame_at, worker_of_frame}
use Rattle.replay.specs.Turns.{Turn, TheCommand, TheRecord, TheRound, all_turns}
use Rattle.replay.specs.InTurn.{TurnState, AreTurns}
use Rattle.replay.specs.ExactReplays.{IsInTurn, starts_in, first_state}

-- who acts in a turn
abbrev pub actor_of : List Sent → ℕ → Turn → Caller
actor_of records workers (TheCommand number) = Controller
actor_of records workers (TheRecord number) = Worker (worker_of_frame (frame_at (frames_of records) number) workers)
actor_of records workers TheRound = Reclaimer

abbrev pub AreDeedsBy : Caller → List Deed → Type 0
AreDeedsBy who deeds = AllByRecursion (λ (deed : Deed). caller_of_deed deed ≡ who) deeds

-- shard by shard these deeds, the newest first, wrote what the shards' journals have
abbrev pub HaveWritten : ℕ → List Deed → List JournaledShard → Type 0
HaveWritten count order shards = (number : ℕ) → number < count → made_on number order ≡ reverse (shard_at shards number).journal

-- From one state to the next come the deeds of the turn's actor, and nobody else's; with them the deeds so far wrote what the journals of
-- that state have. So what a turn wrote comes behind what all earlier turns wrote, and before what all later ones write.
abbrev pub GoesThrough : (program : Program) (script : List Command) (records : List Sent) (workers count : ℕ) (turns : List Turn)
    (before after : TurnState) → AreTurns program script records workers turns before after → List Deed → List Deed → Type 0
GoesThrough program script records workers count [] before after none begun order = order ≡ begun
GoesThrough program script records workers count (turn ∷ later) before after turns begun order =
    (deeds : List Deed) × AreDeedsBy (actor_of records workers turn) deeds × HaveWritten count (deeds ++ begun) turns.0.all.shards ×
    GoesThrough program script records workers count later turns.0 after turns.2 (deeds ++ begun) order

-- an exact replay whose one order begins with the deeds of the updates before the first turn and then goes through the turns
pub record IsInTurnOrder (program : Program) (script : List Command) (options : Options) (records : List Sent) (outcome : Outcome)
    (accounted : IsAccounted program script options records outcome) : Type 0 where
  pub turns : IsInTurn program script options records outcome
  pub begun : List Deed
  pub by_controller : AreDeedsBy Controller begun
  pub begun_is : HaveWritten accounted.count begun turns.begun.shards
  pub through :
      GoesThrough program script records options.workers accounted.count (all_turns (starts_in script) (length records))
      (first_state turns.begun turns.size) turns.last turns.in_order begun accounted.order

-- an exact replay accounts for its records as one on threads does, in the order of its turns
pub record IsExact (program : Program) (script : List Command) (options : Options) (records : List Sent) (outcome : Outcome) : Type 0 where
  pub accounted : IsAccounted program script options records outcome
  pub in_order : IsInTurnOrder program script options records outcome accounted
