-- Nothing that a later turn writes comes before what an earlier one writes, on any shard: so an order in which a command writes before a
-- record that comes earlier is of no exact replay.
use Rattle.std.specs.Prelude.{◌≡◌, ℕ, zero, suc, ◌<◌, ◌≤◌, List, [], ◌∷◌, ◌++◌, length}
use Rattle.wire.specs.declared.records.Sent.{Sent}
use Rattle.semantics.specs.declared.call.Entry.{Entry}
use Rattle.semantics.specs.declared.options.Options.{Options}
use Rattle.semantics.specs.History.{shard_of_call}
use Rattle.semantics.specs.Program.{Program}
use Rattle.shard_core.specs.JournaledShard.{JournaledShard}
use Rattle.shards.specs.declared.deeds.Deed.{Deed}
use Rattle.shards.specs.declared.deeds.Deed.TheVariants.{Wrote}
use Rattle.shards.specs.Deeds.{made_on}
use Rattle.shards.specs.NewShards.{shard_at}
use Rattle.control.specs.declared.command.Command.{Command}
use Rattle.actors.specs.declared.outcome.Outcome.{Outcome}
use Rattle.actors.specs.Accounted.{IsAccounted}
use Rattle.replay.specs.Turns.{Turn, all_turns}
use Rattle.replay.specs.InTurn.{TurnState, AreTurns}
use Rattle.replay.specs.ExactReplays.{starts_in, first_state}
use Rattle.replay.specs.TurnOrder.{IsInTurnOrder}

-- the state behind this many turns
abbrev pub state_behind : (program : Program) (script : List Command) (records : List Sent) (workers : ℕ) (turns : List Turn)
    (before after : TurnState) → AreTurns program script records workers turns before after → ℕ → TurnState
state_behind program script records workers [] before after made count = before
state_behind program script records workers (turn ∷ later) before after made zero = before
state_behind program script records workers (turn ∷ later) before after made (suc count) =
    state_behind program script records workers later made.0 after made.2 count

-- In an order of deeds, the newest first, an entry that lies behind the journal that its shard has here is written when all shards have the
-- journals that they have here: none of theirs comes later.
abbrev pub IsWrittenBehind : ℕ → List JournaledShard → List Deed → Type 0
IsWrittenBehind count shards order =
    (newer older : List Deed) (entry : Entry) → order ≡ newer ++ Wrote entry ∷ older →
    length (shard_at shards (shard_of_call entry.call)).journal ≤ length (made_on (shard_of_call entry.call) older) →
    (number : ℕ) → number < count → length (shard_at shards number).journal ≤ length (made_on number older)

-- so it is in an exact replay, behind any number of turns
abbrev pub TurnsComeInOrder : Type 0
TurnsComeInOrder =
    (program : Program) (script : List Command) (options : Options) (records : List Sent) (outcome : Outcome)
    (accounted : IsAccounted program script options records outcome)
    (exact : IsInTurnOrder program script options records outcome accounted) (turns : ℕ) →
    IsWrittenBehind accounted.count
    (state_behind program script records options.workers (all_turns (starts_in script) (length records))
    (first_state exact.turns.begun exact.turns.size) exact.turns.last exact.turns.in_order turns).all.shards
    accounted.order
