-- An exact replay is one list of events: the headline's, of what is accounted for, and it comes turn by turn.
use Rattle.std.specs.Prelude.{List, length}
use Rattle.std.specs.List.{AllByRecursion}
use Rattle.wire.specs.declared.records.Sent.{Sent}
use Rattle.semantics.specs.declared.options.Options.{Options}
use Rattle.semantics.specs.ShardPlan.{AreOptions}
use Rattle.verifier.specs.Verified.{Verified}
use Rattle.machine.specs.Running.{program_of}
use Rattle.control.specs.declared.command.Command.{Command}
use Rattle.control.specs.ScriptText.{CommandFits}
use Rattle.actors.specs.declared.outcome.Outcome.{Outcome}
use Rattle.actors.specs.declared.outcome.ToldEnd.{ToldEnd}
use Rattle.actors.specs.Accounted.{IsAccounted}
use Rattle.actors.specs.Captured.{IsCaptured}
use Rattle.guarantees.specs.TurnByTurn.{HeadlineInTurns}
use Rattle.replay.specs.ExactReplays.{IsInTurn, starts_in}
use Rattle.replay.specs.Pieces.{IsWholeOutcome}
use Rattle.replay.specs.TurnOrder.{IsExact}
use Rattle.replay.specs.Turns.{all_turns}

-- By this account the headline holds, and its list of events is the updates' and then, turn after turn, the turn's: the calls of the command,
-- the whole of the record's run, or a round.
abbrev pub HasListInTurns : (verified : Verified) (script : List Command) (options : Options) (records : List Sent) (outcome : Outcome) →
    IsAccounted (program_of verified options.shards) script options records outcome → Type 0
HasListInTurns verified script options records outcome accounted =
    HeadlineInTurns verified script options records outcome accounted (all_turns (starts_in script) (length records))

-- it is accounted for, in the order of its turns, and has one list of events
pub record IsListedInTurns (verified : Verified) (script : List Command) (options : Options) (records : List Sent) (outcome : Outcome) : Type 0 where
  pub exact : IsExact (program_of verified options.shards) script options records outcome
  pub listed : HasListInTurns verified script options records outcome exact.accounted

-- with the frames and the ends that were handed out, so is the whole of one in pieces
pub record IsListedInPieces (verified : Verified) (script : List Command) (options : Options) (records sent : List Sent) (ends : List ToldEnd)
    (rest : Outcome) : Type 0 where
  pub whole : Outcome
  pub is_whole : IsWholeOutcome rest sent ends whole
  pub in_turns : IsListedInTurns verified script options records whole

-- it holds of every replay that was made in turn
abbrev pub EventsComeInTurns : Verified → Type 0
EventsComeInTurns verified =
    (script : List Command) (options : Options) (records : List Sent) (outcome : Outcome) → AreOptions verified.maps options →
    AllByRecursion IsCaptured records → AllByRecursion CommandFits script →
    IsInTurn (program_of verified options.shards) script options records outcome → IsListedInTurns verified script options records outcome
