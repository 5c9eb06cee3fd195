-- An exact replay is a function of its input: two that were made of the same records, with the same updates and by the same script, return
-- the same, unless memory was refused to a command.
use Rattle.std.specs.Prelude.{◌≡◌, ◌≢◌, List, Some}
use Rattle.std.specs.List.{AllByRecursion}
use Rattle.wire.specs.declared.records.Sent.{Sent}
use Rattle.semantics.specs.declared.options.Options.{Options}
use Rattle.semantics.specs.Program.{Program}
use Rattle.control.specs.declared.command.Command.{Command}
use Rattle.control.specs.declared.fault.ControlFault.TheVariants.{Memory}
use Rattle.actors.specs.Shares.{all_captured}
use Rattle.actors.specs.declared.outcome.Applied.{Applied}
use Rattle.actors.specs.declared.outcome.Outcome.{Outcome}
use Rattle.actors.specs.declared.outcome.ToldEnd.{ToldEnd}
use Rattle.replay.specs.ExactReplays.{IsInTurn}
use Rattle.replay.specs.Pieces.{IsReplayedInPieces}

-- none of these commands was refused for lack of memory
abbrev pub HadMemory : List Applied → Type 0
HadMemory commands = AllByRecursion (λ (one : Applied). one.fault ≢ Some Memory) commands

-- the same frames, each with the same moment
abbrev pub AreSameFrames : List Sent → List Sent → Type 0
AreSameFrames one other = all_captured one ≡ all_captured other

-- two replays return the same: counts, what became of each record, the frames that were sent, the commands that were refused, each with its
-- fault, and the journals
pub record ReturnTheSame (one other : Outcome) : Type 0 where
  pub counts : one.counts ≡ other.counts
  pub ends : one.ends.items ≡ other.ends.items
  pub sent : AreSameFrames one.sent.items other.sent.items
  pub refused : one.refused.items ≡ other.refused.items
  pub journals : one.journals ≡ other.journals

-- any two exact replays of the same input return the same
abbrev pub ExactReplaysAgree : Type 0
ExactReplaysAgree =
    (program : Program) (script : List Command) (options : Options) (records others : List Sent) (one other : Outcome) →
    AreSameFrames records others → IsInTurn program script options records one → IsInTurn program script options others other →
    one.updates.items ≡ other.updates.items → HadMemory one.refused.items → HadMemory other.refused.items → ReturnTheSame one other

-- the same of two that were handed their captures in pieces, by all that was handed out of each
pub record ReturnTheSameInPieces (sent sent' : List Sent) (ends ends' : List ToldEnd) (rest rest' : Outcome) : Type 0 where
  pub counts : rest.counts ≡ rest'.counts
  pub ends_are : ends ≡ ends'
  pub sent_are : AreSameFrames sent sent'
  pub refused : rest.refused.items ≡ rest'.refused.items
  pub journals : rest.journals ≡ rest'.journals

-- wherever the two captures were cut
abbrev pub PiecesAgree : Type 0
PiecesAgree =
    (program : Program) (script : List Command) (options : Options) (records others sent sent' : List Sent) (ends ends' : List ToldEnd)
    (rest rest' : Outcome) → AreSameFrames records others → IsReplayedInPieces program script options records sent ends rest →
    IsReplayedInPieces program script options others sent' ends' rest' → rest.updates.items ≡ rest'.updates.items →
    HadMemory rest.refused.items → HadMemory rest'.refused.items → ReturnTheSameInPieces sent sent' ends ends' rest rest'
