-- How large the journals are changes nothing of what an exact replay sends, where none was full for a run or for a command.
use Rattle.std.specs.Prelude.{◌≡◌, ◌≢◌, List, Some}
use Rattle.std.specs.List.{AllByRecursion}
use Rattle.wire.specs.declared.records.Sent.{Sent}
use Rattle.semantics.specs.declared.options.Options.{Options}
use Rattle.semantics.specs.Program.{Program}
use Rattle.control.specs.declared.command.Command.{Command}
use Rattle.control.specs.declared.fault.ControlFault.TheVariants.{JournalFull}
use Rattle.actors.specs.declared.outcome.Applied.{Applied}
use Rattle.actors.specs.declared.outcome.Outcome.{Outcome}
use Rattle.replay.specs.ExactReplays.{IsInTurn}
use Rattle.replay.specs.SameReplays.{HadMemory, AreSameFrames}

-- no journal was full for a run or for a command (one may have been full for a round)
pub record HadRoom (outcome : Outcome) : Type 0 where
  pub none_stopped : outcome.counts.stopped ≡ 0
  pub commands : AllByRecursion (λ (one : Applied). one.fault ≢ Some JournalFull) outcome.refused.items

-- the same options, but for how many entries a journal has room for
pub record AreSameButJournals (one other : Options) : Type 0 where
  pub workers : one.workers ≡ other.workers
  pub shards : one.shards ≡ other.shards

-- two replays return the same, but for their journals
pub record SendTheSame (one other : Outcome) : Type 0 where
  pub counts : one.counts ≡ other.counts
  pub ends : one.ends.items ≡ other.ends.items
  pub sent : AreSameFrames one.sent.items other.sent.items
  pub refused : one.refused.items ≡ other.refused.items

-- any two exact replays of the same input with journals of any two sizes
abbrev pub JournalsChangeNothing : Type 0
JournalsChangeNothing =
    (program : Program) (script : List Command) (options others_options : Options) (records others : List Sent) (one other : Outcome) →
    AreSameButJournals options others_options → AreSameFrames records others → IsInTurn program script options records one →
    IsInTurn program script others_options others other → one.updates.items ≡ other.updates.items → HadMemory one.refused.items →
    HadMemory other.refused.items → HadRoom one → HadRoom other → SendTheSame one other
