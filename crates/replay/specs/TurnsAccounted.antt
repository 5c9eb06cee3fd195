-- What was made in turn is accounted for as a replay on threads is, and the one order of all deeds is that of the turns.
use Rattle.std.specs.Prelude.{List}
use Rattle.wire.specs.declared.records.Sent.{Sent}
use Rattle.semantics.specs.declared.options.Options.{Options}
use Rattle.semantics.specs.Program.{Program}
use Rattle.semantics.specs.ShardPlan.{AreOptions}
use Rattle.control.specs.declared.command.Command.{Command}
use Rattle.actors.specs.declared.outcome.Outcome.{Outcome}
use Rattle.replay.specs.ExactReplays.{IsInTurn}
use Rattle.replay.specs.TurnOrder.{IsExact}

abbrev pub TurnsAreAccounted : Type 0
TurnsAreAccounted =
    (program : Program) (script : List Command) (options : Options) (records : List Sent) (outcome : Outcome) →
    AreOptions program.maps options → IsInTurn program script options records outcome → IsExact program script options records outcome
