-- A replay that accounts for its records keeps the headline; and the headline's list of events is that of the runs, the commands and the one
-- order of all deeds that are accounted for.
use Rattle.std.specs.Prelude.{◌≡◌, List}
use Rattle.std.specs.List.{AllByRecursion}
use Rattle.wire.specs.declared.records.Sent.{Sent}
use Rattle.semantics.specs.declared.options.Options.{Options}
use Rattle.semantics.specs.ShardPlan.{AreOptions}
use Rattle.verifier.specs.Verified.{Verified}
use Rattle.machine.specs.Running.{program_of}
use Rattle.control.specs.declared.command.Command.{Command}
use Rattle.control.specs.ScriptText.{CommandFits}
use Rattle.actors.specs.declared.outcome.Outcome.{Outcome}
use Rattle.actors.specs.Accounted.{IsAccounted}
use Rattle.guarantees.specs.Headline.{Headline}
use Rattle.guarantees.specs.LastRound.{EndWithRound}
use Rattle.guarantees.specs.RunsInList.{AreOfAccounted}
use Rattle.guarantees.specs.SystemRuns.{setting_of}
use Rattle.actors.specs.Captured.{IsCaptured}

pub record HeadlineOf (verified : Verified) (script : List Command) (options : Options) (records : List Sent) (outcome : Outcome)
    (accounted : IsAccounted (program_of verified options.shards) script options records outcome) : Type 0 where
  pub headline : Headline verified script options records outcome
  pub same_commands : headline.replay.done ≡ accounted.commands.done
  pub same_events : AreOfAccounted verified script options records outcome accounted headline.replay.events
  -- they end with the reclaimer's last round: nothing is written behind it
  pub closes : EndWithRound (setting_of verified options) accounted.plan accounted.count accounted.order headline.replay.events

-- it holds of every replay that accounts for its records
abbrev pub ReplaysKeepHeadline : Verified → Type 0
ReplaysKeepHeadline verified =
    (script : List Command) (options : Options) (records : List Sent) (outcome : Outcome) → AreOptions verified.maps options →
    AllByRecursion IsCaptured records → AllByRecursion CommandFits script →
    (accounted : IsAccounted (program_of verified options.shards) script options records outcome) →
    HeadlineOf verified script options records outcome accounted
