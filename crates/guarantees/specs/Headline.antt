-- The headline, of a verified image and of what a replay of it hands back, in two fields.
use Rattle.std.specs.Prelude.{◌≡◌, ◌*◌, List, length, map}
use Rattle.ebpf_decode.specs.declared.map.MapDef.{MapDef}
use Rattle.wire.specs.declared.records.Sent.{Sent}
use Rattle.semantics.specs.declared.options.Options.{Options}
use Rattle.semantics.specs.System.{SystemEvent}
use Rattle.semantics.specs.Safety.{IsSafeImage}
use Rattle.semantics.specs.Replay.{RecordEnd, IsReplay}
use Rattle.semantics.specs.ShardPlan.{AreOptions}
use Rattle.verifier.specs.Verified.{Verified}
use Rattle.journals.specs.JournalsView.{JournalsView}
use Rattle.control.specs.declared.command.Command.{Command}
use Rattle.actors.specs.declared.outcome.Outcome.{Outcome}
use Rattle.actors.specs.Commands.{CommandDone}
use Rattle.actors.specs.Parts.{AreOfScript}
use Rattle.guarantees.specs.ReplayOf.{asked_of, told_of, result_of}
use Rattle.guarantees.specs.SystemRuns.{setting_of}

-- there is one for each shard of these maps, which were opened with these options
pub record AreJournalsOf (maps : List MapDef) (options : Options) (journals : JournalsView) : Type 0 where
  pub maps_are : journals.maps ≡ maps
  pub options_are : journals.options ≡ options
  pub count : length journals.shards ≡ length maps * options.shards

-- What was asked and what is handed back are one list of events of the system (`IsReplay`).
pub record IsOneReplay (verified : Verified) (script : List Command) (options : Options) (records : List Sent) (outcome : Outcome) :
    Type 0 where
  -- the image's maps can be opened with these options, so that it is safe (`IsSafeImage`) for the events of this very replay
  pub options_fit : AreOptions verified.maps options
  -- the calls of each command are those of the script
  pub done : List CommandDone
  pub of_script : AreOfScript verified.maps script outcome.refused.items done
  -- how each record ended, with the frame as its run left it, or at which full journal it was stopped: but for the frames that are not sent, and
  -- for which journal it was, this is handed back
  pub ends : List RecordEnd
  pub are_told : map told_of ends ≡ outcome.ends.items
  -- the journals are those of all shards of the image's maps
  pub journals_are : AreJournalsOf verified.maps options outcome.journals
  -- the events are a replay of the records, the updates before the first and the commands, with these ends, and with the numbers, the sent
  -- frames, the answers and the journals that are handed back
  pub events : List SystemEvent
  pub are : IsReplay (setting_of verified options) (asked_of verified script options records outcome done) (result_of outcome done ends) events

pub record Headline (verified : Verified) (script : List Command) (options : Options) (records : List Sent) (outcome : Outcome) : Type 0 where
  -- whatever frames arrive and however the shared steps interleave, no run traps, and each ends within as many instructions as the image
  -- has slots
  pub safe : IsSafeImage verified.maps verified.code
  -- the replay is a list of steps of the system, in which each run gives the verdict and the frame of its program's meaning on the replies
  -- that it was handed, each the one-thread map's at the run's own place in the one history of its shard
  pub replay : IsOneReplay verified script options records outcome
