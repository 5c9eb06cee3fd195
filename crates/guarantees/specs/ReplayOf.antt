-- What a replay was asked and what it hands back, in the model's words.
use Rattle.std.specs.Prelude.{◌++◌, List, [], ◌∷◌, map, Option, Some, None}
use Rattle.ebpf_decode.specs.declared.map.MapDef.{MapDef}
use Rattle.wire.specs.declared.records.Sent.{Sent}
use Rattle.semantics.specs.declared.call.Call.{Call}
use Rattle.semantics.specs.declared.call.Reply.{Reply}
use Rattle.semantics.specs.declared.call.Reply.TheVariants.{Answer}
use Rattle.semantics.specs.declared.options.Options.{Options}
use Rattle.verifier.specs.Verified.{Verified}
use Rattle.journals.specs.JournalsView.{entries_at}
use Rattle.control.specs.MapUpdates.{UpdateBytes}
use Rattle.actors.specs.declared.account.Counts.{Counts}
use Rattle.actors.specs.declared.outcome.Outcome.{Outcome}
use Rattle.actors.specs.declared.outcome.ToldEnd.{ToldEnd}
use Rattle.actors.specs.declared.outcome.ToldEnd.TheVariants as told
use Rattle.actors.specs.Commands.{AnsweredUpdate, CommandDone, all_set}
use Rattle.control.specs.declared.command.Command.{Command}
use Rattle.actors.specs.Parts.{first_commands}
use Rattle.actors.specs.SharedUpdates.{shard_of, controller_update}
use Rattle.actors.specs.Shares.{captured_of, worker_of_frame}
use Rattle.semantics.specs.Events.{Exited, Stopped}
use Rattle.semantics.specs.Replay.{Asked, RecordEnd, Short, Ran, Totals, Result}

-- ---- what was asked

-- an update is a call on the shard that its key has
abbrev pub call_of_shared_update : List MapDef → Options → UpdateBytes → Call
call_of_shared_update maps options update = controller_update (shard_of maps options update) update

abbrev pub calls_made : List MapDef → Options → List AnsweredUpdate → List Call
calls_made maps options made = map (λ (one : AnsweredUpdate). call_of_shared_update maps options one.update) made

-- the call that met a full journal, if one did
abbrev pub stopped_call : List MapDef → Options → Option UpdateBytes → List Call
stopped_call maps options None = []
stopped_call maps options (Some update) = call_of_shared_update maps options update ∷ []

-- the calls of a command: its updates, in order, the one that met a full journal last
abbrev pub command_calls : List MapDef → Options → CommandDone → List Call
command_calls maps options one = calls_made maps options one.made ++ stopped_call maps options one.stopped

abbrev pub asked_of : Verified → List Command → Options → List Sent → Outcome → List CommandDone → Asked
asked_of verified script options records outcome done = record {
  records = map captured_of records;
  worker_of = λ frame. worker_of_frame frame options.workers;
  updates = calls_made verified.maps options (all_set outcome.updates.items);
  commands = map (command_calls verified.maps options) done;
  first = first_commands script;
}

-- ---- what came of it

abbrev pub totals_in : Counts → Totals
totals_in counts = record {
  short = counts.short;
  stopped = counts.stopped;
  aborted = counts.aborted;
  drop = counts.drop;
  pass = counts.pass;
  tx = counts.tx;
}

abbrev pub answers_made : List AnsweredUpdate → List (Option Reply)
answers_made made = map (λ (one : AnsweredUpdate). Some (Answer one.answer)) made

-- no answer to the call that met a full journal
abbrev pub stopped_answer : Option UpdateBytes → List (Option Reply)
stopped_answer None = []
stopped_answer (Some update) = None ∷ []

abbrev pub command_answers : CommandDone → List (Option Reply)
command_answers one = answers_made one.made ++ stopped_answer one.stopped

-- what is handed back of a record's end: all but a frame that is not sent, and which journal was full
abbrev pub told_of : RecordEnd → ToldEnd
told_of Short = told.Short
told_of (Ran worker (Stopped shard)) = told.Stopped worker
told_of (Ran worker (Exited verdict frame steps)) = told.Exited worker verdict steps

abbrev pub result_of : Outcome → List CommandDone → List RecordEnd → Result
result_of outcome done ends = record {
  ends = ends;
  totals = totals_in outcome.counts;
  sent = map captured_of outcome.sent.items;
  first_answers = answers_made (all_set outcome.updates.items);
  answers = map command_answers done;
  journals = λ shard. entries_at outcome.journals shard;
}
