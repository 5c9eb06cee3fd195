-- A replay is one list of events of the system. What is begun, called and gone over in it is what the capture, the script and the rounds
-- say, and nothing else; each record's end, the report's numbers, what is sent, the answers and the journals are what comes of it.
use Rattle.std.specs.Prelude.{◌≡◌, ℕ, zero, suc, ◌+◌, ◌*◌, ◌/◌, ◌<◌, ◌==◌, Bool, true, false, not, ◌&&◌, nat_lt, List, [], ◌∷◌, ◌++◌}
use Rattle.std.specs.Prelude.{length, map, filter, take, Option, Some, None, if◌then◌else◌}
use Rattle.std.specs.List.{flat_map}
use Rattle.ebpf_decode.specs.declared.map.MapKind.{MapKind}
use Rattle.ebpf_decode.specs.declared.map.MapKind.TheVariants.{Array}
use Rattle.semantics.specs.declared.call.Call.{Call}
use Rattle.semantics.specs.declared.call.Reply.{Reply}
use Rattle.semantics.specs.declared.plan.ShardPlan.{ShardPlan}
use Rattle.semantics.specs.declared.verdict.Verdict.TheVariants as verdicts
use Rattle.semantics.specs.ShardPlan.{plan_at}
use Rattle.semantics.specs.System.{Setting, SystemEvent, Controls, Idle, worker_state, journal_of, opening_system, system_after, CanAllHappen}
use Rattle.semantics.specs.Events.{Input, Ending, Exited, Stopped, begun_by, controlled, reclaimed, answered, ended_by}
use Rattle.semantics.specs.Entries.{Journal}

-- ---- what is asked of a replay

-- a frame, with the moment at which it was captured or is sent
pub record Captured : Type 0 where
  pub seconds : ℕ
  pub micros : ℕ
  pub bytes : List ℕ

pub record Asked : Type 0 where
  -- the records, in the capture's order
  pub records : List Captured
  -- the worker that runs a frame
  pub worker_of : List ℕ → ℕ
  -- the controller's calls: updates that it makes first of all, then those of each command of the script
  pub updates : List Call
  pub commands : List (List Call)
  -- how many of the commands come before the first record
  pub first : ℕ

-- a record without a whole Ethernet header is not run
abbrev pub is_short_record : Captured → Bool
is_short_record one = nat_lt (length one.bytes) 14

-- a run is begun on a record's frame, at its moment in nanoseconds, and gets its worker's number
abbrev pub input_of : ℕ → Captured → Input
input_of worker one = record { frame = one.bytes; now = (one.seconds * 1000000 + one.micros) * 1000; told = worker }

abbrev pub is_run_by : (List ℕ → ℕ) → ℕ → Captured → Bool
is_run_by worker_of worker one = not (is_short_record one) && (worker_of one.bytes == worker)

-- a worker's share of the records, in the capture's order
abbrev pub inputs_of : Asked → ℕ → List Input
inputs_of asked worker = map (input_of worker) (filter (is_run_by asked.worker_of worker) asked.records)

-- the worker that runs the record, if it is run
abbrev pub runner_of : (List ℕ → ℕ) → Captured → Option ℕ
runner_of worker_of one = if is_short_record one then None else Some (worker_of one.bytes)

abbrev pub calls_of : Asked → List Call
calls_of asked = asked.updates ++ flat_map (λ calls. calls) asked.commands

-- the updates, and the calls of the commands before the first record
abbrev pub first_calls : Asked → List Call
first_calls asked = asked.updates ++ flat_map (λ calls. calls) (take asked.first asked.commands)

-- the shards that have retired cells, the lowest number first: those of hash and LRU maps
abbrev pub is_keyed : MapKind → Bool
is_keyed Array = false
is_keyed kind = true

abbrev pub is_of_keyed : Option ShardPlan → Bool
is_of_keyed (Some plan) = is_keyed plan.definition.kind
is_of_keyed None = false

abbrev pub keyed_shards : Setting → ℕ → List ℕ
keyed_shards setting zero = []
keyed_shards setting (suc count) =
    if is_of_keyed (plan_at setting.maps setting.options count) then keyed_shards setting count ++ count ∷ []
    else keyed_shards setting count

-- this many rounds of the reclaimer, each over all of these shards
abbrev pub rounds_over : List ℕ → ℕ → List ℕ
rounds_over shards zero = []
rounds_over shards (suc rounds) = shards ++ rounds_over shards rounds

abbrev pub shard_count : Setting → ℕ
shard_count setting = length setting.maps * setting.options.shards

-- one round for every full 64 records, and one at the end
abbrev pub rounds_of : Setting → Asked → List ℕ
rounds_of setting asked = rounds_over (keyed_shards setting (shard_count setting)) (length asked.records / 64 + 1)

-- ---- what comes of it

-- what became of a record
pub data RecordEnd : Type 0 where
  -- it is short
  Short : RecordEnd
  -- a worker ran it, and this is how the run ended
  Ran : (worker : ℕ) → (ending : Ending) → RecordEnd

-- how many records ended in which way
pub record Totals : Type 0 where
  pub short : ℕ
  pub stopped : ℕ
  pub aborted : ℕ
  pub drop : ℕ
  pub pass : ℕ
  pub tx : ℕ

pub record Result : Type 0 where
  -- what became of each record, in the capture's order
  pub ends : List RecordEnd
  -- the numbers of the report
  pub totals : Totals
  -- what is sent, in the capture's order
  pub sent : List Captured
  -- the answers to the updates, and to the calls of each command: none where a journal was full
  pub first_answers : List (Option Reply)
  pub answers : List (List (Option Reply))
  -- the journal of each shard, the oldest entry first
  pub journals : ℕ → Journal

-- who ran a record
abbrev pub ran_by : RecordEnd → Option ℕ
ran_by Short = None
ran_by (Ran worker ending) = Some worker

-- how the runs of a worker ended, by what became of the records
abbrev pub ends_by : ℕ → List RecordEnd → List Ending
ends_by worker [] = []
ends_by worker (Short ∷ later) = ends_by worker later
ends_by worker (Ran one ending ∷ later) = if one == worker then ending ∷ ends_by worker later else ends_by worker later

-- one end more is counted
abbrev pub with_end : Totals → RecordEnd → Totals
with_end totals Short = record totals { short = totals.short + 1 }
with_end totals (Ran worker (Stopped shard)) = record totals { stopped = totals.stopped + 1 }
with_end totals (Ran worker (Exited verdicts.Aborted frame steps)) = record totals { aborted = totals.aborted + 1 }
with_end totals (Ran worker (Exited verdicts.Drop frame steps)) = record totals { drop = totals.drop + 1 }
with_end totals (Ran worker (Exited verdicts.Pass frame steps)) = record totals { pass = totals.pass + 1 }
with_end totals (Ran worker (Exited verdicts.Tx frame steps)) = record totals { tx = totals.tx + 1 }

abbrev pub with_ends : Totals → List RecordEnd → Totals
with_ends totals [] = totals
with_ends totals (end ∷ later) = with_ends (with_end totals end) later

abbrev pub totals_of : List RecordEnd → Totals
totals_of ends = with_ends (record { short = 0; stopped = 0; aborted = 0; drop = 0; pass = 0; tx = 0 }) ends

-- the frame as the run left it, at its record's moment, where the verdict sends it
abbrev pub sent_at : Captured → Ending → List Captured
sent_at one (Exited verdicts.Tx frame steps) = record { seconds = one.seconds; micros = one.micros; bytes = frame } ∷ []
sent_at one ending = []

abbrev pub sent_for : Captured → RecordEnd → List Captured
sent_for one Short = []
sent_for one (Ran worker ending) = sent_at one ending

abbrev pub frames_sent : List Captured → List RecordEnd → List Captured
frames_sent [] ends = []
frames_sent (one ∷ records) [] = []
frames_sent (one ∷ records) (end ∷ ends) = sent_for one end ++ frames_sent records ends

abbrev pub answers_in : Result → List (Option Reply)
answers_in result = result.first_answers ++ flat_map (λ answers. answers) result.answers

-- as many answers as calls, of the first updates and of each command
pub record AreAnswersOf (asked : Asked) (result : Result) : Type 0 where
  pub first : length result.first_answers ≡ length asked.updates
  pub each :
      map (λ (answers : List (Option Reply)). length answers) result.answers
      ≡ map (λ (calls : List Call). length calls) asked.commands

-- ---- the statement

-- These events, the oldest first, are a replay of what was asked, with this result.
pub record IsReplay (setting : Setting) (asked : Asked) (result : Result) (events : List SystemEvent) : Type 0 where
  -- they can all happen, one after the other, from the opening on
  pub can : CanAllHappen setting events
  -- each worker runs its share of the records, one after the other; the controller makes first the updates and then the
  -- calls of the commands, in the script's order over all shards; the reclaimer makes its rounds; and nothing else happens
  pub begun : (worker : ℕ) → begun_by worker events ≡ inputs_of asked worker
  pub called : controlled events ≡ calls_of asked
  -- before all else come the updates and the calls of the commands before the first record
  pub later : List SystemEvent
  pub first : events ≡ map (λ (call : Call). Controls call) (first_calls asked) ++ later
  pub gone_over : reclaimed events ≡ rounds_of setting asked
  -- each record has the end of its run
  pub runners : map ran_by result.ends ≡ map (runner_of asked.worker_of) asked.records
  pub ended : (worker : ℕ) → ended_by setting worker (opening_system setting) events ≡ ends_by worker result.ends
  -- the report's numbers and what is sent are those of these ends
  pub totals : result.totals ≡ totals_of result.ends
  pub sent : result.sent ≡ frames_sent asked.records result.ends
  -- each call of the controller has its answer
  pub answers : answered setting (opening_system setting) events ≡ answers_in result
  pub of_calls : AreAnswersOf asked result
  -- after them each shard's history is its journal, and every worker is idle
  pub left :
      (shard : ℕ) → shard < shard_count setting →
      journal_of (system_after setting events) shard ≡ result.journals shard
  pub idle : (worker : ℕ) → worker_state (system_after setting events) worker ≡ Idle
