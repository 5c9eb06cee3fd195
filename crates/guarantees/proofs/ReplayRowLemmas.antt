-- Three computed replays, and lists of events that are none.
use Rattle.std.proofs.Common.{◌≡◌, ℕ, zero, suc, ◌<◌, ◌==◌, false, List, [], ◌∷◌, ◌++◌, replicate, refl, sym, ◌∙◌, ap, subst, append_assoc, arith}
use Rattle.std.proofs.lemmas.List.{reverse-append}
use Rattle.std.specs.Prelude.{length, map, reverse}
use Rattle.std.proofs.lemmas.Bool.Decides.{nat_tests}
use Rattle.ebpf_decode.specs.InstructionEncoding.{slot_count}
use Rattle.semantics.specs.declared.call.Call.{Call}
use Rattle.semantics.specs.System.{SystemState, SystemEvent, BeginsRun, Controls, Reclaims, WorkerState, Idle, worker_state, history_of, IsInputFrame, opening_system, system_after}
use Rattle.semantics.specs.SystemRows.{frame_of}
use Rattle.semantics.proofs.shared.ConditionLemmas.{tested_bytes}
use Rattle.semantics.proofs.shared.SystemSteps.{same_everywhere}
use Rattle.semantics.specs.Events.{begun_by, ended_by}
use Rattle.semantics.specs.Replay.{inputs_of, first_calls, ends_by, IsReplay}
use Rattle.semantics.specs.declared.call.Call.TheVariants.{Delete}
use Rattle.semantics.specs.Replay.{Captured}
use Rattle.semantics.specs.SystemRows.{key_of_byte, instructions}
use Rattle.semantics.specs.System.{DoesInstruction, CallsShard, LeavesShard}
use Rattle.guarantees.specs.InParts.{AreAllIdle}
use Rattle.guarantees.specs.TurnByTurn.{AreEventsOfRecord, IsTurnByTurn}
use Rattle.guarantees.specs.ReplayRows.{put, short_frame, one_frame, held_turns, first_turns, early_round, replay_setting, held_asked, held_run, held_command, held_end, held_events, held_result, held_ending, full_asked, full_events, full_result, first_asked, first_events, first_result, ReplayRows}
use Rattle.guarantees.proofs.RowRuns.{input_of}

frame_zero : IsInputFrame (frame_of 0)
frame_zero = input_of (frame_of 0) (omega arith) (omega arith) (tested_bytes (frame_of 0) refl)

all_idle : (system : SystemState) (worker : ℕ) → system.workers ≡ replicate 8 Idle → worker_state system worker ≡ Idle
all_idle system worker are = ap (λ (list : List WorkerState). worker_state (record { workers = list; histories = system.histories }) worker) are ∙ same_everywhere 8 worker Idle

another : (worker : ℕ) → (0 == suc worker) ≡ false
another worker = grind (arith, nat_tests)

held_begun : (worker : ℕ) → begun_by worker (held_events) ≡ inputs_of held_asked worker
held_begun zero = refl
held_begun (suc worker) = rw (another worker) refl

held_ended : (worker : ℕ) → ended_by replay_setting worker (opening_system replay_setting) (held_events) ≡ ends_by worker (held_result held_ending).ends
unfolding slot_count
held_ended zero = refl
held_ended (suc worker) = rw (another worker) refl

held_left : (shard : ℕ) → shard < 1 → reverse (history_of (system_after replay_setting held_events) shard) ≡ (held_result held_ending).journals shard
unfolding slot_count
held_left zero below = refl
held_left (suc shard) below = absurd (omega (arith, below))

held_is : IsReplay replay_setting held_asked (held_result held_ending) (held_events)
unfolding slot_count
held_is = record {
  can = ((refl, refl), ((omega arith, refl, frame_zero, omega arith, omega arith), (refl, (refl, (refl, (refl, (refl, (refl, ((refl, refl), ((refl, refl), (refl, (refl, (refl, (refl, (refl, (refl, tt))))))))))))))));
  begun = held_begun;
  called = refl;
  later = held_run ++ held_command ++ held_end ++ Reclaims 0 ∷ [];
  first = refl;
  gone_over = refl;
  runners = refl;
  ended = held_ended;
  totals = refl;
  sent = refl;
  answers = refl;
  of_calls = record { first = refl; each = refl };
  left = held_left;
  idle = λ worker. all_idle (system_after replay_setting held_events) worker refl;
}

full_begun : (worker : ℕ) → begun_by worker (full_events (Reclaims 0 ∷ [])) ≡ inputs_of full_asked worker
full_begun zero = refl
full_begun (suc worker) = rw (another worker) refl

full_ended : (worker : ℕ) → ended_by replay_setting worker (opening_system replay_setting) (full_events (Reclaims 0 ∷ [])) ≡ ends_by worker (full_result).ends
unfolding slot_count
full_ended zero = refl
full_ended (suc worker) = rw (another worker) refl

full_left : (shard : ℕ) → shard < 1 → reverse (history_of (system_after replay_setting (full_events (Reclaims 0 ∷ []))) shard) ≡ (full_result).journals shard
unfolding slot_count
full_left zero below = refl
full_left (suc shard) below = absurd (omega (arith, below))

full_is : IsReplay replay_setting full_asked (full_result) (full_events (Reclaims 0 ∷ []))
unfolding slot_count
full_is = record {
  can = ((omega arith, refl, frame_zero, omega arith, omega arith), (refl, (refl, (refl, (refl, (refl, ((refl, refl), ((refl, refl), ((refl, refl), ((refl, refl), ((refl, refl), ((refl, refl), ((refl, refl), ((refl, refl), ((refl, refl), ((refl, refl), ((refl, refl), ((refl, refl), ((refl, refl), ((refl, refl), ((refl, refl), (refl, (refl, (refl, tt))))))))))))))))))))))));
  begun = full_begun;
  called = refl;
  later = full_events (Reclaims 0 ∷ []);
  first = refl;
  gone_over = refl;
  runners = refl;
  ended = full_ended;
  totals = refl;
  sent = refl;
  answers = refl;
  of_calls = record { first = refl; each = refl };
  left = full_left;
  idle = λ worker. all_idle (system_after replay_setting (full_events (Reclaims 0 ∷ []))) worker refl;
}

first_begun : (worker : ℕ) → begun_by worker (first_events) ≡ inputs_of first_asked worker
first_begun zero = refl
first_begun (suc worker) = rw (another worker) refl

first_ended : (worker : ℕ) → ended_by replay_setting worker (opening_system replay_setting) (first_events) ≡ ends_by worker (first_result).ends
unfolding slot_count
first_ended zero = refl
first_ended (suc worker) = rw (another worker) refl

first_left : (shard : ℕ) → shard < 1 → reverse (history_of (system_after replay_setting first_events) shard) ≡ (first_result).journals shard
unfolding slot_count
first_left zero below = refl
first_left (suc shard) below = absurd (omega (arith, below))

first_is : IsReplay replay_setting first_asked (first_result) (first_events)
unfolding slot_count
first_is = record {
  can = ((refl, refl), ((refl, refl), ((omega arith, refl, frame_zero, omega arith, omega arith), (refl, (refl, (refl, (refl, (refl, (refl, (refl, (refl, (refl, (refl, (refl, (refl, tt)))))))))))))));
  begun = first_begun;
  called = refl;
  later = held_run ++ held_end ++ Reclaims 0 ∷ [];
  first = refl;
  gone_over = refl;
  runners = refl;
  ended = first_ended;
  totals = refl;
  sent = refl;
  answers = refl;
  of_calls = record { first = refl; each = refl };
  left = first_left;
  idle = λ worker. all_idle (system_after replay_setting first_events) worker refl;
}

-- ---- turn by turn

abbrev still : List SystemEvent → Type 0
still events = (system_after replay_setting events).workers ≡ replicate 8 Idle

idle_after : (events : List SystemEvent) → still events → AreAllIdle replay_setting events
idle_after events are worker = all_idle (system_after replay_setting events) worker are

first_in_turns : IsTurnByTurn replay_setting first_asked first_turns first_events
unfolding slot_count
first_in_turns =
    let updates : List SystemEvent = Controls (put 1 5) ∷ [] in
    let command : List SystemEvent = Controls (put 1 9) ∷ [] in
    let run : List SystemEvent = held_run ++ held_end in
    record {
      later = command ++ (run ++ Reclaims 0 ∷ []);
      first = refl;
      in_turns = (
        command,
        run ++ Reclaims 0 ∷ [],
        refl,
        (put 1 9 ∷ [], refl, refl),
        idle_after (updates ++ command) refl,
        (
          [],
          run ++ Reclaims 0 ∷ [],
          refl,
          (short_frame, refl, refl),
          idle_after (updates ++ command) refl,
          (
            run,
            Reclaims 0 ∷ [],
            refl,
            (
              one_frame,
              refl,
              (
                instructions 4 ++ CallsShard 0 ∷ CallsShard 0 ∷ held_end,
                refl,
                (refl, (refl, (refl, (refl, (refl, (refl, (refl, (refl, (refl, (refl, (refl, tt))))))))))),
              ),
            ),
            idle_after ((updates ++ command) ++ run) refl,
            (Reclaims 0 ∷ [], [], refl, refl, idle_after (((updates ++ command) ++ run) ++ Reclaims 0 ∷ []) refl, refl),
          ),
        ),
      );
    }

-- ---- what is none

none_or_one : {A : Type 0} (x : A) → [] ≡ x ∷ [] → ⊥
none_or_one x is = cc

one_or_two : {A : Type 0} (x y z : A) → x ∷ y ∷ [] ≡ z ∷ [] → ⊥
one_or_two x y z is = cc

the_one : {A : Type 0} (x y : A) → x ∷ [] ≡ y ∷ [] → y ≡ x
the_one x y is = cc

begins_not_controls : (worker : ℕ) (frame : List ℕ) (now told : ℕ) (call : Call) (events later : List SystemEvent) →
    BeginsRun worker frame now told ∷ events ≡ Controls call ∷ later → ⊥
begins_not_controls worker frame now told call events later is = cc

controls_not_begins : (later : List SystemEvent) → held_events ≡ map (λ (call : Call). Controls call) (first_calls (record held_asked { first = 1 })) ++ later → ⊥
controls_not_begins later is = cc

reclaims_not_leaves : (shard worker one : ℕ) (events later : List SystemEvent) → Reclaims shard ∷ events ≡ LeavesShard worker one ∷ later → ⊥
reclaims_not_leaves shard worker one events later is = cc

-- the command would come before the run begins
held_in_none : IsTurnByTurn replay_setting held_asked held_turns held_events → ⊥
held_in_none is =
    let short = is.in_turns in
    let command = short.5 in
    let one : short_frame ≡ short.3.0 = cc short.3.1 in
    let none : short.0 ≡ [] = subst (λ (captured : Captured). AreEventsOfRecord held_asked captured short.0) (sym one) short.3.2 in
    let calls : Delete 0 (key_of_byte 1) ∷ put 2 9 ∷ [] ≡ command.3.0 = cc command.3.1 in
    let left : held_run ++ held_command ++ held_end ++ Reclaims 0 ∷ [] ≡ is.later = cc is.first in
    begins_not_controls _ _ _ _ _ _ _
    (left ∙ short.2 ∙ ap (λ (list : List SystemEvent). list ++ short.1) none ∙ command.2
    ∙ ap (λ (list : List SystemEvent). list ++ command.1)
    (command.3.2 ∙ ap (λ (list : List Call). map (λ (call : Call). Controls call) list) (sym calls)))

-- the list would end with a Leave, and not with the round
round_within : IsTurnByTurn replay_setting first_asked first_turns early_round → ⊥
round_within is =
    let command = is.in_turns in
    let short = command.5 in
    let run = short.5 in
    let round = run.5 in
    let last : List SystemEvent = Reclaims 0 ∷ [] in
    let tail : List SystemEvent =
    Controls (put 1 9) ∷ held_run ++ DoesInstruction 0 ∷ CallsShard 0 ∷ instructions 2 ++ Reclaims 0 ∷ LeavesShard 0 0 ∷ [] in
    let left : tail ≡ is.later = cc is.first in
    let front : List SystemEvent = (command.0 ++ short.0) ++ run.0 in
    let parts : tail ≡ front ++ last =
    left ∙ command.2
    ∙ ap (λ (list : List SystemEvent). command.0 ++ list)
    (short.2 ∙ ap (λ (list : List SystemEvent). short.0 ++ list)
    (run.2 ∙ ap (λ (list : List SystemEvent). run.0 ++ list) (round.2 ∙ (λ i. round.3 i ++ round.5 i))))
    ∙ sym (append_assoc command.0 short.0 (run.0 ++ last)) ∙ sym (append_assoc (command.0 ++ short.0) run.0 last) in
    reclaims_not_leaves 0 0 0 (reverse front) _ (sym (reverse-append front last) ∙ ap reverse (sym parts))

pub replay_rows : ReplayRows
unfolding slot_count
replay_rows = record {
  held = held_is;
  full = full_is;
  first = first_is;
  first_in_turns = first_in_turns;
  held_in_none = held_in_none;
  round_within = round_within;
  no_run = λ is. none_or_one _ (is.begun 0);
  run_twice = λ is. one_or_two _ _ _ (is.begun 0);
  another_end = λ ending apart is. apart (the_one held_ending ending (is.ended 0));
  other_totals = λ totals apart events is. apart is.totals;
  late_update = λ is. begins_not_controls _ _ _ _ _ _ _ is.first;
  late_command = λ is. controls_not_begins is.later is.first;
  no_call = λ is. let two : 1 ≡ 3 = ap (λ (calls : List Call). length calls) is.called in omega (arith, two);
  unasked_call = λ is. let two : 16 ≡ 15 = ap (λ (calls : List Call). length calls) is.called in omega (arith, two);
  unasked_round = λ is. one_or_two _ _ _ is.gone_over;
}
