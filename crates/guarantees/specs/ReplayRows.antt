-- Three replays, computed: and what is none. In the first a command deletes a key whose cell a run holds; in the second a journal is full; in
-- the third a command comes before the first record.
use Rattle.std.specs.Prelude.{◌≢◌, ℕ, pos, List, [], ◌∷◌, ◌++◌, replicate, Option, Some, None}
use Rattle.ebpf_decode.specs.declared.map.MapKind.TheVariants.{Hash}
use Rattle.semantics.specs.declared.call.Call.{Call}
use Rattle.semantics.specs.declared.call.Call.TheVariants.{Enter, Leave, Lookup, Load, Update, Delete, Reclaim}
use Rattle.semantics.specs.declared.call.Reply.{Reply}
use Rattle.semantics.specs.declared.call.Reply.TheVariants.{Entered, Left, Cell, Word, Answer, Freed}
use Rattle.semantics.specs.declared.verdict.Verdict.TheVariants.{Pass}
use Rattle.semantics.specs.System.{Setting, SystemEvent, BeginsRun, DoesInstruction, CallsShard, LeavesShard, Controls, Reclaims}
use Rattle.semantics.specs.SystemRows.{setting_over, looking_up, frame_of, key_of_byte, value_of, cell_at, instructions}
use Rattle.semantics.specs.SystemRows.{by_worker, by_controller, by_reclaimer}
use Rattle.semantics.specs.Events.{Ending, Exited, Stopped}
use Rattle.semantics.specs.Replay.{Captured, Asked, Short, Ran, Totals, Result, IsReplay}
use Rattle.guarantees.specs.TurnByTurn.{Turn, TheCommand, TheRecord, TheRound, IsTurnByTurn}

abbrev pub replay_setting : Setting
replay_setting = setting_over Hash looking_up

-- a captured frame of 14 bytes, seven microseconds after the clock's zero, and one that is short
abbrev pub one_frame : Captured
one_frame = record { seconds = 0; micros = 7; bytes = frame_of 0 }

abbrev pub short_frame : Captured
short_frame = record { seconds = 0; micros = 8; bytes = key_of_byte 0 }

abbrev pub put : ℕ → ℕ → Call
put key value = Update 0 (key_of_byte key) (value_of value) 0

abbrev pub answer : Option Reply
answer = Some (Answer (pos 0))

abbrev pub no_totals : Totals
no_totals = record { short = 0; stopped = 0; aborted = 0; drop = 0; pass = 0; tx = 0 }

-- ---- a run, and a command that takes the key away while the run holds its cell

abbrev pub held_asked : Asked
held_asked = record {
  records = short_frame ∷ one_frame ∷ [];
  worker_of = λ frame. 0;
  updates = put 1 5 ∷ [];
  commands = (Delete 0 (key_of_byte 1) ∷ put 2 9 ∷ []) ∷ [];
  first = 0;
}

abbrev pub held_run : List SystemEvent
held_run = BeginsRun 0 (frame_of 0) 7000 0 ∷ instructions 4 ++ CallsShard 0 ∷ CallsShard 0 ∷ []

abbrev pub held_command : List SystemEvent
held_command = Controls (Delete 0 (key_of_byte 1)) ∷ Controls (put 2 9) ∷ []

abbrev pub held_end : List SystemEvent
held_end = DoesInstruction 0 ∷ CallsShard 0 ∷ instructions 2 ++ LeavesShard 0 0 ∷ []

abbrev pub held_events : List SystemEvent
held_events = Controls (put 1 5) ∷ held_run ++ held_command ++ held_end ++ Reclaims 0 ∷ []

-- what is handed back, with this end of the run
abbrev pub held_result : Ending → Result
held_result ending = record {
  ends = Short ∷ Ran 0 ending ∷ [];
  totals = record no_totals { short = 1; pass = 1 };
  sent = [];
  first_answers = answer ∷ [];
  answers = (answer ∷ answer ∷ []) ∷ [];
  journals = λ shard. by_controller (put 1 5) (Answer (pos 0)) ∷ by_worker (Enter 0) Entered ∷
      by_worker (Lookup 0 (key_of_byte 1)) (Cell (cell_at 0)) ∷ by_controller (Delete 0 (key_of_byte 1)) (Answer (pos 0)) ∷
      by_controller (put 2 9) (Answer (pos 0)) ∷ by_worker (Load (cell_at 0) 0 8) (Word 5) ∷ by_worker (Leave 0) Left ∷
      by_reclaimer (Reclaim 0) (Freed 1) ∷ [];
}

abbrev pub held_ending : Ending
held_ending = Exited Pass (frame_of 0) 9

-- ---- a journal with room for 16 entries: the last update finds it full, and so do the run and the round

abbrev pub full_asked : Asked
full_asked = record {
  records = one_frame ∷ [];
  worker_of = λ frame. 0;
  updates = [];
  commands = replicate 15 (put 1 5) ∷ [];
  first = 0;
}

abbrev pub full_events : List SystemEvent → List SystemEvent
full_events rounds =
    BeginsRun 0 (frame_of 0) 7000 0 ∷ instructions 4 ++ CallsShard 0 ∷ replicate 15 (Controls (put 1 5)) ++
    CallsShard 0 ∷ LeavesShard 0 0 ∷ rounds

abbrev pub full_result : Result
full_result = record {
  ends = Ran 0 (Stopped 0) ∷ [];
  totals = record no_totals { stopped = 1 };
  sent = [];
  first_answers = [];
  answers = (replicate 14 answer ++ None ∷ []) ∷ [];
  journals = λ shard. by_worker (Enter 0) Entered ∷ replicate 14 (by_controller (put 1 5) (Answer (pos 0))) ++ by_worker (Leave 0) Left ∷ [];
}

-- ---- a command before the first record

abbrev pub first_asked : Asked
first_asked = record held_asked { commands = (put 1 9 ∷ []) ∷ []; first = 1 }

abbrev pub first_events : List SystemEvent
first_events = Controls (put 1 5) ∷ Controls (put 1 9) ∷ held_run ++ held_end ++ Reclaims 0 ∷ []

abbrev pub first_result : Result
first_result = record (held_result held_ending) {
  answers = (answer ∷ []) ∷ [];
  journals = λ shard. by_controller (put 1 5) (Answer (pos 0)) ∷ by_controller (put 1 9) (Answer (pos 0)) ∷ by_worker (Enter 0) Entered ∷
      by_worker (Lookup 0 (key_of_byte 1)) (Cell (cell_at 0)) ∷ by_worker (Load (cell_at 0) 0 8) (Word 9) ∷ by_worker (Leave 0) Left ∷
      by_reclaimer (Reclaim 0) (Freed 0) ∷ [];
}

-- ---- turn by turn: the first list comes in no turns, since its command comes within the run, and the third in these

abbrev pub held_turns : List Turn
held_turns = TheRecord 0 ∷ TheCommand 0 ∷ TheRecord 1 ∷ TheRound ∷ []

abbrev pub first_turns : List Turn
first_turns = TheCommand 0 ∷ TheRecord 0 ∷ TheRecord 1 ∷ TheRound ∷ []

-- the third with its round in front of the run's last Leave
abbrev pub early_round : List SystemEvent
early_round =
    Controls (put 1 5) ∷ Controls (put 1 9) ∷ held_run ++ DoesInstruction 0 ∷ CallsShard 0 ∷ instructions 2 ++
    Reclaims 0 ∷ LeavesShard 0 0 ∷ []

-- ---- what is a replay, and what is none

pub record ReplayRows : Type 0 where
  pub held : IsReplay replay_setting held_asked (held_result held_ending) held_events
  pub full : IsReplay replay_setting full_asked full_result (full_events (Reclaims 0 ∷ []))
  pub first : IsReplay replay_setting first_asked first_result first_events
  pub first_in_turns : IsTurnByTurn replay_setting first_asked first_turns first_events
  pub held_in_none : IsTurnByTurn replay_setting held_asked held_turns held_events → ⊥
  pub round_within : IsTurnByTurn replay_setting first_asked first_turns early_round → ⊥
  -- without the run, or with the run twice
  pub no_run : IsReplay replay_setting held_asked (held_result held_ending) (Controls (put 1 5) ∷ held_command ++ Reclaims 0 ∷ []) → ⊥
  pub run_twice :
      IsReplay replay_setting held_asked (held_result held_ending) (held_events ++ BeginsRun 0 (frame_of 0) 7000 0 ∷ []) → ⊥
  -- with another verdict, another frame or another number of instructions
  pub another_end : (ending : Ending) → ending ≢ held_ending → IsReplay replay_setting held_asked (held_result ending) held_events → ⊥
  -- with other numbers in the report
  pub other_totals :
      (totals : Totals) → totals ≢ (held_result held_ending).totals → (events : List SystemEvent) →
      IsReplay replay_setting held_asked (record (held_result held_ending) { totals = totals }) events → ⊥
  -- with the update behind the beginning of the run
  pub late_update :
      IsReplay replay_setting held_asked (held_result held_ending) (held_run ++ Controls (put 1 5) ∷ held_command ++ held_end ++ Reclaims 0 ∷ []) → ⊥
  -- where the command is to come before the first record
  pub late_command :
      IsReplay replay_setting (record held_asked { first = 1 }) (held_result held_ending) held_events → ⊥
  -- without a call of the command, or with one behind a full journal that nobody asked
  pub no_call : IsReplay replay_setting held_asked (held_result held_ending) (Controls (put 1 5) ∷ held_run ++ held_end ++ Reclaims 0 ∷ []) → ⊥
  pub unasked_call :
      IsReplay replay_setting full_asked full_result (full_events (Controls (put 1 5) ∷ Reclaims 0 ∷ [])) → ⊥
  -- with a look at a full journal by the reclaimer that nobody asked
  pub unasked_round : IsReplay replay_setting full_asked full_result (full_events (Reclaims 0 ∷ Reclaims 0 ∷ [])) → ⊥
