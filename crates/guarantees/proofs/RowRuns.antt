-- The row of a run of the system, computed, and what is no run.
use Rattle.std.proofs.Common.{◌≡◌, inl, inr, ℕ, zero, suc, ◌<◌, ◌≤◌, List, [], ◌∷◌, ◌++◌, length, reverse, refl, sym, ◌∙◌, ap, subst, arith}
use Rattle.std.specs.Prelude.{All}
use Rattle.ebpf_decode.specs.InstructionEncoding.{slot_count}
use Rattle.semantics.specs.declared.call.Call.{Call}
use Rattle.semantics.specs.declared.call.Call.TheVariants.{Enter, Leave, Lookup, Load}
use Rattle.semantics.specs.declared.call.Reply.{Reply}
use Rattle.semantics.specs.declared.call.Reply.TheVariants.{Entered, Left, Cell, Word}
use Rattle.semantics.specs.declared.call.Entry.{Entry}
use Rattle.semantics.specs.declared.verdict.Verdict.{Verdict}
use Rattle.semantics.specs.declared.verdict.Verdict.TheVariants.{Pass, Tx}
use Rattle.semantics.specs.MachineState.{MachineState, initial_state}
use Rattle.semantics.specs.Program.{Program}
use Rattle.semantics.specs.History.{shard_of_call}
use Rattle.semantics.specs.RunTrace.{RunStand, RunTrace, HasExited, Waits, HasTrapped, GoesOn, trace_of, trace_from}
use Rattle.semantics.specs.Step.{Step, Continues, CallsMap, Exits, Traps}
use Rattle.semantics.specs.Semantics.{next_step}
use Rattle.semantics.specs.System.{program_of_setting, IsInputFrame, input_frame}
use Rattle.semantics.specs.SystemRows.{frame_of, by_worker, key_of_byte, cell_at}
use Rattle.semantics.proofs.shared.ConditionLemmas.{tested_bytes}
use Rattle.map_port.specs.Exchanges.{Exchange, calls_in, replies_in}
use Rattle.shards.specs.Passes.{own_at, seen_at}
use Rattle.shard_port.specs.Sessions.{exchange_entry, exchange_entries}
use Rattle.shard_port.specs.PassSessions.{session_at, AreCallsWithin, HasSessions, HasRefusedSessions}
use Rattle.guarantees.specs.RunRows.{row_setting, pass_with, lookup_of_row, row_entries, IsRow, row_plan, full_history, pass_that_saw, RunRows}
use Rattle.guarantees.specs.SystemRuns.{IsStoppedInSystem}
use Rattle.guarantees.proofs.StopLemmas.{stopped_is_of_system}
use Rattle.guarantees.specs.StepLaws.{IsOwnTrace}
use Rattle.guarantees.proofs.EventLemmas.{run_is_of_system}
use Rattle.guarantees.proofs.BackToTraces.{runs_are_traces}
use Rattle.guarantees.proofs.OneOutcome.{same_entries, entries_there, runs_have_one_outcome}

-- ---- the run

abbrev row_exchanges : List Exchange
row_exchanges =
    (record { call = Lookup 0 (key_of_byte 0); reply = Cell (cell_at 0) }) ∷ (record { call = Load (cell_at 0) 0 8; reply = Word 0 }) ∷ []

abbrev start : ℕ → MachineState
start byte = initial_state (input_frame (frame_of byte)) 0 0

abbrev stand_at : ℕ → List Exchange → RunStand
stand_at byte exchanges = (trace_of 17 (program_of_setting row_setting) (start byte) (replies_in exchanges)).stand

-- the machine's state in that of a run
abbrev state_of : RunStand → MachineState
state_of (HasExited verdict last) = last
state_of (Waits state) = state
state_of (HasTrapped cause) = start 0
state_of GoesOn = start 0

pub input_of : (bytes : List ℕ) → 14 ≤ length bytes → length bytes ≤ 2048 → All (λ byte. byte < 256) bytes → IsInputFrame bytes
input_of bytes least greatest all = record { least = least; greatest = greatest; bytes = all }

pub only_zero : (P : ℕ → Type 0) → P 0 → (number : ℕ) → number < 1 → P number
only_zero P at number below = let same : number ≡ 0 = omega (arith, below) in subst P (sym same) at

row_sessions : HasSessions 1 0 row_exchanges (pass_with []) (pass_with row_entries)
row_sessions = record {
  same_caller = refl;
  within = (omega arith, (omega arith, tt));
  written = only_zero
      (λ number. own_at (pass_with row_entries) number ≡ reverse (session_at 0 number row_exchanges) ++ own_at (pass_with []) number) refl;
  seen_on = only_zero (λ number. (later : List Entry) × (seen_at (pass_with row_entries) number ≡ later ++ seen_at (pass_with []) number))
      (row_entries, refl);
  outside = only_zero _ refl;
  did = refl;
}

row_at : (byte : ℕ) (verdict : Verdict) (last : MachineState) → IsInputFrame (frame_of byte) →
    trace_of 17 (program_of_setting row_setting) (start byte) (replies_in row_exchanges)
    ≡ record { calls = calls_in row_exchanges; stand = HasExited verdict last } → IsRow byte row_entries verdict last
row_at byte verdict last input trace =
    run_is_of_system row_setting 0 0 0 (frame_of byte) 1 17 (pass_with []) (pass_with row_entries) row_exchanges verdict last (omega arith) input
    (omega arith) (omega arith) trace (refl, (omega arith, tt)) row_sessions

row_runs : IsRow 3 row_entries Tx (state_of (stand_at 3 row_exchanges))
unfolding slot_count
row_runs = row_at 3 Tx (state_of (stand_at 3 row_exchanges))
    (input_of (frame_of 3) (omega arith) (omega arith) (tested_bytes (frame_of 3) refl)) refl

other_runs : IsRow 2 row_entries Pass (state_of (stand_at 2 row_exchanges))
unfolding slot_count
other_runs = row_at 2 Pass (state_of (stand_at 2 row_exchanges))
    (input_of (frame_of 2) (omega arith) (omega arith) (tested_bytes (frame_of 2) refl)) refl

-- ---- a run that waits has not ended

both_by : (program : Program) (verdict : Verdict) (last waiting : MachineState) (one other : ℕ) (state : MachineState) (step : Step) (replies : List Reply) →
    ((state : MachineState) (replies : List Reply) → (trace_of one program state replies).stand ≡ HasExited verdict last →
    (trace_of other program state replies).stand ≡ Waits waiting → ⊥) →
    (trace_from (trace_of one program) state step replies).stand ≡ HasExited verdict last →
    (trace_from (trace_of other program) state step replies).stand ≡ Waits waiting → ⊥
both_by program verdict last waiting one other state (Continues next) replies rest ends waits = rest next replies ends waits
both_by program verdict last waiting one other state (CallsMap call next) [] rest ends waits = absurd cc
both_by program verdict last waiting one other state (CallsMap call next) (reply ∷ replies) rest ends waits = rest (next reply) replies ends waits
both_by program verdict last waiting one other state (Exits ended final) replies rest ends waits = absurd cc
both_by program verdict last waiting one other state (Traps cause) replies rest ends waits = absurd cc

never_both : (program : Program) (verdict : Verdict) (last waiting : MachineState) (one other : ℕ) (state : MachineState) (replies : List Reply) →
    (trace_of one program state replies).stand ≡ HasExited verdict last → (trace_of other program state replies).stand ≡ Waits waiting → ⊥
never_both program verdict last waiting zero other state replies ends waits = absurd cc
never_both program verdict last waiting (suc one) zero state replies ends waits = absurd cc
never_both program verdict last waiting (suc one) (suc other) state replies ends waits =
    both_by program verdict last waiting one other state (next_step program state) replies
    (λ state replies ends waits. never_both program verdict last waiting one other state replies ends waits) ends waits

-- ---- what the entries of one shard say of a run

of_entry : (one other : Exchange) → exchange_entry 0 one ≡ exchange_entry 0 other → one ≡ other
of_entry one other same =
    let call : one.call ≡ other.call = ap (λ (entry : Entry). entry.call) same in
    let reply : one.reply ≡ other.reply = ap (λ (entry : Entry). entry.reply) same in
    ap (λ (call : Call). record { call = call; reply = one.reply }) call ∙ ap (λ (reply : Reply). record { call = other.call; reply = reply }) reply

one_shard : (exchanges others : List Exchange) → AreCallsWithin 1 exchanges → AreCallsWithin 1 others →
    exchange_entries 0 0 exchanges ≡ exchange_entries 0 0 others → exchanges ≡ others
one_shard [] [] within among same = refl
one_shard [] (other ∷ more) within among same =
    let first : shard_of_call other.call ≡ 0 = omega (arith, among.0) in
    let made : [] ≡ exchange_entry 0 other ∷ exchange_entries 0 0 more = same ∙ entries_there 0 0 other more first in absurd cc
one_shard (one ∷ later) [] within among same =
    let first : shard_of_call one.call ≡ 0 = omega (arith, within.0) in
    let made : exchange_entry 0 one ∷ exchange_entries 0 0 later ≡ [] = sym (entries_there 0 0 one later first) ∙ same in absurd cc
one_shard (one ∷ later) (other ∷ more) within among same =
    let first : shard_of_call one.call ≡ 0 = omega (arith, within.0) in
    let second : shard_of_call other.call ≡ 0 = omega (arith, among.0) in
    let made : exchange_entry 0 one ∷ exchange_entries 0 0 later ≡ exchange_entry 0 other ∷ exchange_entries 0 0 more =
    sym (entries_there 0 0 one later first) ∙ same ∙ entries_there 0 0 other more second in
    let head : exchange_entry 0 one ≡ exchange_entry 0 other = cc in
    let tail : exchange_entries 0 0 later ≡ exchange_entries 0 0 more = cc in
    ap (λ (exchange : Exchange). exchange ∷ later) (of_entry one other head)
    ∙ ap (λ (list : List Exchange). other ∷ list) (one_shard later more within.1 among.1 tail)

-- with these entries, and whatever verdict, it is no run where the program waits after their replies
no_run : (entries : List Entry) (exchanges : List Exchange) → AreCallsWithin 1 exchanges → entries ≡ reverse (session_at 0 0 exchanges) ++ [] →
    (waiting : MachineState) → stand_at 3 exchanges ≡ Waits waiting → (verdict : Verdict) (last : MachineState) → IsRow 3 entries verdict last → ⊥
no_run entries exchanges among are waiting waits verdict last run =
    let trace : IsOwnTrace row_setting 0 0 0 (frame_of 3) 1 (pass_with []) (pass_with entries) verdict last =
    runs_are_traces row_setting 0 0 0 (frame_of 3) 1 (pass_with []) (pass_with entries) verdict last run in
    let same : trace.exchanges ≡ exchanges =
    one_shard trace.exchanges exchanges trace.within among
    (same_entries 0 0 trace.exchanges exchanges [] entries (trace.written 0 (omega arith)) are) in
    never_both (program_of_setting row_setting) verdict last waiting trace.instructions 17 (start 3) (replies_in exchanges)
    (ap (λ (list : List Exchange). (trace_of trace.instructions (program_of_setting row_setting) (start 3) (replies_in list)).stand) (sym same)
    ∙ ap (λ (one : RunTrace). one.stand) trace.trace)
    waits

abbrev looked_up : List Exchange
looked_up = (record { call = Lookup 0 (key_of_byte 0); reply = Cell (cell_at 0) }) ∷ []

without_load : (verdict : Verdict) (last : MachineState) →
    IsRow 3 (by_worker (Leave 0) Left ∷ lookup_of_row ∷ by_worker (Enter 0) Entered ∷ []) verdict last → ⊥
unfolding slot_count
without_load verdict last run =
    no_run (by_worker (Leave 0) Left ∷ lookup_of_row ∷ by_worker (Enter 0) Entered ∷ []) looked_up (omega arith, tt) refl (state_of (stand_at 3 looked_up))
    refl verdict last run

without_all : (verdict : Verdict) (last : MachineState) → IsRow 3 [] verdict last → ⊥
unfolding slot_count
without_all verdict last run = no_run [] [] tt refl (state_of (stand_at 3 [])) refl verdict last run

-- ---- a run that stops

stopped_sessions : HasRefusedSessions (λ number. row_plan) 1 0 [] (Lookup 0 (key_of_byte 0)) (pass_with []) (pass_that_saw full_history)
stopped_sessions = record {
  same_caller = refl;
  within = tt;
  refused_within = omega arith;
  written = only_zero _ (inl refl);
  seen_on = only_zero (λ number. (later : List Entry) × (seen_at (pass_that_saw full_history) number ≡ later ++ seen_at (pass_with []) number))
      (full_history, refl);
  outside = only_zero _ refl;
  full_at = full_history;
  full_seen = ([], refl);
  full = inr (record { kept_out = record { first_call = refl; nothing = refl; full = refl }; did = refl });
}

row_stops : IsStoppedInSystem row_setting 0 0 0 (frame_of 3) (λ number. row_plan) 1 (pass_with []) (pass_that_saw full_history)
    (Lookup 0 (key_of_byte 0)) (state_of (stand_at 3 []))
unfolding slot_count
row_stops =
    stopped_is_of_system row_setting 0 0 0 (frame_of 3) (λ number. row_plan) 1 17 (pass_with []) (pass_that_saw full_history) [] (Lookup 0 (key_of_byte 0))
    (state_of (stand_at 3 [])) (omega arith) (input_of (frame_of 3) (omega arith) (omega arith) (tested_bytes (frame_of 3) refl)) (omega arith)
    (omega arith) refl tt stopped_sessions

pub run_rows : RunRows
run_rows = record {
  last = state_of (stand_at 3 row_exchanges);
  runs = row_runs;
  one_verdict = λ verdict other run.
      runs_have_one_outcome row_setting 0 0 0 (frame_of 3) 1 (pass_with []) (pass_with row_entries) verdict Tx other (state_of (stand_at 3 row_exchanges)) run
      row_runs;
  other_frame = λ other run.
      let outcome = runs_have_one_outcome row_setting 0 0 0 (frame_of 2) 1 (pass_with []) (pass_with row_entries) Tx Pass other
      (state_of (stand_at 2 row_exchanges)) run other_runs in
      not_both outcome.0;
  other_entries = without_load;
  no_entries = without_all;
  waiting = state_of (stand_at 3 []);
  stops = row_stops;
}
  where
    not_both : Tx ≡ Pass → ⊥
    not_both same = cc
