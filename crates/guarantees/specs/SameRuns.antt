-- What two runs of one program on different workers have in common, where the program only reads.
use Rattle.std.specs.Prelude.{◌≡◌, ℕ, ◌<◌, ◌^◌, List}
use Rattle.ebpf_decode.specs.declared.insn.Insn.{Insn}
use Rattle.ebpf_decode.specs.declared.map.MapDef.{MapDef}
use Rattle.semantics.specs.declared.call.Reply.{Reply}
use Rattle.semantics.specs.MachineState.{MachineState, initial_state}
use Rattle.semantics.specs.Program.{Program}
use Rattle.semantics.specs.RunTrace.{RunStand, HasExited, Waits, HasTrapped, GoesOn, RunTrace, trace_of, AreReplies}
use Rattle.semantics.specs.System.{IsInputFrame, input_frame}

-- the same state in the run of another worker
abbrev pub at_worker : ℕ → MachineState → MachineState
at_worker worker state = record state { worker = worker }

-- the state of a run, whichever worker it is on
abbrev pub stand_of_any : RunStand → RunStand
stand_of_any (HasExited verdict last) = HasExited verdict (at_worker 0 last)
stand_of_any (Waits state) = Waits (at_worker 0 state)
stand_of_any (HasTrapped cause) = HasTrapped cause
stand_of_any GoesOn = GoesOn

-- its calls, and its state
abbrev pub trace_of_any : RunTrace → RunTrace
trace_of_any trace = record { calls = trace.calls; stand = stand_of_any trace.stand }

-- on the same frame at the same time and with the same replies, the runs of two workers make the same calls, end with the same verdict,
-- leave the same frame, and take as many instructions
abbrev pub RunsTheSame : List MapDef → List Insn → Type 0
RunsTheSame maps code =
    (shards count : ℕ) (frame : List ℕ) (one other now : ℕ) (replies : List Reply) → IsInputFrame frame → one < 8 → now < 2 ^ 64 →
    (let program : Program = record { code = code; maps = maps; shards = shards } in
    AreReplies program (trace_of count program (initial_state (input_frame frame) one now) replies).calls replies →
    trace_of_any (trace_of count program (initial_state (input_frame frame) one now) replies) ≡
    trace_of_any (trace_of count program (initial_state (input_frame frame) other now) replies))
