-- Where a sound run goes on, what is known is sound again: from its start, over instructions, and over replies to its calls.
use Rattle.std.proofs.Common.{◌≡◌, ℕ, ◌<◌, ◌^◌, List, [], ◌∷◌, Option, IsTrue, refl, subst, arith}
use Rattle.ebpf_decode.specs.declared.insn.Insn.{Insn}
use Rattle.ebpf_decode.specs.InstructionEncoding.{total_slots}
use Rattle.semantics.specs.declared.call.Call.{Call}
use Rattle.semantics.specs.declared.call.Reply.{Reply}
use Rattle.semantics.specs.MachineState.{MachineState, initial_state}
use Rattle.semantics.specs.Step.{Continues, CallsMap}
use Rattle.semantics.specs.Semantics.{next_step}
use Rattle.semantics.specs.RunTrace.{IsReplyTo}
use Rattle.semantics.specs.System.{Setting, program_of_setting, SystemState, Runs, worker_state, IsInputFrame, input_frame}
use Rattle.abstract_state.specs.declared.state.State.{State}
use Rattle.abstract_state.specs.States.{opening_state}
use Rattle.abstract_state.specs.Abstraction.{Held}
use Rattle.abstract_state.specs.Soundness.{HoldsAfter}
use Rattle.abstract_state.proofs.shared.Opening.{opening_sound}
use Rattle.image_shape.specs.Edges.{is_begin}
use Rattle.verifier.proofs.SystemInvariant.{held_in_run, IsSoundRun, IsSoundWorker, IsSetting, IsSoundSystem}
use Rattle.verifier.proofs.shared.PlaceLemmas.{IsSoundPlace, continues_there, answered_there}

-- ---- the run

run_of : (setting : Setting) (states : List (Option State)) (system : SystemState) (worker : ℕ) (state : MachineState) (entered : List ℕ) → IsSoundSystem setting states system →
    worker_state system worker ≡ Runs state entered → IsSoundRun setting states system worker state entered
run_of setting states system worker state entered sound runs = subst (IsSoundWorker setting states system worker) runs (sound.workers worker)

-- over an instruction that calls nothing
pub continues_soundly : (setting : Setting) (states : List (Option State)) (system : SystemState) (worker : ℕ) (state : MachineState) (entered : List ℕ) (next : MachineState) →
    IsSetting setting states → IsSoundSystem setting states system → worker_state system worker ≡ Runs state entered → next_step (program_of_setting setting) state ≡ Continues next →
    IsSoundRun setting states system worker next entered
continues_soundly setting states system worker state entered next good sound runs steps =
    (continues_there good.version (program_of_setting setting) states (held_in_run setting system worker entered) state next good.accepted good.fits
    (run_of setting states system worker state entered sound runs) steps).place

-- over a call, for each reply to it
pub called_soundly : (setting : Setting) (states : List (Option State)) (system : SystemState) (worker : ℕ) (state : MachineState) (entered : List ℕ) (call : Call) (go : Reply → MachineState) →
    IsSetting setting states → IsSoundSystem setting states system → worker_state system worker ≡ Runs state entered → next_step (program_of_setting setting) state ≡ CallsMap call go →
    (reply : Reply) → IsReplyTo (program_of_setting setting) call reply → (held' : Held) → HoldsAfter (program_of_setting setting) (held_in_run setting system worker entered) held' call reply →
    IsSoundPlace setting.maps setting.code states held' (go reply)
called_soundly setting states system worker state entered call go good sound runs steps reply is held' after =
    (answered_there good.version (program_of_setting setting) states (held_in_run setting system worker entered) state call go good.accepted good.fits
    (run_of setting states system worker state entered sound runs) steps reply is held' after).place

-- from its start
pub begins_at_start : (code : List Insn) → 0 < total_slots code → IsTrue (is_begin code 0)
begins_at_start [] some = absurd (omega arith)
begins_at_start (insn ∷ code) some = refl

pub begins_soundly : (setting : Setting) (states : List (Option State)) (system : SystemState) (worker : ℕ) (frame : List ℕ) (now told : ℕ) → IsSetting setting states →
    IsInputFrame frame → told < 8 → now < 2 ^ 64 → IsSoundRun setting states system worker (initial_state (input_frame frame) told now) []
begins_soundly setting states system worker frame now told good is few early = record {
  known = opening_state good.version;
  at = good.accepted.entry 0 good.some_code;
  begins = begins_at_start setting.code good.some_code;
  sound = opening_sound good.version setting.maps (held_in_run setting system worker []) frame told now is few early;
  few = omega arith;
}
