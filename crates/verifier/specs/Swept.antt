-- What a sweep of a program comes to, and what it keeps.
use Rattle.std.specs.Prelude.{◌≢◌, ◌↔◌, ℕ, Bool, true, false, IsTrue, List, length, Option, Result, Err}
use Rattle.ebpf_decode.specs.declared.insn.Insn.{Insn}
use Rattle.ebpf_decode.specs.declared.map.MapDef.{MapDef}
use Rattle.ebpf_decode.specs.declared.version.Version.{Version}
use Rattle.ebpf_decode.specs.InstructionEncoding.{total_slots}
use Rattle.abstract_state.specs.declared.state.State.{State}
use Rattle.verifier.specs.declared.reject.Reject.{Reject}
use Rattle.verifier.specs.declared.reject.Reject.TheVariants as rejects
use Rattle.verifier.specs.declared.resolved.Memory.{Memory}
use Rattle.verifier.specs.Dataflow.{states_of, Accepts, IsFirstReject}
use Rattle.verifier.specs.Readers.{IsReader}
use Rattle.verifier.specs.Resolving.{AreMemories}
use Rattle.verifier.specs.Surveys.{known_along, IsRefusedAfter}

-- no instruction breaks a rule: the memory that each touches is noted by slot, and what is known on entry to each is kept
pub record PassesSweep (keeps : List (Option State) → Type 0) (version : Version) (maps : List MapDef) (code : List Insn) (memories : List Memory)
    (reads : Bool) : Type 0 where
  pub accepted : Accepts version maps code (states_of version maps code)
  pub noted : AreMemories code (states_of version maps code) memories (total_slots code)
  pub reader : IsTrue reads ↔ IsReader code (states_of version maps code)
  pub kept : keeps (known_along version maps code (length code))

-- of the instructions that were looked at, what is known on entry to each is kept
pub record KeepsRefused (keeps : List (Option State) → Type 0) (version : Version) (maps : List MapDef) (code : List Insn)
    (reject : Reject) : Type 0 where
  pub count : ℕ
  pub refused : IsRefusedAfter version maps code count reject
  pub kept : keeps (known_along version maps code count)

-- the first rule that is broken, or lack of memory; of a rule what led to it is kept
pub record FailsSweep (keeps : List (Option State) → Type 0) (version : Version) (maps : List MapDef) (code : List Insn)
    (reject : Reject) : Type 0 where
  pub first : IsFirstReject version maps code reject
  pub kept : reject ≢ rejects.Memory → KeepsRefused keeps version maps code reject

abbrev pub lacks_memory : Result Bool Reject → Bool
lacks_memory (Err rejects.Memory) = true
lacks_memory verdict = false
