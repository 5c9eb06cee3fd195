-- Why a program is no reader: which instructions do more than read.
use Rattle.std.specs.Prelude.{◌≡◌, ◌↔◌, ℕ, ℤ, List, [], ◌++◌, Option, Some, None, IsTrue, codes, if◌then◌else◌}
use Rattle.ebpf_decode.specs.declared.insn.Insn.{Insn}
use Rattle.ebpf_decode.specs.declared.insn.Insn.TheVariants.{Ldx, St, Stx, AtomicUpdate, CallHelper}
use Rattle.semantics.specs.Linux.{helper_of, changes_map, helper_asks_worker, field_at, field_asks_worker}
use Rattle.semantics.specs.declared.linux.ContextField.{ContextField}
use Rattle.semantics.specs.declared.linux.Helper.{Helper}
use Rattle.abstract_state.specs.declared.kind.Kind.{Kind}
use Rattle.abstract_state.specs.declared.kind.Kind.TheVariants.{Ctx, Value}
use Rattle.abstract_state.specs.declared.state.State.{State}
use Rattle.abstract_state.specs.States.{kind_of}
use Rattle.verifier.specs.Readers.{only_reads}
use Rattle.reasons.specs.declared.reader.Reason.{Reason}
use Rattle.reasons.specs.declared.reader.Reason.TheVariants.{ChangesMap, AsksWorker, StoresValue, ReadsQueue}

abbrev pub reason_called : Option Helper → Option Reason
reason_called (Some helper) =
    if changes_map helper then Some ChangesMap else (if helper_asks_worker helper then Some AsksWorker else None)
reason_called None = None

abbrev pub reason_stored : Kind → Option Reason
reason_stored (Value map id off) = Some StoresValue
reason_stored other = None

abbrev pub reason_read : Option ContextField → Option Reason
reason_read (Some field) = if field_asks_worker field then Some ReadsQueue else None
reason_read None = None

abbrev pub reason_loaded : Kind → ℤ → Option Reason
reason_loaded Ctx offset = reason_read (field_at offset)
reason_loaded other offset = None

-- what the instruction does more than to read, in this state
abbrev pub reason_of : State → Insn → Option Reason
reason_of state (CallHelper number) = reason_called (helper_of number)
reason_of state (St size dst offset immediate) = reason_stored (kind_of state dst)
reason_of state (Stx size dst src offset) = reason_stored (kind_of state dst)
reason_of state (AtomicUpdate width op dst src offset) = reason_stored (kind_of state dst)
reason_of state (Ldx size dst src offset) = reason_loaded (kind_of state src) offset
reason_of state insn = None

-- an instruction has none exactly where it only reads
abbrev pub HasReasons : Type 0
HasReasons = (state : State) (insn : Insn) → (reason_of state insn ≡ None) ↔ IsTrue (only_reads state insn)

unfoldable pub words_of_reason : Reason → List ℕ
words_of_reason ChangesMap = codes "it changes a map"
words_of_reason AsksWorker = codes "it asks for the worker's number"
words_of_reason StoresValue = codes "it stores to a value of a map"
words_of_reason ReadsQueue = codes "it reads the number of the receive queue"

abbrev pub line_of_words : List ℕ → List ℕ
line_of_words words = codes "    no reader: " ++ (words ++ codes "\n")

abbrev pub reason_line : Option Reason → List ℕ
reason_line (Some reason) = line_of_words (words_of_reason reason)
reason_line None = []
