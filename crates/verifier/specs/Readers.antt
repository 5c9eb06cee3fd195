-- Programs that only read: no map is changed, and neither the worker's number nor its receive queue is asked for, so that a run
-- does the same on whichever worker it is.
use Rattle.std.specs.Prelude.{◌≡◌, ℕ, Bool, true, false, not, ◌||◌, ℤ, List, Option, Some, None, IsTrue}
use Rattle.ebpf_decode.specs.declared.insn.Insn.{Insn}
use Rattle.ebpf_decode.specs.declared.insn.Insn.TheVariants.{Ldx, St, Stx, AtomicUpdate, CallHelper}
use Rattle.semantics.specs.Program.{instruction_at}
use Rattle.semantics.specs.Linux.{helper_of, changes_map, helper_asks_worker, field_at, field_asks_worker}
use Rattle.semantics.specs.declared.linux.ContextField.{ContextField}
use Rattle.semantics.specs.declared.linux.Helper.{Helper}
use Rattle.abstract_state.specs.declared.kind.Kind.{Kind}
use Rattle.abstract_state.specs.declared.kind.Kind.TheVariants.{Ctx, Value}
use Rattle.abstract_state.specs.declared.state.State.{State}
use Rattle.abstract_state.specs.States.{kind_of}
use Rattle.verifier.specs.Dataflow.{known_at}

-- an update, a deletion, or the worker's number
abbrev pub is_worker_helper : Option Helper → Bool
is_worker_helper (Some helper) = changes_map helper || helper_asks_worker helper
is_worker_helper None = false

abbrev pub is_value_kind : Kind → Bool
is_value_kind (Value map id off) = true
is_value_kind other = false

-- the receive queue's number
abbrev pub is_worker_field : Option ContextField → Bool
is_worker_field (Some field) = field_asks_worker field
is_worker_field None = false

-- the same, as a field of the context
abbrev pub is_queue_field : Kind → ℤ → Bool
is_queue_field Ctx offset = is_worker_field (field_at offset)
is_queue_field other offset = false

-- the instruction only reads, in this state
abbrev pub only_reads : State → Insn → Bool
only_reads state (CallHelper number) = not (is_worker_helper (helper_of number))
only_reads state (St size dst offset immediate) = not (is_value_kind (kind_of state dst))
only_reads state (Stx size dst src offset) = not (is_value_kind (kind_of state dst))
only_reads state (AtomicUpdate width op dst src offset) = not (is_value_kind (kind_of state dst))
only_reads state (Ldx size dst src offset) = not (is_queue_field (kind_of state src) offset)
only_reads state insn = true

abbrev pub reads_known : Insn → Option State → Bool
reads_known insn (Some state) = only_reads state insn
reads_known insn None = true

-- each instruction of the program only reads
pub record IsReader (code : List Insn) (states : List (Option State)) : Type 0 where
  pub reads : (slot : ℕ) (insn : Insn) (state : State) → instruction_at code slot ≡ Some insn → known_at states slot ≡ Some state →
      IsTrue (only_reads state insn)
