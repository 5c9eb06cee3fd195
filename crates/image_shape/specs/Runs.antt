-- The edges of a program are where its runs go: each step that goes on does so along an edge.
use Rattle.std.specs.Prelude.{◌≡◌, ℕ, Some}
use Rattle.ebpf_decode.specs.declared.insn.Insn.{Insn}
use Rattle.semantics.specs.declared.call.Reply.{Reply}
use Rattle.semantics.specs.MachineState.{MachineState}
use Rattle.semantics.specs.Program.{Program, instruction_at}
use Rattle.semantics.specs.Step.{Step, Continues, CallsMap}
use Rattle.semantics.specs.Semantics.{next_step}
use Rattle.image_shape.specs.Edges.{IsEdge}

-- where the step goes on, if it does, is such a slot, whatever a map replies
abbrev pub GoesTo : (ℕ → Type 0) → Step → Type 0
GoesTo slots (Continues next) = slots next.slot
GoesTo slots (CallsMap call next) = (reply : Reply) → slots (next reply).slot
GoesTo slots step = Unit {0}

abbrev pub RunsFollowEdges : Type 0
RunsFollowEdges =
    (program : Program) (state : MachineState) (insn : Insn) → instruction_at program.code state.slot ≡ Some insn →
    GoesTo (IsEdge state.slot insn) (next_step program state)
