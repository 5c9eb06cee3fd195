-- Machine states spelled out, so that instructions compute on them.
use Rattle.std.proofs.Common.{◌≡◌, ℕ, List, sym, subst}
use Rattle.wire.specs.FrameView.{FrameView}
use Rattle.semantics.specs.RegisterValue.{RegisterValue}
use Rattle.semantics.specs.MachineState.{MachineState, StackByte}
use Rattle.block_runs.specs.Plan.{Plan}
use Rattle.block_runs.proofs.shared.Blocks.{Promise}

abbrev pub spelled : ℕ → List RegisterValue → List StackByte → FrameView → ℕ → ℕ → ℕ → ℕ → MachineState
spelled slot registers stack frame generation worker now steps = record {
  slot = slot;
  registers = registers;
  stack = stack;
  frame = frame;
  generation = generation;
  worker = worker;
  now = now;
  steps = steps;
}

pub as_spelled : (holds : Promise) (state : MachineState) (plan planned : Plan) (slot : ℕ) (registers : List RegisterValue) (stack : List StackByte) (generation : ℕ) →
    state.slot ≡ slot → state.registers ≡ registers → state.stack ≡ stack → state.generation ≡ generation → plan ≡ planned →
    holds (spelled slot registers stack state.frame generation state.worker state.now state.steps) planned → holds state plan
as_spelled holds state plan planned slot registers stack generation same_slot same_registers same_stack same_generation same_plan shown =
    subst (λ (both : MachineState × Plan). holds both.0 both.1)
    (sym (λ i. (spelled (same_slot i) (same_registers i) (same_stack i) state.frame (same_generation i) state.worker state.now state.steps, same_plan i)))
    shown
