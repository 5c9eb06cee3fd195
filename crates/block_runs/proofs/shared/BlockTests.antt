-- Tests inside a block, when it is shown what the block does: by what the plan makes of the same test.
use Rattle.std.proofs.Common.{◌≡◌, Bool, true, false, not, refl, subst, ℤ}
use Rattle.std.specs.Prelude.{Ok}
use Rattle.ebpf_decode.specs.declared.insn.Insn.{Insn}
use Rattle.semantics.specs.MachineState.{MachineState}
use Rattle.semantics.specs.Semantics.{jump_step, at_next_slot}
use Rattle.block_runs.specs.Plan.{Plan, either}
use Rattle.block_runs.proofs.shared.Blocks.{Promise, MeetsTest, MeetsJump}

-- whose outcome is known
pub jumps : (leaves rest : Promise) (insn : Insn) (state : MachineState) (distance : ℤ) (plan : Plan) →
    MeetsJump leaves (jump_step state distance) plan → MeetsTest leaves rest insn state distance (Ok true) plan
unfolding MeetsTest
jumps leaves rest insn state distance plan meet = meet

pub falls : (leaves rest : Promise) (insn : Insn) (state : MachineState) (distance : ℤ) (plan : Plan) →
    rest (at_next_slot insn state) plan → MeetsTest leaves rest insn state distance (Ok false) plan
unfolding MeetsTest
falls leaves rest insn state distance plan meet = meet

-- which the plan makes too: it is one of two by the same test
pub forks : (leaves rest : Promise) (insn : Insn) (state : MachineState) (distance : ℤ) (taken test : Bool) (one other : Plan) → taken ≡ test →
    (taken ≡ true → MeetsJump leaves (jump_step state distance) one) → (taken ≡ false → rest (at_next_slot insn state) other) →
    MeetsTest leaves rest insn state distance (Ok taken) (either test one other)
unfolding MeetsTest
forks leaves rest insn state distance true test one other same on_one on_other =
    subst (λ t. MeetsJump leaves (jump_step state distance) (either t one other)) same (on_one refl)
forks leaves rest insn state distance false test one other same on_one on_other =
    subst (λ t. rest (at_next_slot insn state) (either t one other)) same (on_other refl)

-- the same, where the plan tests the opposite
pub turns : (leaves rest : Promise) (insn : Insn) (state : MachineState) (distance : ℤ) (taken test : Bool) (one other : Plan) → not taken ≡ test →
    (taken ≡ true → MeetsJump leaves (jump_step state distance) other) → (taken ≡ false → rest (at_next_slot insn state) one) →
    MeetsTest leaves rest insn state distance (Ok taken) (either test one other)
unfolding MeetsTest
turns leaves rest insn state distance true test one other same on_one on_other =
    subst (λ t. MeetsJump leaves (jump_step state distance) (either t one other)) same (on_one refl)
turns leaves rest insn state distance false test one other same on_one on_other =
    subst (λ t. rest (at_next_slot insn state) (either t one other)) same (on_other refl)

-- which the plan does not make
pub tests : (leaves rest : Promise) (insn : Insn) (state : MachineState) (distance : ℤ) (taken : Bool) (plan : Plan) →
    (taken ≡ true → MeetsJump leaves (jump_step state distance) plan) → (taken ≡ false → rest (at_next_slot insn state) plan) →
    MeetsTest leaves rest insn state distance (Ok taken) plan
unfolding MeetsTest
tests leaves rest insn state distance true plan on_one on_other = on_one refl
tests leaves rest insn state distance false plan on_one on_other = on_other refl

-- whose outcome is known by an equation
pub jumps_by : (leaves rest : Promise) (insn : Insn) (state : MachineState) (distance : ℤ) (taken : Bool) (plan : Plan) → taken ≡ true →
    MeetsJump leaves (jump_step state distance) plan → MeetsTest leaves rest insn state distance (Ok taken) plan
unfolding MeetsTest
jumps_by leaves rest insn state distance true plan is meet = meet
jumps_by leaves rest insn state distance false plan is meet = absurd cc
