-- The last blocks: a verdict's count is raised, and the run ends.
use Rattle.std.proofs.Common.{ℕ, List, [], ◌∷◌, refl}
use Rattle.ebpf_decode.specs.declared.insn.Insn.{Insn}
use Rattle.ebpf_decode.specs.InstructionEncoding.{slot_count}
use Rattle.wire.specs.FrameView.{FrameView}
use Rattle.semantics.specs.declared.verdict.Verdict.{Verdict}
use Rattle.semantics.specs.declared.verdict.Verdict.TheVariants as V
use Rattle.semantics.specs.RegisterValue.{RegisterValue, Number}
use Rattle.semantics.specs.MachineState.{MachineState, StackByte}
use Rattle.semantics.specs.Semantics.{verdict_number}
use Rattle.block_runs.specs.Plan.{Plan, Ends}
use Rattle.block_runs.proofs.shared.Blocks.{Promise, Meets, Arrives}
use Rattle.conntrack.specs.Steering.{SteeringSizes, counted_end}
use Rattle.steer.proofs.Promises.{AtEnd, AtCount, AtVerdict, program, promise, after_count, End, Count, Drop}
use Rattle.steer.specs.PartStarts.{with_r6, any_stack, reg, place}
use Rattle.block_runs.proofs.shared.SpelledStates.{spelled, as_spelled}
use Rattle.block_runs.proofs.shared.BlockTests.{jumps, falls}
use Rattle.steer.specs.ShippedProgram.{count_block, end_block, pass_block, drop_block}

-- ---- the end

end_from : (leaves : Promise) (notes : ℕ) (setting : SteeringSizes) (code : List Insn) (verdict : Verdict) (r : ℕ → RegisterValue) (stack : List StackByte) (frame : FrameView)
    (generation worker now steps : ℕ) →
    Meets leaves (program notes setting code) end_block (spelled 217 (with_r6 (Number (verdict_number verdict)) (r 7) (r 8) (r 9) r) stack frame generation worker now steps)
    (Ends verdict frame)
unfolding slot_count
end_from leaves notes setting code V.Aborted r stack frame generation worker now steps = (refl, refl)
end_from leaves notes setting code V.Drop r stack frame generation worker now steps = (refl, refl)
end_from leaves notes setting code V.Pass r stack frame generation worker now steps = (refl, refl)
end_from leaves notes setting code V.Tx r stack frame generation worker now steps = (refl, refl)

pub end_meets : (leaves : Promise) (notes : ℕ) (setting : SteeringSizes) (code : List Insn) (state : MachineState) (plan : Plan) → AtEnd setting state plan →
    Meets leaves (program notes setting code) end_block state plan
end_meets leaves notes setting code state plan at =
    as_spelled (Meets leaves (program notes setting code) end_block) state plan _ 217 _ _ _ at.slot at.registers refl refl at.plan_is
    (end_from leaves notes setting code at.verdict (reg state.registers) state.stack state.frame state.generation state.worker state.now state.steps)

-- ---- the count

count_from : (notes : ℕ) (setting : SteeringSizes) (code : List Insn) (verdict : Verdict) (r : ℕ → RegisterValue) (p : ℕ → StackByte) (frame : FrameView)
    (generation worker now steps : ℕ) →
    Meets (after_count setting) (program notes setting code) count_block
    (spelled 208 (with_r6 (Number (verdict_number verdict)) (r 7) (r 8) (r 9) r) (any_stack p) frame generation worker now steps) (counted_end setting verdict frame)
unfolding slot_count
count_from notes setting code verdict r p frame generation worker now steps = (
  refl,
  (
    λ id. falls _ _ _ _ _ _ (refl, λ word fits. record { verdict = verdict; slot = refl; registers = refl; plan_is = refl }),
    jumps _ _ _ _ _ _ (record { verdict = verdict; slot = refl; registers = refl; plan_is = refl }),
  ),
)

pub count_meets : (notes : ℕ) (setting : SteeringSizes) (code : List Insn) (state : MachineState) (plan : Plan) → AtCount setting state plan →
    Meets (after_count setting) (program notes setting code) count_block state plan
count_meets notes setting code state plan at =
    as_spelled (Meets (after_count setting) (program notes setting code) count_block) state plan _ 208 _ _ _ at.here.slot at.here.registers at.here.stack refl at.plan_is
    (count_from notes setting code at.verdict (reg state.registers) (place state.stack) state.frame state.generation state.worker state.now state.steps)

-- ---- the verdicts

drop_from : (notes : ℕ) (setting : SteeringSizes) (code : List Insn) (r : ℕ → RegisterValue) (p : ℕ → StackByte) (frame : FrameView)
    (generation worker now steps : ℕ) →
    Meets (Arrives (promise setting) 208 ((Count, count_block) ∷ (End, end_block) ∷ [])) (program notes setting code) drop_block
    (spelled 207 (with_r6 (r 6) (r 7) (r 8) (r 9) r) (any_stack p) frame generation worker now steps) (counted_end setting V.Drop frame)
unfolding slot_count
drop_from notes setting code r p frame generation worker now steps =
    record { verdict = V.Drop; here = record { slot = refl; registers = refl; stack = refl }; plan_is = refl }

pass_from : (notes : ℕ) (setting : SteeringSizes) (code : List Insn) (r : ℕ → RegisterValue) (p : ℕ → StackByte) (frame : FrameView)
    (generation worker now steps : ℕ) →
    Meets (Arrives (promise setting) 207 ((Drop, drop_block) ∷ (Count, count_block) ∷ (End, end_block) ∷ [])) (program notes setting code) pass_block
    (spelled 205 (with_r6 (r 6) (r 7) (r 8) (r 9) r) (any_stack p) frame generation worker now steps) (counted_end setting V.Pass frame)
unfolding slot_count
pass_from notes setting code r p frame generation worker now steps =
    record { verdict = V.Pass; here = record { slot = refl; registers = refl; stack = refl }; plan_is = refl }

pub drop_meets : (notes : ℕ) (setting : SteeringSizes) (code : List Insn) (state : MachineState) (plan : Plan) → AtVerdict 207 V.Drop setting state plan →
    Meets (Arrives (promise setting) 208 ((Count, count_block) ∷ (End, end_block) ∷ [])) (program notes setting code) drop_block state plan
drop_meets notes setting code state plan at =
    as_spelled (Meets (Arrives (promise setting) 208 ((Count, count_block) ∷ (End, end_block) ∷ [])) (program notes setting code) drop_block) state plan _ 207 _ _ _
    at.here.slot at.here.registers at.here.stack refl at.plan_is
    (drop_from notes setting code (reg state.registers) (place state.stack) state.frame state.generation state.worker state.now state.steps)

pub pass_meets : (notes : ℕ) (setting : SteeringSizes) (code : List Insn) (state : MachineState) (plan : Plan) → AtVerdict 205 V.Pass setting state plan →
    Meets (Arrives (promise setting) 207 ((Drop, drop_block) ∷ (Count, count_block) ∷ (End, end_block) ∷ [])) (program notes setting code) pass_block state plan
pass_meets notes setting code state plan at =
    as_spelled (Meets (Arrives (promise setting) 207 ((Drop, drop_block) ∷ (Count, count_block) ∷ (End, end_block) ∷ [])) (program notes setting code) pass_block) state plan _ 205 _ _ _
    at.here.slot at.here.registers at.here.stack refl at.plan_is
    (pass_from notes setting code (reg state.registers) (place state.stack) state.frame state.generation state.worker state.now state.steps)
