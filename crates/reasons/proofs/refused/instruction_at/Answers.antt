use Rattle.std.proofs.Common.{rules, arith, ◌≡◌, ◌≢◌, sym, ◌∙◌}
use Rattle.std.specs.Prelude.{pos}
use Rattle.isa.specs.declared.operation.Width.TheVariants.{Bits32}
use Rattle.isa.specs.declared.operation.AluOp.TheVariants.{Add}
use Rattle.isa.specs.declared.operation.Register.TheVariants.{R0}
use Rattle.isa.specs.declared.operation.SourceOperand.TheVariants.{Imm}
use Rattle.ebpf_decode.specs.declared.insn.Insn.TheVariants.{Alu}
use Rattle.image_shape.proofs.shared.SlotLemmas.{whole_at, instruction_here, none_inside, past_end}
use Rattle.reasons.proofs.refused.instruction_at.Goals as goal

pub returns-then-at-wanted : goal.returns-then-at-wanted
returns-then-at-wanted c =
    sym (instruction_here c.args.code.now c.loop-insn.insn-index (Alu Bits32 Add R0 (Imm (pos 0))) c.args.slot c.loop-insn-test.true
    (let same : c.args.slot ≡ c.loop-insn.at = search rules in same ∙ c.loop-insn.invariant.at))

pub returns-then-wanted-next : goal.returns-then-wanted-next
returns-then-wanted-next c =
    sym (none_inside c.args.code.now c.loop-insn.insn-index (Alu Bits32 Add R0 (Imm (pos 0))) c.loop-insn.at c.args.slot c.loop-insn-test.true
    c.loop-insn.invariant.at
    (let ne : c.loop-insn.at ≢ c.args.slot = (λ e. c.if-at-wanted.false (e ∙ sym c.from-wanted.ensures)) in omega arith)
    (omega (arith, c.slot_count.ensures.count)))

pub returns : goal.returns
returns c =
    let end = whole_at c.args.code.now c.loop-insn.insn-index c.loop-insn.at c.loop-insn-test.false c.loop-insn.invariant.at
    in sym (past_end c.args.code.now c.args.slot (omega (arith, end)))
