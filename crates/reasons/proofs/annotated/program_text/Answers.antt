use Rattle.std.proofs.Common.{arith, [], length, sym, ap, ◌∙◌}
use Rattle.std.specs.Prelude.{pos}
use Rattle.isa.specs.declared.operation.Width.TheVariants.{Bits32}
use Rattle.isa.specs.declared.operation.AluOp.TheVariants.{Add}
use Rattle.isa.specs.declared.operation.Register.TheVariants.{R0}
use Rattle.isa.specs.declared.operation.SourceOperand.TheVariants.{Imm}
use Rattle.ebpf_decode.specs.declared.insn.Insn.TheVariants.{Alu}
use Rattle.image_shape.proofs.shared.SlotLemmas.{next_at}
use Rattle.verifier.specs.Dataflow.{states_of, known_at}
use Rattle.verifier.specs.Surveys.{slot_of_index}
use Rattle.reasons.specs.Annotations.{indexed_entry}
use Rattle.reasons.proofs.IndexedLemmas.{written_more, entry_here}
use Rattle.reasons.proofs.TellingLemmas.{known_here}
use Rattle.reasons.proofs.annotated.program_text.Goals as goal

pub loop-index-preserved : goal.loop-index-preserved
loop-index-preserved c = record {
  at = rw c.slot_count-slot.ensures.count (next_at _ _ _ _ c.loop-index-test.true c.loop-index.invariant.at);
  out = written_more (indexed_entry (states_of c.args.image.now.version c.args.image.now.maps c.args.image.now.code) c.code-code.result.now)
      c.code-code.result.now c.loop-index.index (Alu Bits32 Add R0 (Imm (pos 0))) [] _ _ c.loop-index-test.true c.loop-index.invariant.out
      (entry_here (states_of c.args.image.now.version c.args.image.now.maps c.args.image.now.code) _ c.loop-index.index _ _ c.index.result.now _ _ c.loop-index.invariant.at
      (known_here _ _ _ c.args.survey.now c.loop-index.index c.index.result.now c.requires.survey c.requires.accepted
      (let code = c.code-code.ensures.code in omega (arith, ap length code, c.loop-index-test.true)) c.index.ensures
      ∙ ap (λ code. known_at (states_of c.args.image.now.version c.args.image.now.maps c.args.image.now.code) (slot_of_index code c.loop-index.index)) (sym c.code-code.ensures.code))
      c.in_ok-put_entry.ensures);
}
