use Rattle.std.proofs.Common.{◌≡◌, ◌+◌, ◌<◌, ◌≤◌, length, get_or, refl, sym, ap, subst, ◌∙◌}
use Rattle.isa.specs.declared.operation.Width.TheVariants.{Bits32}
use Rattle.isa.specs.declared.operation.AluOp.TheVariants.{Add}
use Rattle.isa.specs.declared.operation.Register.TheVariants.{R0}
use Rattle.isa.specs.declared.operation.SourceOperand.TheVariants.{Imm}
use Rattle.std.specs.Prelude.{pos}
use Rattle.ebpf_decode.specs.declared.insn.Insn.TheVariants.{Alu}
use Rattle.ebpf_decode.specs.InstructionEncoding.{slot_count}
use Rattle.image_shape.proofs.shared.SlotLemmas.{next_at, whole_at}
use Rattle.reasons.specs.Origins.{is_sought}
use Rattle.reasons.proofs.MeetingLemmas.{none_at_all, none_more, not_sought, none_there}
use Rattle.reasons.proofs.origin.find_arrival.Goals.{in-Some+else-is_sought, in-None}
use Rattle.reasons.proofs.origin.find_arrival.Goals as goal

pub loop-index-preserved : goal.loop-index-preserved
loop-index-preserved c =
    let inside : c.loop-index.index < length c.args.image.now.code =
    subst (λ list. c.loop-index.index < length list) c.code-insn-items.ensures.code c.loop-index-test.true
    in let next : c.loop-index.slot + c.slot_count-slot.result ≡ c.loop-index.slot + slot_count (get_or c.args.image.now.code c.loop-index.index (Alu Bits32 Add R0 (Imm (pos 0)))) =
    ap (λ count. c.loop-index.slot + count) (c.slot_count-slot.ensures.count
    ∙ ap (λ list. slot_count (get_or list c.loop-index.index (Alu Bits32 Add R0 (Imm (pos 0))))) c.code-insn-items.ensures.code)
    in record {
      at = next ∙ next_at c.args.image.now.code c.loop-index.index (Alu Bits32 Add R0 (Imm (pos 0))) c.loop-index.slot inside c.loop-index.invariant.at;
      none = none_more _ _ c.args.image.now.code c.args.target c.args.register c.args.unlike c.loop-index.index c.loop-index.slot _ (Alu Bits32 Add R0 (Imm (pos 0))) inside
          c.loop-index.invariant.at next c.loop-index.invariant.none
          (elim c.match-arrival_at.branch [
            | in-Some+else-is_sought w ↦
                not_sought _ _ _ c.args.target c.args.register c.args.unlike c.loop-index.slot w.in-Some.arrival w.in-Some.ensures.brings w.in-Some.ensures.from
                (ap (λ version. is_sought version c.args.unlike w.in-Some.arrival.after) (sym c.version-version.ensures.version)
                ∙ sym w.is_sought.ensures ∙ w.if-is_sought.false)
            | in-None w ↦ none_there _ _ _ c.args.target c.args.register c.args.unlike c.loop-index.slot (w.in-None.ensures.none refl)
          ]);
    }

pub returns-clause-none : goal.returns-clause-none
returns-clause-none c = λ _.
    none_at_all _ _ c.args.image.now.code c.args.target c.args.register c.args.unlike c.loop-index.slot
    (whole_at c.args.image.now.code c.loop-index.index c.loop-index.slot
    (subst (λ list. length list ≤ c.loop-index.index) c.code-insn-items.ensures.code c.loop-index-test.false) c.loop-index.invariant.at)
    c.loop-index.invariant.none
