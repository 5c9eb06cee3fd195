use Rattle.std.proofs.Common.{sym, ◌∙◌}
use Rattle.std.specs.Prelude.{pos}
use Rattle.isa.specs.declared.operation.Width.TheVariants.{Bits32}
use Rattle.isa.specs.declared.operation.AluOp.TheVariants.{Add}
use Rattle.isa.specs.declared.operation.Register.TheVariants.{R0}
use Rattle.isa.specs.declared.operation.SourceOperand.TheVariants.{Imm}
use Rattle.ebpf_decode.specs.declared.insn.Insn.TheVariants.{Alu}
use Rattle.reasons.proofs.OriginLemmas.{refused_at}
use Rattle.reasons.proofs.explaining.explain_at.Goals as goal

pub explain_rule-requires-clause-refused : goal.explain_rule-requires-clause-refused
explain_rule-requires-clause-refused c =
    refused_at _ _ c.args.image.now.code c.code.result.now c.args.survey.now c.args.reject c.args.last c.in-Some-Some.slot (Alu Bits32 Add R0 (Imm (pos 0)))
    c.in-Some-Some.state c.index.result.now c.requires.survey c.requires.refused c.requires.size c.code.ensures.code (sym c.slot.ensures ∙ c.in-Some-Some.is-0)
    c.index.ensures c.in-Some-Some.is-1
