use Rattle.std.proofs.Common.{arith}
use Rattle.std.specs.Prelude.{pos}
use Rattle.std.proofs.lemmas.Option.{IfSome_then}
use Rattle.isa.specs.declared.operation.Width.TheVariants.{Bits32}
use Rattle.isa.specs.declared.operation.AluOp.TheVariants.{Add}
use Rattle.isa.specs.declared.operation.Register.TheVariants.{R0}
use Rattle.isa.specs.declared.operation.SourceOperand.TheVariants.{Imm}
use Rattle.ebpf_decode.specs.declared.insn.Insn.TheVariants.{Alu}
use Rattle.image_shape.proofs.shared.SlotLemmas.{slot_within}
use Rattle.reasons.proofs.OriginLemmas.{brings_at, nothing_at}
use Rattle.reasons.proofs.origin.arrival_at.Goals as goal

pub arrival_of-requires : goal.arrival_of-requires
arrival_of-requires c = let e = c.code.ensures.encodable in let within = slot_within c.args.image.now.code c.args.index c.args.slot c.requires.inside c.requires.at in omega arith

pub returns-clause-brings : goal.returns-clause-brings
returns-clause-brings c = IfSome_then c.arrival_of.result c.arrival_of.ensures.arrives (λ arrival arrives.
    brings_at _ _ c.maps.result.now _ c.code.result.now c.args.survey.now c.args.index c.args.slot (Alu Bits32 Add R0 (Imm (pos 0)))
    c.index.result.now c.args.target c.args.register arrival c.requires.survey c.requires.inside c.requires.at c.maps.ensures.maps c.code.ensures.code
    c.requires.known c.index.ensures arrives)

pub returns-clause-none : goal.returns-clause-none
returns-clause-none c = λ e.
    nothing_at _ _ c.maps.result.now _ c.code.result.now c.args.survey.now c.args.index c.args.slot (Alu Bits32 Add R0 (Imm (pos 0)))
    c.index.result.now c.args.target c.requires.survey c.requires.inside c.requires.at c.maps.ensures.maps c.code.ensures.code
    c.requires.known c.index.ensures (c.arrival_of.ensures.none e)
