use Rattle.disasm.proofs.Operands.{operands_case}
use Rattle.disasm.proofs.reading.operands_of.Goals as goal

pub returns : goal.returns
returns c = operands_case c.args.list.now c.cut.result.0.now c.cut.result.1.now c.cut-2.result.0.now c.cut-2.result.1.now c.after.result.now c.after-2.result.now
    c.operand_of.result c.operand_of-2.result c.operand_of-3.result c.cut.ensures.both c.cut.ensures.whole c.cut-2.ensures.both c.cut-2.ensures.whole
    c.after.ensures c.after-2.ensures c.operand_of.ensures c.operand_of-2.ensures c.operand_of-3.ensures
