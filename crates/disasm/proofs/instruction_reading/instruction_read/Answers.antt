use Rattle.std.proofs.Common.{◌≡◌, ◌∙◌, ap}
use Rattle.disasm.specs.declared.head.Head.{Head}
use Rattle.disasm.specs.AssemblyText.{line_of, head_of, operands_of}
use Rattle.disasm.specs.LineReading.{insn_made}
use Rattle.disasm.proofs.shared.Lines.{fits_again, insn_again, parts_of_line}
use Rattle.disasm.proofs.instruction_reading.instruction_read.Goals as goal

pub returns : goal.returns
unfolding line_of
returns c = λ insn is.
    let parts = parts_of_line (head_of insn) (operands_of insn) c.args.line.now c.cut.result.0.now c.cut.result.1.now c.cut.ensures.both c.cut.ensures.whole is.spelled in
    let head : c.named.result ≡ head_of insn = c.named.ensures (head_of insn) parts.0 in
    let read = c.operands_of-x.ensures (operands_of insn) (fits_again insn is.fields_fit) parts.1 in
    c.insn_of.ensures ∙ ap (λ (h : Head). insn_made h c.operands_of-x.result.0 c.operands_of-x.result.1 c.operands_of-x.result.2) head ∙ insn_again insn is.fields_fit _ _ _ read
