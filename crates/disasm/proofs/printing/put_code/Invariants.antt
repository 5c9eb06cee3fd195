use Rattle.std.proofs.Common.{◌≡◌, ◌++◌, take, string_bytes}
use Rattle.disasm.specs.AssemblyText.{code_text}
use Rattle.disasm.proofs.printing.put_code.Given as goal

abbrev pub invariant-loop-insn : goal.invariant-loop-insn
invariant-loop-insn l = string_bytes l.out ≡ string_bytes l.fn.out ++ code_text (take l.insn-index l.code)
