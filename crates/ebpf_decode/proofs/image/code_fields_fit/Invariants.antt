use Rattle.std.proofs.Common.{take}
use Rattle.std.specs.List.{AllByRecursion}
use Rattle.ebpf_decode.specs.InstructionEncoding.{FieldsFit}
use Rattle.ebpf_decode.proofs.image.code_fields_fit.Given as goal

abbrev pub invariant-loop-insn : goal.invariant-loop-insn
invariant-loop-insn l = AllByRecursion FieldsFit (take l.insn-index l.code)
