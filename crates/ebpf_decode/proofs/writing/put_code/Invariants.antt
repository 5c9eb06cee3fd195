use Rattle.std.proofs.Common.{◌≡◌, ◌++◌, take}
use Rattle.std.specs.List.{flat_map}
use Rattle.ebpf_decode.specs.InstructionEncoding.{instruction_bytes}
use Rattle.ebpf_decode.proofs.writing.put_code.Given as goal

abbrev pub invariant-loop-insn : goal.invariant-loop-insn
invariant-loop-insn l = l.out.items ≡ l.fn.out.items ++ flat_map instruction_bytes (take l.insn-index l.code)
