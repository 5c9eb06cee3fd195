use Rattle.std.proofs.Common.{◌≡◌, ◌*◌, ◌≤◌, drop}
use Rattle.ebpf_decode.specs.ImageFormat.{version_fault}
use Rattle.ebpf_decode.proofs.image.version_fault.Given as goal

abbrev pub invariant-loop-insn : goal.invariant-loop-insn
invariant-loop-insn l = (version_fault l.version l.slot (drop l.insn-index l.code) ≡ version_fault l.version 0 l.code) × (l.slot ≤ 2 * l.insn-index)
