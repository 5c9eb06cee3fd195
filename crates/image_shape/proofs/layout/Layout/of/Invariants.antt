use Rattle.std.proofs.Common.{◌≡◌, take}
use Rattle.ebpf_decode.specs.InstructionEncoding.{total_slots}
use Rattle.image_shape.proofs.LayoutLemmas.{IsLayoutSoFar}
use Rattle.image_shape.proofs.layout.Layout.of.Given as goal

abbrev pub invariant-loop-insn : goal.invariant-loop-insn
invariant-loop-insn l = record { at : l.slot ≡ total_slots (take l.insn-index l.code); so_far : IsLayoutSoFar l.code l.slot l.begins }
