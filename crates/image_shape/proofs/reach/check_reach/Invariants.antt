use Rattle.std.proofs.Common.{◌≡◌, take}
use Rattle.ebpf_decode.specs.InstructionEncoding.{total_slots}
use Rattle.image_shape.proofs.ReachLemmas.{IsReachedSoFar}
use Rattle.image_shape.proofs.reach.check_reach.Given as goal

abbrev pub invariant-loop-insn : goal.invariant-loop-insn
invariant-loop-insn l = record { at : l.slot ≡ total_slots (take l.insn-index l.code); so_far : IsReachedSoFar l.code l.slot l.reached }
