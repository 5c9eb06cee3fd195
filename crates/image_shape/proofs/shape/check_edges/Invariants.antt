use Rattle.std.proofs.Common.{◌≡◌, ℕ, ◌<◌, None, take}
use Rattle.ebpf_decode.specs.InstructionEncoding.{total_slots}
use Rattle.image_shape.specs.Structure.{fault_at}
use Rattle.image_shape.proofs.shape.check_edges.Given as goal

abbrev pub invariant-loop-insn : goal.invariant-loop-insn
invariant-loop-insn l = record { at : l.slot ≡ total_slots (take l.insn-index l.code); good : (earlier : ℕ) → earlier < l.slot → fault_at l.code earlier ≡ None }
