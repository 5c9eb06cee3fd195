use Rattle.std.proofs.Common.{◌≡◌, ◌-◌, ◌*◌, ◌≤◌, length, None}
use Rattle.ebpf_decode.specs.SlotForm.{slots_at}
use Rattle.ebpf_decode.specs.InstructionReading.{code_from}
use Rattle.ebpf_decode.proofs.Loops.{in_front}
use Rattle.ebpf_decode.proofs.reading.slots_code.Given as goal

abbrev pub invariant-loop-place : goal.invariant-loop-place
invariant-loop-place l = (8 * (l.count - l.place) ≤ length l.rest) × (in_front l.code.items (code_from l.version l.place l.pending (slots_at (l.count - l.place) l.rest)) ≡ code_from l.version 0 None (slots_at l.count l.bytes))
