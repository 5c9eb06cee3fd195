use Rattle.std.proofs.Common.{◌≡◌, ◌-◌, ◌*◌, ◌≤◌, length}
use Rattle.ebpf_decode.specs.ImageFormat.{maps_at}
use Rattle.ebpf_decode.proofs.Loops.{with_front}
use Rattle.ebpf_decode.proofs.reading.maps_of.Given as goal

abbrev pub invariant-loop-place : goal.invariant-loop-place
invariant-loop-place l = (16 * (l.count - l.place) ≤ length l.rest) × (with_front l.maps.items (maps_at l.version l.place (l.count - l.place) l.rest) ≡ maps_at l.version 0 l.count l.bytes)
