use Rattle.std.proofs.Common.{◌≡◌, drop}
use Rattle.ebpf_decode.specs.ImageFormat.{first_bad_map}
use Rattle.ebpf_decode.proofs.image.first_bad_map.Given as goal

abbrev pub invariant-loop-place : goal.invariant-loop-place
invariant-loop-place l = first_bad_map l.version l.place (drop l.place l.maps) ≡ first_bad_map l.version 0 l.maps
