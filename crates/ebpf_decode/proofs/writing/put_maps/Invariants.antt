use Rattle.std.proofs.Common.{◌≡◌, ◌++◌, take}
use Rattle.std.specs.List.{flat_map}
use Rattle.ebpf_decode.specs.MapForm.{map_bytes}
use Rattle.ebpf_decode.proofs.writing.put_maps.Given as goal

abbrev pub invariant-loop-map : goal.invariant-loop-map
invariant-loop-map l = l.out.items ≡ l.fn.out.items ++ flat_map map_bytes (take l.map-index l.maps)
