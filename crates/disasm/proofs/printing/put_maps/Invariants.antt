use Rattle.std.proofs.Common.{◌≡◌, ◌++◌, take, string_bytes}
use Rattle.disasm.specs.AssemblyText.{maps_text}
use Rattle.disasm.proofs.printing.put_maps.Given as goal

abbrev pub invariant-loop-map : goal.invariant-loop-map
invariant-loop-map l = string_bytes l.out ≡ string_bytes l.fn.out ++ maps_text (take l.map-index l.maps)
