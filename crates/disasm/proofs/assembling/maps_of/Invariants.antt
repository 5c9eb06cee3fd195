use Rattle.std.proofs.Common.{◌≡◌, ◌++◌, length}
use Rattle.std.specs.List.{AllByRecursion}
use denote.Text.{Utf8}
use denote.Shadow.{shadow}
use Rattle.disasm.specs.AssemblyText.{maps_text}
use Rattle.disasm.specs.TextReading.{IsMapOfText}
use Rattle.disasm.proofs.assembling.maps_of.Given as goal

abbrev pub invariant-loop-maps : goal.invariant-loop-maps
invariant-loop-maps l = shadow (Utf8 l.rest) × (l.text ≡ maps_text l.maps.items ++ l.rest) × AllByRecursion IsMapOfText l.maps.items

abbrev pub decreases-loop-maps : goal.decreases-loop-maps
decreases-loop-maps l = length l.rest
