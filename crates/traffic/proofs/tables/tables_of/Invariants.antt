use Rattle.std.proofs.Common.{◌≡◌, string_bytes}
use Rattle.conntrack.specs.SteeringMaps.{steering_maps, AreSteeringMaps}
use Rattle.traffic.proofs.TableLemmas.{IsShownUntil}
use Rattle.traffic.proofs.tables.tables_of.Given as goal

abbrev pub invariant-lines : goal.invariant-lines
invariant-lines l =
    IsShownUntil l.size l.command-index l.commands l.controller l.maps (string_bytes l.tables.text) l.tables.refused.items
    × (l.place ≡ l.command-index) × AreSteeringMaps l.controller.size (steering_maps l.maps.size)
