use Rattle.std.proofs.Common.{◌≡◌, ◌-◌}
use Rattle.map_cells.specs.IdPlaces.{found, AreWithin}
use Rattle.map_cells.proofs.id_places.place_from.Given as goal

abbrev pub invariant-chain : goal.invariant-chain
invariant-chain l = record {
  within : AreWithin (l.most - l.passed) l.links l.place;
  same : found (l.most - l.passed) l.links l.id l.place ≡ found l.most l.links l.id l.first;
}
