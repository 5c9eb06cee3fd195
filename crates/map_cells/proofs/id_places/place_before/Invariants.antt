use Rattle.std.proofs.Common.{◌≡◌, ◌≢◌, ◌-◌}
use Rattle.map_cells.specs.IdPlaces.{found, link_at, place_before, AreWithin}
use Rattle.map_cells.proofs.id_places.place_before.Given as goal

abbrev pub invariant-chain : goal.invariant-chain
invariant-chain l = record {
  within : AreWithin (l.most - l.passed) l.links l.before;
  behind : (link_at l.links l.before).id ≢ l.id;
  there : found (l.most - l.passed) l.links l.id l.before ≡ found l.most l.links l.id l.first;
  same : place_before (l.most - l.passed) l.links l.id l.before ≡ place_before l.most l.links l.id l.first;
}
