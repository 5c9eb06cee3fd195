use Rattle.guarantees.proofs.PlaceLemmas.{held_is_by_place}
use Rattle.guarantees.proofs.place_laws.held_is_by_place.Goals as goal

pub returns : goal.returns
returns c = held_is_by_place
