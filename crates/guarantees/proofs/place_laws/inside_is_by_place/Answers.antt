use Rattle.guarantees.proofs.PlaceLemmas.{inside_is_by_place}
use Rattle.guarantees.proofs.place_laws.inside_is_by_place.Goals as goal

pub returns : goal.returns
returns c = inside_is_by_place
