use Rattle.std.proofs.Common.{get_or}
use Rattle.std.proofs.lemmas.List.{get_or_default}
use Rattle.map_cells.specs.IdPlaces.{chain_of}
use Rattle.map_cells.specs.Places.{no_place}
use Rattle.map_cells.proofs.id_places.first_of.Goals as goal

pub returns : goal.returns
returns c = rw c.chain_of.ensures.chain (get_or_default c.args.firsts.now _ 0 no_place (rw (← c.chain_of.ensures.chain) c.chain_of.ensures.within))
