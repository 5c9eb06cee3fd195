use Rattle.std.proofs.Common.{sym, ◌∙◌, ap, length}
use Rattle.map_cells.specs.IdPlaces.{PlaceList}
use Rattle.map_cells.proofs.PlaceLists.{places_count}
use Rattle.map_cells.proofs.id_places.IdPlaces.len.Goals as goal

pub returns : goal.returns
returns c = rw (← c.self.view_is) (sym (places_count c.self.inside.given c.self.inside.firsts.items c.self.inside.links.items c.self.inside.given))
