use Rattle.std.proofs.Common.{[], sym}
use Rattle.traffic.proofs.moves.moved_places.Goals as goal

pub returns : goal.returns
returns c = sym (c.in_ok-places.ensures.places [] c.none-moves.ensures)
