use Rattle.std.proofs.Common.{◌∙◌, sym, [], ◌∷◌, ap}
use Rattle.shards.specs.declared.deeds.OrderPart.TheVariants.{AtFirst}
use Rattle.shards.proofs.OrderMoves.{beginning_comes, sits_so}
use Rattle.shards.proofs.order.first_of_nothing.Goals as goal

pub load_new_seat-requires : goal.load_new_seat-requires
load_new_seat-requires c = (c.requires, beginning_comes _ _ _)

pub returns-clause-first : goal.returns-clause-first
returns-clause-first c = (c.load_new_seat.ensures.0, (sits_so _ AtFirst [] c.load_new_seat.ensures.2).0)

pub returns-clause-nothing : goal.returns-clause-nothing
returns-clause-nothing c = (sits_so _ AtFirst [] c.load_new_seat.ensures.2).1
