use Rattle.shards.proofs.Holding.{seat_of_visitor, visitor_has}
use Rattle.shards.proofs.showing.leave.Goals as goal

pub give-requires-clause-seat : goal.give-requires-clause-seat
give-requires-clause-seat c = seat_of_visitor _ _ _ c.args.visitor_seat c.requires.visitor

pub give-requires-clause-taken : goal.give-requires-clause-taken
give-requires-clause-taken c = visitor_has _ _ _ c.args.visitor_seat c.requires.visitor
