use Rattle.std.proofs.Common.{sym, ◌∙◌}
use Rattle.actors.proofs.shared.RoundLemmas.{keyed_turn, keyed_did}
use Rattle.actors.proofs.reclaimer.Reclaiming.turn.Goals as goal

pub returns-then-is_keyed-clause-here : goal.returns-then-is_keyed-clause-here
returns-then-is_keyed-clause-here g c = λ rounds was.
    keyed_turn (g.B.Naming.plan c.args.number).definition.kind (g.B.Naming.plan c.args.number) c.args.number rounds c.args.self.now c.reclaim.new.self
    (sym c.is_keyed.ensures.keyed ∙ c.if-is_keyed.true) c.is_keyed.ensures.who c.reclaim.ensures.here was

pub returns-then-is_keyed-clause-did : goal.returns-then-is_keyed-clause-did
returns-then-is_keyed-clause-did g c =
    keyed_did (g.B.Naming.plan c.args.number).definition.kind c.args.number c.args.self.now c.reclaim.new.self
    (sym c.is_keyed.ensures.keyed ∙ c.if-is_keyed.true) c.reclaim.ensures.did
