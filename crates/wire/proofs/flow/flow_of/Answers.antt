use Rattle.std.proofs.Common.{refl}
use Rattle.wire.proofs.flow.flow_of.Goals as goal
use Rattle.wire.proofs.flow.flow_of.Goals.{in-6, in-17}

pub returns-clause-key : goal.returns-clause-key
returns-clause-key c =
    rw (c.word_at-2.ensures.high, c.word_at-2.ensures.low, c.word_at-3.ensures.high, c.word_at-3.ensures.low)
    (elim c.match-frame.branch [ in-6 w ↦ rw (w.transport-is, w.in-6.is) refl | in-17 w ↦ rw (w.transport-is, w.in-17.is) refl ])
