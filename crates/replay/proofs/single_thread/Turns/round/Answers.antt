use Rattle.std.proofs.Common.{refl}
use Rattle.replay.proofs.single_thread.Turns.round.Goals as goal

pub returns-clause-turn : goal.returns-clause-turn
returns-clause-turn c = record {
  round = c.round.ensures.round;
  maps = c.round.ensures.maps;
  options = c.round.ensures.options;
  controller = refl;
  noted = refl;
  counts = refl;
  sent = refl;
  ends = refl;
}

pub returns-clause-same : goal.returns-clause-same
returns-clause-same c = record { maps = c.round.ensures.maps; options = c.round.ensures.options; size = refl }
