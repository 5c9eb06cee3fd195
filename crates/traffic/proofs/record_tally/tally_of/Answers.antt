use Rattle.std.proofs.Common.{[], refl}
use Rattle.traffic.proofs.record_tally.tally_of.Goals as goal

pub returns : goal.returns
returns c = c.in_ok-note.ensures [] [] refl c.in_ok-tally.ensures
