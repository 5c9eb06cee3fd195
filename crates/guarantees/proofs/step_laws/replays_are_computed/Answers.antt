use Rattle.guarantees.proofs.ReplayRowLemmas.{replay_rows}
use Rattle.guarantees.proofs.step_laws.replays_are_computed.Goals as goal

pub returns : goal.returns
returns c = replay_rows
