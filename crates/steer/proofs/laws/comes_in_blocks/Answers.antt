use Rattle.steer.proofs.ProgramForm.{in_blocks, slots}
use Rattle.steer.proofs.laws.comes_in_blocks.Goals as goal

pub returns-clause-blocks : goal.returns-clause-blocks
returns-clause-blocks c = in_blocks c.args.size

pub returns-clause-slots : goal.returns-clause-slots
returns-clause-slots c = slots c.args.size
