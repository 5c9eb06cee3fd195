use Rattle.std.proofs.Common.{refl}
use Rattle.block_runs.specs.Plan.{Asks, Ends}
use Rattle.block_runs.proofs.shared.BlockLaw.{goes, asks, ends}
use Rattle.block_runs.proofs.laws.one_step_more.Goals as goal

pub returns-clause-goes_on : goal.returns-clause-goes_on
returns-clause-goes_on c = goes

pub returns-clause-calls : goal.returns-clause-calls
returns-clause-calls c = λ most program state call next onward is does. asks most program state call next (Asks call onward) is (refl, does)

pub returns-clause-exits : goal.returns-clause-exits
returns-clause-exits c = λ most program state last verdict is. ends most program state last verdict (Ends verdict last.frame) is (refl, refl)
