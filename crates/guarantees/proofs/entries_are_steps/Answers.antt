use Rattle.guarantees.proofs.LegalEntries.{entry_is_step}
use Rattle.guarantees.proofs.entries_are_steps.Goals as goal

pub returns : goal.returns
returns c = λ plan earlier later entry legal. entry_is_step plan earlier later entry legal
