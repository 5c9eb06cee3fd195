use Rattle.guarantees.proofs.JournalLemmas.{entries_answered}
use Rattle.guarantees.proofs.entries_are_answered.Goals as goal

pub returns : goal.returns
returns c = entries_answered
