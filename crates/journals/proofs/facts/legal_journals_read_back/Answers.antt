use Rattle.journals.proofs.FileJournals.{read_back}
use Rattle.journals.proofs.facts.legal_journals_read_back.Goals as goal

pub returns : goal.returns
returns c = read_back c.args.journals.now c.journals_are.ensures c.requires
