use Rattle.shards.proofs.EntryLemmas.{all_somebodys}
use Rattle.shards.proofs.laws.all_entries_are_somebodys.Goals as goal

pub returns : goal.returns
returns c = all_somebodys
