use Rattle.folders.proofs.FrontLemmas.{some_front}
use Rattle.folders.proofs.files.FileFolderFolder.read_front.Goals as goal

pub returns-in-Ok-clause-front : goal.returns-in-Ok-clause-front
returns-in-Ok-clause-front g c = some_front _ _ c.in-Ok.ensures.front
