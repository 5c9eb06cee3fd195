use Rattle.std.proofs.Common.{arith}
use Rattle.std.proofs.lemmas.Map.Text.{text_keys}
use Rattle.folders.proofs.memory_folder.MemoryFolderFolder.finish.Goals as goal

pub returns-in_default-from_str-clause-others_begun : goal.returns-in_default-from_str-clause-others_begun
returns-in_default-from_str-clause-others_begun c = grind (arith, text_keys)

pub returns-in-Ok-insert-clause-others_begun : goal.returns-in-Ok-insert-clause-others_begun
returns-in-Ok-insert-clause-others_begun c = grind (arith, text_keys)

pub returns-in-Ok-insert-clause-others : goal.returns-in-Ok-insert-clause-others
returns-in-Ok-insert-clause-others c = grind (arith, text_keys)

pub returns-clause-others_begun : goal.returns-clause-others_begun
returns-clause-others_begun c = grind (arith, text_keys)
