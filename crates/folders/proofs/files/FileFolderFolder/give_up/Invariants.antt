use Rattle.std.specs.Prelude.{◌≡◌}
use Rattle.folders.proofs.files.FileFolderFolder.give_up.Given as goal

abbrev pub invariant-making : goal.invariant-making
invariant-making g l = (l.self.failures ≡ l.fn.self.failures) × (l.self.given ≡ l.fn.self.given)
