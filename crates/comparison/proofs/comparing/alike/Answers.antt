use Rattle.std.proofs.Common.{rules, refl}
use Rattle.comparison.specs.Comparing.AreOthers.{of_others}
use Rattle.comparison.proofs.comparing.alike.Goals as goal

pub returns-then-not-are_all-clause-refused : goal.returns-then-not-are_all-clause-refused
returns-then-not-are_all-clause-refused c =
    of_others c.shared_count-shared.result c.shared_count-shared.ensures (c.are_all.ensures.some (search rules)) refl
