use Rattle.std.proofs.Common.{rules}
use Rattle.replay.proofs.setting.table_for.Goals as goal

pub returns-clause-none : goal.returns-clause-none
returns-clause-none c = λ is. record { some = search rules; none = c.table_size.ensures.none is }
