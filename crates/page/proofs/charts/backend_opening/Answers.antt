use Rattle.std.proofs.Common.{refl}
use Rattle.page.specs.Charts.{backend_opening}
use Rattle.page.proofs.charts.backend_opening.Goals as goal

pub returns : goal.returns
unfolding backend_opening
returns c = refl
