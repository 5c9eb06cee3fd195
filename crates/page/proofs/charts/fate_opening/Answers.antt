use Rattle.std.proofs.Common.{refl}
use Rattle.page.specs.Charts.{fate_opening}
use Rattle.page.proofs.charts.fate_opening.Goals as goal

pub returns : goal.returns
unfolding fate_opening
returns c = refl
