use Rattle.std.proofs.Common.{refl}
use Rattle.page.specs.Charts.{patterns_text}
use Rattle.page.proofs.charts.patterns_text.Goals as goal

pub returns : goal.returns
unfolding patterns_text
returns c = refl
