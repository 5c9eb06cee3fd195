use Rattle.std.proofs.Common.{refl}
use Rattle.page.specs.Html.{head_text}
use Rattle.page.proofs.html.head_text.Goals as goal

pub returns : goal.returns
unfolding head_text
returns c = refl
