use Rattle.std.proofs.Common.{arith}
use Rattle.std.proofs.lemmas.Bool.{cases_lt}
use mathlib.Core.Logic.{⊎_elim}
use Rattle.fleet.specs.Parts.{is_in_part}
use Rattle.fleet.proofs.shared.PartLemmas.{never_fewer, rises}
use Rattle.fleet.proofs.laws.commands_keep_their_side.Goals as goal

pub returns : goal.returns
returns c = λ of lost number frame place records sent at is. (
  λ le. never_fewer (is_in_part of lost number) records frame place le,
  λ le. ⊎_elim (λ lt. let more = rises (is_in_part of lost number) records place frame sent at is lt in absurd (omega (arith, more, le))) (λ ge. ge)
      (cases_lt place frame),
)
