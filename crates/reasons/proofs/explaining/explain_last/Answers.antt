use Rattle.std.proofs.Common.{◌≡◌, ◌+◌, ◌-◌, length, arith}
use Rattle.reasons.proofs.OriginLemmas.{is_last}
use Rattle.reasons.proofs.explaining.explain_last.Goals as goal

pub explain_at-requires-clause-inside : goal.explain_at-requires-clause-inside
explain_at-requires-clause-inside c =
    let size : length c.args.survey.now.known.items ≡ c.len-last.result - 1 + 1 = omega (arith, c.len-last.ensures, c.requires.some)
    in (is_last _ _ _ c.args.survey.now c.args.reject (c.len-last.result - 1) c.requires.survey c.requires.refused size).within
