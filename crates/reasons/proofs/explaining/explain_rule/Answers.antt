use Rattle.std.proofs.Common.{arith}
use Rattle.reasons.proofs.OriginLemmas.{refused_inside}
use Rattle.reasons.proofs.explaining.explain_rule.Goals as goal

pub rule_at-requires : goal.rule_at-requires
rule_at-requires c =
    let within = refused_inside _ _ _ _ _ _ _ c.requires.refused in let e = c.maps-maps.ensures.encodable in omega arith
