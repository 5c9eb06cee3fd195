use Rattle.std.proofs.Common.{refl, arith}
use Rattle.reasons.specs.Origins.{stays_there}
use Rattle.reasons.proofs.OriginLemmas.{told_back, further_back}
use Rattle.reasons.proofs.origin.origin_of.Goals as goal

pub back-init : goal.back-init
back-init c = record { stays = stays_there c.args.slot; unset = c.requires.unset; before = omega arith }

pub look_back-requires-clause-covers : goal.look_back-requires-clause-covers
look_back-requires-clause-covers c = λ index inside before. c.requires.covers index inside (omega (arith, before, c.back.invariant.before))

pub look_back-requires-clause-unset : goal.look_back-requires-clause-unset
look_back-requires-clause-unset c = c.back.invariant.unset

pub look_back-requires-clause-inside : goal.look_back-requires-clause-inside
look_back-requires-clause-inside c = omega (arith, c.requires.inside, c.back.invariant.before)

pub returns-in-Found : goal.returns-in-Found
returns-in-Found c = told_back _ _ _ _ _ _ _ _ c.back.invariant.stays c.in-Found.ensures refl

pub back-preserved : goal.back-preserved
back-preserved c =
    let further = further_back _ _ _ _ _ _ _ _ c.back.invariant.stays c.in-Further.ensures refl
    in record { stays = further.stays; unset = further.unset; before = omega (arith, further.before, c.back.invariant.before) }

pub back-smaller : goal.back-smaller
back-smaller c = (further_back _ _ _ _ _ _ _ _ c.back.invariant.stays c.in-Further.ensures refl).before
