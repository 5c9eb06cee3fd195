use Rattle.std.proofs.Common.{rules, refl}
use Rattle.reasons.proofs.MeetingLemmas.{some_arrive, left_so}
use Rattle.reasons.proofs.OriginLemmas.{along_looks, paths_look}
use Rattle.reasons.proofs.origin.look_back.Goals as goal

pub unreachable-requires : goal.unreachable-requires
unreachable-requires c = some_arrive _ _ _ _ _ c.requires.unset c.requires.past_start c.requires.inside (c.in-None.ensures.none refl)

pub returns-in-Some-find_arrival : goal.returns-in-Some-find_arrival
returns-in-Some-find_arrival c =
    paths_look _ _ _ _ _ c.in-Some.one c.in-Some-find_arrival.other c.disagreement.result _ c.in-Some.ensures.brings c.in-Some-find_arrival.ensures.brings
    c.in-Some-find_arrival.ensures.sought c.disagreement.ensures (search rules)

pub returns-in-None-find_arrival : goal.returns-in-None-find_arrival
returns-in-None-find_arrival c =
    along_looks _ _ _ _ _ c.in-Some.one _ c.in-Some.ensures.brings
    (left_so _ _ _ _ c.in-Some.one.after _ c.requires.unset c.requires.past_start c.requires.inside (c.in-None-find_arrival.ensures.none refl))
    c.in-Some.ensures.before c.along.ensures
