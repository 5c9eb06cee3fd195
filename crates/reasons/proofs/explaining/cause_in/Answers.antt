use Rattle.std.proofs.Common.{ap, ◌∙◌}
use Rattle.reasons.specs.Causes.{cause_of}
use Rattle.reasons.proofs.OriginLemmas.{refused_inside, refused_unset}
use Rattle.reasons.proofs.TellingLemmas.{cause_elsewhere}
use Rattle.reasons.proofs.explaining.cause_in.Goals as goal

pub origin_of-requires-clause-covers : goal.origin_of-requires-clause-covers
origin_of-requires-clause-covers c = c.requires.refused.covers

pub origin_of-requires-clause-unset : goal.origin_of-requires-clause-unset
origin_of-requires-clause-unset c = refused_unset _ _ _ _ _ _ _ _ _ c.requires.refused c.requires.breaks c.in-UnsetRegister.is

pub origin_of-requires-clause-inside : goal.origin_of-requires-clause-inside
origin_of-requires-clause-inside c = refused_inside _ _ _ _ _ _ _ c.requires.refused

pub returns-in-UnsetRegister : goal.returns-in-UnsetRegister
returns-in-UnsetRegister c = rw c.in-UnsetRegister.is c.origin_of.ensures

pub returns-in_default : goal.returns-in_default
returns-in_default c =
    cause_elsewhere c.args.image.now.version c.args.image.now.maps c.args.image.now.code c.args.slot c.args.insn c.args.state.now
    c.args.why c.of.result c.in_default.not-UnsetRegister
    (c.of.ensures ∙ ap (λ maps. cause_of maps c.args.state.now c.args.insn c.args.why) c.maps.ensures.maps)
