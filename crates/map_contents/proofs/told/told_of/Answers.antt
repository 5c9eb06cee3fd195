use Rattle.std.proofs.Common.{rules, List, refl, subst, sym}
use Rattle.ebpf_decode.specs.declared.map.MapDef.{MapDef}
use Rattle.conntrack.specs.SteeringMaps.{AreSteeringMaps}
use Rattle.map_contents.specs.Told.IsTold.{of_others, of_steering}
use Rattle.map_contents.proofs.Texts.{four_maps}
use Rattle.map_contents.proofs.told.told_of.Goals as goal

pub tables_of-requires-clause-maps : goal.tables_of-requires-clause-maps
tables_of-requires-clause-maps c =
    four_maps c.in-Some.size c.args.journals.now.maps
    (subst (λ (maps : List MapDef). AreSteeringMaps c.in-Some.size maps) c.maps.ensures.maps c.in-Some.ensures.size.1)

pub returns : goal.returns
returns c =
    of_steering c.in-Some.size c.in_ok-tables.tables c.in-Some.ensures.size.0
    (subst (λ (maps : List MapDef). AreSteeringMaps c.in-Some.size maps) c.maps.ensures.maps c.in-Some.ensures.size.1)
    c.in_ok-tables.ensures refl

pub returns-in_default : goal.returns-in_default
returns-in_default c =
    of_others
    (λ size served are. c.table_size.ensures.none (search rules) size served
    (subst (λ (maps : List MapDef). AreSteeringMaps size maps) (sym c.maps.ensures.maps) are))
    refl
