use Rattle.std.proofs.Common.{◌≡◌, rules, List, false, true, refl, subst, sym}
use Rattle.ebpf_decode.specs.declared.map.MapDef.{MapDef}
use Rattle.conntrack.specs.SteeringMaps.{AreSteeringMaps}
use Rattle.xlb_commands.specs.LastTable.{of_maps, of_none, of_rows}
use Rattle.xlb_commands.proofs.last_table.lines_at_end.Goals as goal

pub returns : goal.returns
returns c =
    of_rows c.in-Some.size
    (record {
      served = c.in-Some.ensures.size.0;
      maps_are = subst (λ (maps : List MapDef). AreSteeringMaps c.in-Some.size maps) c.maps.ensures.maps c.in-Some.ensures.size.1;
    })
    (c.if-not-keeps_rows.ensures.rows refl) c.in_ok-lines-2.ensures

pub returns-then-not-keeps_rows : goal.returns-then-not-keeps_rows
returns-then-not-keeps_rows c =
    of_maps c.in-Some.size
    (record {
      served = c.in-Some.ensures.size.0;
      maps_are = subst (λ (maps : List MapDef). AreSteeringMaps c.in-Some.size maps) c.maps.ensures.maps c.in-Some.ensures.size.1;
    })
    (λ rows. let kept : false ≡ true = c.if-not-keeps_rows.ensures.kept rows in absurd cc) c.in_ok-lines.ensures

pub returns-in_default : goal.returns-in_default
returns-in_default c =
    of_none
    (λ size told. c.table_size.ensures.none (search rules) size told.served
    (subst (λ (maps : List MapDef). AreSteeringMaps size maps) (sym c.maps.ensures.maps) told.maps_are))
    (search rules)
