use Rattle.std.proofs.Common.{List, subst}
use Rattle.ebpf_decode.specs.declared.map.MapDef.{MapDef}
use Rattle.semantics.specs.declared.options.Options.{Options}
use Rattle.shards.specs.MapContents.{AreContentsOfMap}
use Rattle.map_contents.proofs.told.entries_of.Goals as goal

pub returns : goal.returns
returns c =
    subst (λ (maps : List MapDef). AreContentsOfMap maps c.args.journals.now.options c.args.shards.now c.args.map c.in_ok-entries.entries.items)
    c.maps-maps.ensures.maps
    (subst (λ (options : Options). AreContentsOfMap c.maps-maps.result.now options c.args.shards.now c.args.map c.in_ok-entries.entries.items)
    c.options-options.ensures.options c.in_ok-entries.ensures)
