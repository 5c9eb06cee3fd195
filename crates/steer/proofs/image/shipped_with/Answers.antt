use Rattle.std.proofs.Common.{rules, List, ap, ◌∙◌}
use Rattle.ebpf_decode.specs.declared.insn.Insn.{Insn}
use Rattle.ebpf_decode.specs.declared.map.MapDef.{MapDef}
use Rattle.ebpf_decode.specs.ImageContents.{Contents}
use Rattle.ebpf_decode.specs.declared.version.Version.TheVariants.{V1}
use Rattle.ebpf_decode.specs.ImageFormat.{first_part_fault}
use Rattle.conntrack.specs.SteeringMaps.{sized_maps}
use Rattle.steer.proofs.Encodable.{no_fault}
use Rattle.steer.proofs.image.shipped_with.Goals as goal

abbrev image_with : List MapDef → List Insn → Contents
image_with maps code = record { version = V1; maps = maps; code = code }

pub unreachable-requires : goal.unreachable-requires
unreachable-requires c =
    let none = ap (λ maps. first_part_fault V1 maps c.in_ok-code.code.items) c.in_ok-maps.ensures.maps
    ∙ ap (λ code. first_part_fault V1 (sized_maps c.args.notes c.args.size) code) c.in_ok-code.ensures.code
    ∙ no_fault c.args.notes c.args.size (search (rules, c.if-not-is_note_count.ensures)) (search (rules, c.if-not-is_ring_size.ensures)) in
    let told = c.in-Err.ensures.fault ∙ none in
    search rules

pub returns-clause-image : goal.returns-clause-image
returns-clause-image c =
    c.in-Ok.ensures.made
    ∙ ap (λ maps. image_with maps c.in_ok-code.code.items) c.in_ok-maps.ensures.maps
    ∙ ap (image_with (sized_maps c.args.notes c.args.size)) c.in_ok-code.ensures.code
