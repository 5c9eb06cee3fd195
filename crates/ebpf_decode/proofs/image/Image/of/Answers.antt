use Rattle.std.proofs.Common.{◌≡◌, None, sym}
use Rattle.std.specs.List.{AllByRecursion}
use Rattle.ebpf_decode.specs.InstructionEncoding.{FieldsFit}
use Rattle.ebpf_decode.specs.ImageFormat.{first_part_fault}
use Rattle.ebpf_decode.proofs.PartLaws.{encodable_parts}
use Rattle.ebpf_decode.proofs.image.Image.of.Goals as goal

pub new-requires : goal.new-requires
new-requires c =
    let none : first_part_fault c.args.version c.args.maps.items c.args.code.items ≡ None = rw (← c.deref-2.ensures.value, ← c.deref-3.ensures.value) (sym c.in-None.ensures) in
    let fits : AllByRecursion FieldsFit c.args.code.items = rw (← c.deref.ensures.value) c.code_fields_fit.ensures in
    encodable_parts c.args.version c.args.maps.items c.args.code.items none fits
