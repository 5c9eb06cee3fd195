use Rattle.std.proofs.Common.{List, sym, subst}
use Rattle.std.specs.List.{AllByRecursion}
use Rattle.ebpf_decode.specs.declared.map.MapDef.{MapDef}
use Rattle.ebpf_decode.specs.declared.version.Version.TheVariants.{V2}
use Rattle.semantics.specs.PlanLimits.{HasImageSizes}
use Rattle.semantics.proofs.shared.ImageSizes.{image_sizes}
use Rattle.map_contents.proofs.making.remade.Goals as goal

pub open_each-requires-clause-allowed : goal.open_each-requires-clause-allowed
open_each-requires-clause-allowed c =
    subst (λ (maps : List MapDef). AllByRecursion HasImageSizes maps) (sym c.maps-maps.ensures.maps)
    (image_sizes V2 c.args.journals.now.maps c.maps-maps.ensures.of_an_image.allowed)
