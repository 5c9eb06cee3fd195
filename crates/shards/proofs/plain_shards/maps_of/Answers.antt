use Rattle.semantics.proofs.shared.ImageSizes.{image_sizes}
use Rattle.shards.proofs.plain_shards.maps_of.Goals as goal

pub returns-clause-sizes : goal.returns-clause-sizes
returns-clause-sizes c = image_sizes c.args.image.now.version c.args.image.now.maps c.maps.ensures.encodable.maps_allowed
