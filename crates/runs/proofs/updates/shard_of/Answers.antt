use Rattle.runs.proofs.UpdateLemmas.{fits_map, index_size}
use Rattle.runs.proofs.updates.shard_of.Goals as goal

pub shard_of_map-requires-clause-size : goal.shard_of_map-requires-clause-size
shard_of_map-requires-clause-size c definition found =
    index_size c.args.maps.now c.args.update.now definition c.requires.sizes (fits_map c.args.maps.now c.args.update.now c.requires.fits) found
