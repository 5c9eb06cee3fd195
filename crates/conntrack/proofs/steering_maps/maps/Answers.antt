use Rattle.conntrack.proofs.shared.MapLemmas.{size_decides}
use Rattle.conntrack.proofs.steering_maps.maps.Goals as goal

pub returns-clause-bad_size : goal.returns-clause-bad_size
returns-clause-bad_size c =
    let with = c.maps_with.ensures.bad_size in
    let decides = size_decides c.args.size in
    (λ bad. decides.0 (with.0 bad), λ none. with.1 (decides.1 none))
