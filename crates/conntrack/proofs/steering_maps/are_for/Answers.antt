use Rattle.std.proofs.Common.{◌∙◌, rules}
use Rattle.conntrack.proofs.LayoutLemmas.{same_by_places}
use Rattle.conntrack.proofs.steering_maps.are_for.Goals as goal

pub returns : goal.returns
returns c = ((λ _. same_by_places c.args.maps.now c.defined_maps-wanted.result (search rules) (λ n within. c.places.invariant n (search rules)) ∙ c.defined_maps-wanted.ensures), λ _. search rules)
