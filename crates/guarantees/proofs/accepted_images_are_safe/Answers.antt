use Rattle.guarantees.proofs.accepted_images_are_safe.Goals as goal

pub returns : goal.returns
returns c =
    let verified = c.args.verified.now in
    c.accepted_is_safe.ensures verified.version verified.maps verified.code verified.states c.encodable.ensures c.image.ensures.accepted
