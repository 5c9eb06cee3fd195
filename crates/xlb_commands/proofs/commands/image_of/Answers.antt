use Rattle.xlb_commands.specs.Refused.{no_image, kept_of_image}
use Rattle.xlb_commands.proofs.LongImages.{full_front}
use Rattle.xlb_commands.proofs.commands.image_of.Goals as goal

pub image_of_front-requires : goal.image_of_front-requires
image_of_front-requires g c = λ cut.
    let front = c.in_ok-front.ensures.front in
    full_front front.bytes kept_of_image c.in_ok-front.front front.is_front cut

pub returns-in-Ok-clause-file : goal.returns-in-Ok-clause-file
returns-in-Ok-clause-file g c =
    let front = c.in_ok-front.ensures.front in
    record { bytes = front.bytes; read = front.held; encoding = c.in-Ok.ensures.found front.bytes front.is_front }

pub returns-clause-refused : goal.returns-clause-refused
returns-clause-refused g c =
    let front = c.in_ok-front.ensures.front in
    let none = c.in-Err.ensures.refused front.bytes front.is_front in
    no_image front.bytes none.why front.held none.refusal none.is
