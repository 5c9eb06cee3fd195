use Rattle.journals.proofs.Words.{decoded}
use Rattle.journals.proofs.reading.decode.Goals as goal

pub returns : goal.returns
returns c = λ bytes long fits is. decoded c.args.text.now c.args.places.now bytes c.decode_to_slice.result _ long fits is c.decode_to_slice.ensures.value
