use Rattle.std.proofs.Common.{◌≡◌, ◌∙◌, ◌/◌, length, arith, rules}
use Rattle.journals.proofs.Words.{half_length}
use Rattle.journals.proofs.reading.key_of.Goals as goal

pub returns-then-count-gt32-clause-found : goal.returns-then-count-gt32-clause-found
returns-then-count-gt32-clause-found c = λ bytes fits is.
    let half : length c.args.text.now / 2 ≡ length bytes = half_length c.args.text.now bytes is in
    absurd (omega (arith, half, fits.0, c.if-count-gt32.true))

pub returns-clause-found : goal.returns-clause-found
returns-clause-found c = λ bytes fits is.
    let half : length c.args.text.now / 2 ≡ length bytes = half_length c.args.text.now bytes is in
    let same : c.decode.new.places ≡ bytes = c.decode.ensures bytes (search rules) fits.1 is in
    c.key_with.ensures.same (rw same fits.0) ∙ same
