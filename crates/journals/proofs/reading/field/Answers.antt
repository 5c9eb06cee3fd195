use Rattle.std.specs.Fmt.{decimal}
use Rattle.journals.proofs.Words.{number_lacks}
use Rattle.journals.proofs.reading.field.Goals as goal

pub returns : goal.returns
returns c = λ number rest lt is.
    let parts = c.cut.ensures.both (decimal number) rest is (number_lacks number lt) in
    (c.number_of.ensures number lt parts.0, parts.1)
