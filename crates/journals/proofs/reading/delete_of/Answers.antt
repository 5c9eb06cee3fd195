use Rattle.std.proofs.Common.{refl}
use Rattle.hex.specs.Hex.{encode_lower}
use Rattle.journals.specs.JournalText.{told_text, reply_text}
use Rattle.journals.specs.ToldReading.{Reads}
use Rattle.journals.proofs.Words.{hex_lacks}
use Rattle.journals.proofs.reading.delete_of.Goals as goal

pub returns-clause-found : goal.returns-clause-found
unfolding Reads told_text
returns-clause-found c = λ key reply fits replies is.
    let parts = c.cut.ensures.both (encode_lower key) (reply_text reply) is (hex_lacks key fits.1) in
    rw (c.key_of.ensures.found key fits parts.0, c.answer_of.ensures.found reply replies parts.1) refl
