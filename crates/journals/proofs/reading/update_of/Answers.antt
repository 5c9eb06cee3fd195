use Rattle.std.proofs.Common.{◌++◌, ◌∷◌, refl}
use Rattle.std.specs.Fmt.{decimal}
use Rattle.hex.specs.Hex.{encode_lower}
use Rattle.journals.specs.JournalText.{told_text, reply_text}
use Rattle.journals.specs.ToldReading.{Reads}
use Rattle.journals.proofs.Words.{hex_lacks}
use Rattle.journals.proofs.reading.update_of.Goals as goal

pub returns-clause-found : goal.returns-clause-found
unfolding Reads told_text
returns-clause-found c = λ key value flags reply key_fits value_fits flags_fit replies is.
    let first = c.cut.ensures.both (encode_lower key) (encode_lower value ++ 32 ∷ (decimal flags ++ 32 ∷ reply_text reply)) is (hex_lacks key key_fits.1) in
    let second = c.cut-2.ensures.both (encode_lower value) (decimal flags ++ 32 ∷ reply_text reply) first.1 (hex_lacks value value_fits.1) in
    let third = c.field-flags.ensures flags (reply_text reply) flags_fit second.1 in
    rw (c.key_of.ensures.found key key_fits first.0, c.value_of.ensures.found value value_fits second.0, third.0, c.answer_of.ensures.found reply replies third.1) refl
