use Rattle.std.proofs.Common.{◌++◌, ◌∷◌, refl}
use Rattle.std.specs.Fmt.{decimal}
use Rattle.journals.specs.JournalText.{told_text, reply_text}
use Rattle.journals.specs.ToldReading.{Reads}
use Rattle.journals.proofs.reading.atomic_of.Goals as goal

pub returns-clause-found : goal.returns-clause-found
unfolding Reads told_text
returns-clause-found c = λ id offset size op value expected reply f_id f_offset f_size f_op f_value f_expected replies is.
    let at_id = c.field-id.ensures id (decimal offset ++ 32 ∷ (decimal size ++ 32 ∷ (decimal op ++ 32 ∷ (decimal value ++ 32 ∷ (decimal expected ++ 32 ∷ reply_text reply))))) f_id is in
    let at_offset = c.field-offset.ensures offset (decimal size ++ 32 ∷ (decimal op ++ 32 ∷ (decimal value ++ 32 ∷ (decimal expected ++ 32 ∷ reply_text reply)))) f_offset at_id.1 in
    let at_size = c.field-size.ensures size (decimal op ++ 32 ∷ (decimal value ++ 32 ∷ (decimal expected ++ 32 ∷ reply_text reply))) f_size at_offset.1 in
    let at_op = c.field-op.ensures op (decimal value ++ 32 ∷ (decimal expected ++ 32 ∷ reply_text reply)) f_op at_size.1 in
    let at_value = c.field-value.ensures value (decimal expected ++ 32 ∷ reply_text reply) f_value at_op.1 in
    let at_expected = c.field-expected.ensures expected (reply_text reply) f_expected at_value.1 in
    rw (at_id.0, at_offset.0, at_size.0, at_op.0, at_value.0, at_expected.0, c.word_of.ensures.found reply replies at_expected.1) refl
