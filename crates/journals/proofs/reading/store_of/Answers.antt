use Rattle.std.proofs.Common.{◌++◌, ◌∷◌, refl}
use Rattle.std.specs.Fmt.{decimal}
use Rattle.semantics.specs.declared.call.Reply.TheVariants.{Done}
use Rattle.journals.specs.JournalText.{told_text, reply_text}
use Rattle.journals.specs.ToldReading.{Reads}
use Rattle.journals.proofs.reading.store_of.Goals as goal

pub returns-clause-found : goal.returns-clause-found
unfolding Reads told_text
returns-clause-found c = λ id offset size value f_id f_offset f_size f_value is.
    let at_id = c.field-id.ensures id (decimal offset ++ 32 ∷ (decimal size ++ 32 ∷ (decimal value ++ 32 ∷ reply_text Done))) f_id is in
    let at_offset = c.field-offset.ensures offset (decimal size ++ 32 ∷ (decimal value ++ 32 ∷ reply_text Done)) f_offset at_id.1 in
    let at_size = c.field-size.ensures size (decimal value ++ 32 ∷ reply_text Done) f_size at_offset.1 in
    let at_value = c.field-value.ensures value (reply_text Done) f_value at_size.1 in
    rw (at_id.0, at_offset.0, at_size.0, at_value.0) refl
