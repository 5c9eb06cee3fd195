-- A text that writes a number is read as that number.
use Rattle.std.proofs.Common.{◌≡◌, ◌∙◌, ◌<◌, ◌^◌, ℕ, Option, Some, None, unwrap_or}
use Rattle.std.specs.Prelude.{Result}
use Rattle.std.specs.Str.Parse.{IsNumeral, ParsesUnsigned, digits_value, without_leading_plus}
use Rattle.clap.specs.Matches.{ReadsOne}
use Rattle.clap.specs.Walk.{Text}

pub read_number : (E : Type 0) (G : Text → Result ℕ E → Type 0) (bits : ℕ) → ((t : Text) (r : Result ℕ E) → G t r → ParsesUnsigned bits 10 t r)
    → (o : Option ℕ) (default number : ℕ) (text : Text) → number ≡ unwrap_or o default → ReadsOne G text o
    → IsNumeral 10 (without_leading_plus text) → digits_value 10 (without_leading_plus text) < 2 ^ bits
    → number ≡ digits_value 10 (without_leading_plus text)
read_number E G bits only None default number text is read numeral fits = absurd (only text _ read.1 (numeral, fits))
read_number E G bits only (Some value) default number text is read numeral fits = is ∙ (only text _ read).1
