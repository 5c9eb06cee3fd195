use Rattle.std.proofs.Common.{◌≡◌, ◌∙◌, ◌<◌, ◌^◌, refl, ℕ, Option, Some, None, unwrap_or, codes}
use Rattle.std.specs.Prelude.{Result}
use Rattle.std.specs.Str.Parse.{IsNumeral, ParsesUnsigned, ExplainsUnsignedError, HasUnsignedDigitsIfOk, digits_value, without_leading_plus}
use Rattle.clap.proofs.WalkLemmas.{one_text-rows}
use Rattle.clap.specs.Matches.{ReadsOne, found_of}
use Rattle.clap.specs.Walk.{Text}
use Rattle.command_line.proofs.Numbers.{read_number}
use Rattle.command_line.proofs.words.run_with.Goals as goal

pub returns : goal.returns
returns c = (
  refl,
  c.run_files_of.ensures,
  (λ text found numeral fits.
      read_number _ (λ bs r. ParsesUnsigned 64 10 bs r × ExplainsUnsignedError 10 bs r × HasUnsignedDigitsIfOk bs r) 64 (λ t r g. g.0)
      c.get_one.result _ c.unwrap_or.result text c.unwrap_or.ensures
      (c.get_one.ensures.value text (one_text-rows (found_of c.args.found.now) (codes "now") ∙ found)) numeral fits),
  c.number_of.ensures,
  c.requires,
)
