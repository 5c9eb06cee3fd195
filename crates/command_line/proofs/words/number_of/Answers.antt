use Rattle.std.proofs.Common.{◌∙◌}
use Rattle.std.specs.Str.Parse.{ParsesUnsigned, ExplainsUnsignedError, HasUnsignedDigitsIfOk}
use Rattle.clap.proofs.WalkLemmas.{one_text-rows}
use Rattle.clap.specs.Matches.{found_of}
use Rattle.command_line.proofs.Numbers.{read_number}
use Rattle.command_line.proofs.words.number_of.Goals as goal

pub returns : goal.returns
returns c = λ text found numeral fits.
    read_number _ (λ bs r. ParsesUnsigned 32 10 bs r × ExplainsUnsignedError 10 bs r × HasUnsignedDigitsIfOk bs r) 32 (λ t r g. g.0)
    c.get_one.result _ c.unwrap_or.result text c.unwrap_or.ensures
    (c.get_one.ensures.value text (one_text-rows (found_of c.args.found.now) c.args.id.now ∙ found)) numeral fits
