use Rattle.std.proofs.Common.{arith}
use Rattle.command_line.proofs.PartWords.{numbers_said}
use Rattle.command_line.proofs.part_word.part_of_numbers.Goals as goal

pub returns-in-None : goal.returns-in-None
returns-in-None c = λ number of lt fits writes other. c.in-None.ensures number (omega (arith, lt, fits)) writes

pub returns-in-None-number_said : goal.returns-in-None-number_said
returns-in-None-number_said c = λ number of lt fits writes other. c.in-None-number_said.ensures of fits other

pub returns-in-Some-number_said : goal.returns-in-Some-number_said
returns-in-Some-number_said c =
    numbers_said c.args.before.now c.args.after.now _ _ c.part_within.result c.in-Some.ensures c.in-Some-number_said.ensures c.part_within.ensures
