use Rattle.std.proofs.Common.{arith}
use Rattle.command_line.proofs.PartWords.{loss_of}
use Rattle.command_line.proofs.part_word.loss_of_numbers.Goals as goal

pub returns-in-None : goal.returns-in-None
returns-in-None c = λ part from lt two fits writes other. c.in-None.ensures part (omega (arith, lt, c.ranges.of)) writes

pub returns-in-None-number_said : goal.returns-in-None-number_said
returns-in-None-number_said c = λ part from lt two fits writes other. c.in-None-number_said.ensures from fits other

pub returns-in-Some-number_said : goal.returns-in-Some-number_said
returns-in-Some-number_said c =
    loss_of c.args.before.now c.args.after.now _ _ c.args.of c.loss_within.result c.in-Some.ensures c.in-Some-number_said.ensures c.loss_within.ensures
