use Rattle.std.proofs.Common.{arith}
use Rattle.std.proofs.lemmas.Str.Pattern.{split_after, split_parts}
use Rattle.command_line.proofs.PartWords.{at_apart, loss_word_said, number_lacks}
use Rattle.command_line.proofs.part_word.loss_said.Goals as goal

pub returns-in-Some : goal.returns-in-Some
returns-in-Some c =
    let word = c.args.word.now in
    let cut = rw c.in-Some.is at (split_parts 64 word c.split_once.result c.split_once.ensures.cases (omega arith)) in
    loss_word_said word c.in-Some.before.now c.in-Some.after.now c.args.of c.loss_of_numbers.result cut.0
    (λ first second is lacks. rw c.in-Some.is at (split_after 64 word first second c.split_once.result c.split_once.ensures.cases (omega arith) is lacks))
    c.loss_of_numbers.ensures

pub returns-in-None : goal.returns-in-None
returns-in-None c = λ loss is.
    rw c.in-None.is at (split_after 64 c.args.word.now is.before is.after c.split_once.result c.split_once.ensures.cases (omega arith) is.split
    (number_lacks 64 at_apart is.before loss.part is.first))
