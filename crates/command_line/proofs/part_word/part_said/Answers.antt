use Rattle.std.proofs.Common.{arith}
use Rattle.std.proofs.lemmas.Str.Pattern.{split_after, split_parts}
use Rattle.command_line.proofs.PartWords.{number_lacks, slash_apart, word_said}
use Rattle.command_line.proofs.part_word.part_said.Goals as goal

pub returns-in-Some : goal.returns-in-Some
returns-in-Some c =
    let word = c.args.word.now in
    let cut = rw c.in-Some.is at (split_parts 47 word c.split_once.result c.split_once.ensures.cases (omega arith)) in
    word_said word c.in-Some.before.now c.in-Some.after.now c.part_of_numbers.result cut.0
    (λ first second is lacks. rw c.in-Some.is at (split_after 47 word first second c.split_once.result c.split_once.ensures.cases (omega arith) is lacks))
    c.part_of_numbers.ensures

pub returns-in-None : goal.returns-in-None
returns-in-None c = λ number of is.
    rw c.in-None.is at (split_after 47 c.args.word.now is.before is.after c.split_once.result c.split_once.ensures.cases (omega arith) is.split
    (number_lacks 47 slash_apart is.before number is.first))
