use Rattle.std.proofs.Common.{arith}
use Rattle.mistakes.proofs.NoteLines as line
use Rattle.mistakes.proofs.notes.one_line.Goals as goal

pub returns-then-line-le-MOST : goal.returns-then-line-le-MOST
returns-then-line-le-MOST c = record {
  one_line = line.front_lacks c.args.words.now c.cut.result.0.now c.cut.result.1.now c.cut.ensures.both c.cut.ensures.whole;
  short = (let test = c.if-line-le-MOST.true in omega (arith, test));
}
