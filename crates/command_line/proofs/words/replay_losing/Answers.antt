use Rattle.std.proofs.Common.{rules}
use Rattle.command_line.proofs.PartWords.{loss_asked, no_loss_asked, still_asked}
use Rattle.command_line.proofs.words.replay_losing.Goals as goal

pub replay_with-requires-clause-part : goal.replay_with-requires-clause-part
replay_with-requires-clause-part c =
    still_asked _ c.args.part c.in-Some.losing c.in-Some.ensures.0 c.in-Some.ensures.1 c.requires.part

pub replay_with-requires-clause-lost : goal.replay_with-requires-clause-lost
replay_with-requires-clause-lost c = loss_asked _ c.args.word.now c.in-Some.losing c.requires.lost c.in-Some.ensures.2

pub returns-in-None : goal.returns-in-None
returns-in-None c = let lost = no_loss_asked _ _ c.args.word.now c.args.part c.requires.lost c.requires.part c.in-None.ensures in search rules
