use Rattle.std.proofs.Common.{refl}
use Rattle.fleet.proofs.NumberLemmas.{noted}
use Rattle.fleet.proofs.numbering.Numbering.note.Goals as goal

pub returns-clause-noted : goal.returns-clause-noted
returns-clause-noted c = λ frames past are within due. noted frames past c.args.self.now _ are within due refl c.in_ok-push.ensures.items refl refl
