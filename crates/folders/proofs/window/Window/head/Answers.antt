use Rattle.std.proofs.Common.{rules}
use Rattle.folders.proofs.RecordFronts.{front_there}
use Rattle.folders.proofs.window.Window.head.Goals as goal

pub returns-clause-front : goal.returns-clause-front
returns-clause-front c =
    front_there c.self.inside.bytes c.args.self.now _ (search rules) (search rules) (search rules) (search rules) (search rules) (search rules)
    (search rules) (search rules)
