use Rattle.std.proofs.Common.{ℕ, List, IsTrue, subst, rules}
use Rattle.xlb_commands.proofs.commands.source_bytes.Goals as goal

pub returns-then-is_whole-clause-bytes : goal.returns-then-is_whole-clause-bytes
returns-then-is_whole-clause-bytes g c =
    let front = c.requires.front in
    let is : IsTrue c.is_whole.result = search rules in
    subst (λ (bytes : List ℕ). g.D.Folder.holds c.args.folder.now c.args.name.now bytes) (c.is_whole.ensures.all is front.bytes _ front.is_front) front.held
