use Rattle.std.proofs.Common.{◌≡◌, take}
use Rattle.page.specs.Named.{named_by}
use Rattle.page.proofs.named.named_by.Given as goal

abbrev pub invariant-commands : goal.invariant-commands
invariant-commands l = l.named.items ≡ named_by (take l.command-index l.commands)
