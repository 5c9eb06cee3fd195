use Rattle.std.proofs.Common.{◌≡◌, take}
use Rattle.page.specs.Labels.{address_of_key}
use Rattle.page.proofs.labels.address_of_key.Given as goal

abbrev pub invariant-commands : goal.invariant-commands
invariant-commands l = l.address ≡ address_of_key (take l.command-index l.commands) l.key
