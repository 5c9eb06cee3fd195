use Rattle.std.proofs.Common.{◌≡◌, ◌∙◌, ◌+◌, ◌<◌, ℕ, List, ap, get_or, length, sym, take}
use Rattle.std.specs.Prelude.{Option, None}
use Rattle.std.proofs.lemmas.List.Sums.{fold_more}
use Rattle.control.specs.declared.command.Command.{Command}
use Rattle.wire.specs.declared.ethernet.Ipv4Address.{Ipv4Address}
use Rattle.page.specs.Labels.{address_by, address_of_key}
use Rattle.page.proofs.labels.address_of_key.Goals as goal

-- one command more
next_address : (commands : List Command) (index : ℕ) (missing : Command) (key : ℕ) (was new : Option Ipv4Address) → index < length commands
    → was ≡ address_of_key (take index commands) key → new ≡ address_by key was ((get_or commands index missing).action)
    → new ≡ address_of_key (take (index + 1) commands) key
next_address commands index missing key was new inside before put =
    put
    ∙ (ap (λ (it : Option Ipv4Address). address_by key it ((get_or commands index missing).action)) before
    ∙ sym (fold_more (λ so_far (it : Command). address_by key so_far it.action) None commands index missing inside))

pub commands-preserved : goal.commands-preserved
commands-preserved c =
    next_address c.args.commands.now c.commands.command-index _ c.args.key c.commands.address _ c.commands-test.true c.commands.invariant
    c.address_by-address.ensures
