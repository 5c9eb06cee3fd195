use Rattle.std.proofs.Common.{◌≡◌, ◌∙◌, ◌+◌, ◌<◌, ℕ, List, [], ap, get_or, length, sym, take}
use Rattle.std.proofs.lemmas.List.Sums.{fold_more}
use Rattle.control.specs.declared.command.Command.{Command}
use Rattle.page.specs.Named.{key_in, named_by, with_key}
use Rattle.page.proofs.named.named_by.Goals as goal

-- one command more
next_named : (commands : List Command) (index : ℕ) (missing : Command) (named new : List ℕ) (key : ℕ) → index < length commands
    → named ≡ named_by (take index commands) → key ≡ key_in ((get_or commands index missing).action) → new ≡ with_key 8 named key
    → new ≡ named_by (take (index + 1) commands)
next_named commands index missing named new key inside before is_key put =
    put
    ∙ (ap (λ (it : ℕ). with_key 8 named it) is_key
    ∙ (ap (λ (it : List ℕ). with_key 8 it (key_in ((get_or commands index missing).action))) before
    ∙ sym (fold_more (λ so_far (it : Command). with_key 8 so_far (key_in it.action)) [] commands index missing inside)))

pub commands-preserved : goal.commands-preserved
commands-preserved c =
    next_named c.args.commands.now c.commands.command-index _ c.commands.named.items _ _ c.commands-test.true c.commands.invariant c.key_in.ensures
    c.in_ok-put_key.ensures
