use Rattle.std.proofs.Common.{◌≡◌, ◌≤◌, ℕ, length}
use Rattle.xlb_commands.specs.BackendsUp.{up_before}
use Rattle.xlb_commands.proofs.backends_up.carried_out.Given as goal

abbrev pub invariant-commands : goal.invariant-commands
invariant-commands l = (n : ℕ) → l.number ≤ n → up_before n l.up.items l.later ≡ up_before n l.fn.up.items l.commands

abbrev pub decreases-commands : goal.decreases-commands
decreases-commands l = length l.later
