use Rattle.std.proofs.Common.{◌≡◌, ℕ, ◌+◌, ◌-◌, length}
use Rattle.verifier.specs.Pending.{pending_at}
use Rattle.verifier.proofs.pending.Pending.extend_to.Given as goal

abbrev pub invariant-places : goal.invariant-places
invariant-places l = (other : ℕ) → pending_at l.self other ≡ pending_at l.initial.self other

abbrev pub decreases-places : goal.decreases-places
decreases-places l = l.slot + 1 - length l.self.states.items
