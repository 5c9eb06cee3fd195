use Rattle.std.proofs.Common.{◌≡◌, ◌+◌, ◌<◌, ◌≤◌, ℕ, get_or, length}
use Rattle.traffic.proofs.counts.add_counts.Given as goal

abbrev pub invariant-places : goal.invariant-places
invariant-places l =
    (length l.counts ≡ length l.fn.counts)
    × ((place : ℕ) → place < l.place → get_or l.counts place 0 ≡ get_or l.fn.counts place 0 + get_or l.others place 0)
    × ((place : ℕ) → l.place ≤ place → get_or l.counts place 0 ≡ get_or l.fn.counts place 0)
