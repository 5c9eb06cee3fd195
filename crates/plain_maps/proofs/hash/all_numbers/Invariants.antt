use Rattle.std.proofs.Common.{◌≡◌, ℕ, ◌<◌, ◌≤◌, length, get_or, vec_capacity}
use Rattle.plain_maps.proofs.hash.all_numbers.Given as goal

abbrev pub invariant-loop-number : goal.invariant-loop-number
invariant-loop-number l = record { count : length l.free.items ≡ l.number; each : (k : ℕ) → k < l.number → get_or l.free.items k 0 ≡ k; room : l.capacity ≤ vec_capacity l.free }
