use Rattle.std.proofs.Common.{◌≡◌, ◌≢◌, ℕ, ◌<◌, get_or, true, false}
use Rattle.plain_maps.proofs.buckets.is_same_key.Given as goal

abbrev pub invariant-loop-i : goal.invariant-loop-i
invariant-loop-i l = record {
  same : l.same ≡ true → (k : ℕ) → k < l.i → get_or l.a k 0 ≡ get_or l.b k 0;
  apart : l.same ≡ false → (k : ℕ) × (k < l.i) × (get_or l.a k 0 ≢ get_or l.b k 0);
}
