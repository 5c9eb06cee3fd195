use Rattle.std.proofs.Common.{◌≡◌, ◌≤◌, length, drop, reverse}
use Rattle.shard_core.proofs.listing.reversed.Given as goal

abbrev pub invariant-bytes : goal.invariant-bytes
invariant-bytes l = record { within : l.left ≤ length l.bytes; so_far : l.turned ≡ reverse (drop l.left l.bytes) }

abbrev pub decreases-bytes : goal.decreases-bytes
decreases-bytes l = l.left
