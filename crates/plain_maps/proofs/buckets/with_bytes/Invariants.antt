use Rattle.std.proofs.Common.{◌≡◌, drop}
use Rattle.plain_maps.specs.Hashing.{hashed_with_bytes}
use Rattle.plain_maps.proofs.buckets.with_bytes.Given as goal

abbrev pub invariant-loop-byte : goal.invariant-loop-byte
invariant-loop-byte l = hashed_with_bytes (drop l.byte-index l.bytes) l.hash ≡ hashed_with_bytes l.bytes l.start
