use Rattle.std.proofs.Common.{◌≡◌, ◌/◌, length}
use Rattle.plain_maps.specs.Hashing.{with_words, hash_of}
use Rattle.plain_maps.proofs.buckets.hash_of.Given as goal

abbrev pub invariant-words : goal.invariant-words
invariant-words l = with_words (length l.rest / 8) l.rest l.hash ≡ hash_of l.key

abbrev pub decreases-words : goal.decreases-words
decreases-words l = length l.rest
