use Rattle.std.proofs.Common.{◌≡◌, fold, length}
use Rattle.wire.specs.Checksum.{ones_add, words_of_bytes, ones_sum_of}
use Rattle.wire.proofs.checksum.ones_sum.Given as goal

abbrev pub invariant-loop-rest : goal.invariant-loop-rest
invariant-loop-rest l = fold ones_add l.sum (words_of_bytes l.rest) ≡ ones_sum_of l.fn.bytes

abbrev pub decreases-loop-rest : goal.decreases-loop-rest
decreases-loop-rest l = length l.rest
