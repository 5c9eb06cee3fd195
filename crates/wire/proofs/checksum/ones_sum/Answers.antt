use Rattle.std.proofs.Common.{arith}
use Rattle.wire.proofs.ChecksumLemmas.{complement_in_place}
use Rattle.wire.proofs.checksum.ones_sum.Goals as goal

pub returns-in-len1-clause-complement_in_place : goal.returns-in-len1-clause-complement_in_place
returns-in-len1-clause-complement_in_place c = complement_in_place c.args.bytes.now (λ i. omega (arith, c.type_inv.bytes i))

pub returns-in_default-rest-clause-complement_in_place : goal.returns-in_default-rest-clause-complement_in_place
returns-in_default-rest-clause-complement_in_place c = complement_in_place c.args.bytes.now (λ i. omega (arith, c.type_inv.bytes i))
