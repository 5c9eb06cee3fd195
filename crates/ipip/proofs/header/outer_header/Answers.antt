use Rattle.std.proofs.Common.{subst}
use Rattle.wire.specs.Checksum.{ComplementInPlace}
use Rattle.ipip.proofs.HeaderLemmas.{outer_header-verifies}
use Rattle.ipip.proofs.header.outer_header.Goals as goal

pub returns-clause-verifies : goal.returns-clause-verifies
returns-clause-verifies c =
    outer_header-verifies c.args.service c.args.total c.args.tunnel.now
    (subst ComplementInPlace c.header_with.ensures c.ones_sum-checksum.ensures.complement_in_place)
