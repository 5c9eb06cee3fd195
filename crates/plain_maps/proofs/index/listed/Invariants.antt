use Rattle.std.proofs.Common.{◌≡◌}
use Rattle.plain_maps.proofs.Flagged.{listed_below}
use Rattle.plain_maps.proofs.index.listed.Given as goal

abbrev pub invariant-numbers : goal.invariant-numbers
invariant-numbers l = l.entries.items ≡ listed_below l.size l.keys l.is_there l.items l.number
