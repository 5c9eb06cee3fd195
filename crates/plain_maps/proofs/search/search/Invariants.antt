use Rattle.std.proofs.Common.{◌-◌}
use Rattle.plain_maps.proofs.Narrowing.{Narrowed}
use Rattle.plain_maps.proofs.search.search.Given as goal

abbrev pub invariant-loop-low : goal.invariant-loop-low
invariant-loop-low l = Narrowed l.size l.keys l.order.numbers l.key l.low l.high

abbrev pub decreases-loop-low : goal.decreases-loop-low
decreases-loop-low l = l.high - l.low
