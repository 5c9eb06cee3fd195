use Rattle.std.proofs.Common.{◌≡◌, take}
use Rattle.std.specs.Prelude.{fold, max}
use Rattle.page.proofs.tallies.latest.Given as goal

abbrev pub invariant-moments : goal.invariant-moments
invariant-moments l = l.most ≡ fold max 0 (take l.moment-index l.moments)
