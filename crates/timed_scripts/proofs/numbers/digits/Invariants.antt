use Rattle.std.proofs.Common.{◌≡◌, ◌<◌, length}
use Rattle.timed_scripts.specs.Moments.{number_after}
use Rattle.timed_scripts.proofs.numbers.digits.Given as goal

abbrev pub invariant-digits : goal.invariant-digits
invariant-digits l = (number_after l.value l.rest ≡ number_after 0 l.fn.text) × (l.value < 1_000_000_000_000)

abbrev pub decreases-digits : goal.decreases-digits
decreases-digits l = length l.rest
