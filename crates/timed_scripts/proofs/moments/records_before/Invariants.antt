use Rattle.std.proofs.Common.{◌≡◌, ◌+◌, length}
use Rattle.timed_scripts.specs.Moments.{records_before}
use Rattle.timed_scripts.proofs.moments.records_before.Given as goal

abbrev pub invariant-records : goal.invariant-records
invariant-records l = (l.before + records_before l.moment l.rest ≡ records_before l.moment l.fn.records)
    × (l.before + length l.rest ≡ length l.fn.records)

abbrev pub decreases-records : goal.decreases-records
decreases-records l = length l.rest
