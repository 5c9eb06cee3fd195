use Rattle.std.proofs.Common.{length}
use Rattle.capture_readings.proofs.ReadingLemmas.{AreGoneOver}
use Rattle.capture_readings.proofs.readings.altered_capture.Given as goal

abbrev pub invariant-records : goal.invariant-records
invariant-records l = AreGoneOver l.fn.reading l.bytes l.kept.items l.skipped l.filled l.rest

abbrev pub decreases-records : goal.decreases-records
decreases-records l = length l.rest
