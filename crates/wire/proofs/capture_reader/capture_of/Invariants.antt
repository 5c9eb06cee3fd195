use Rattle.std.proofs.Common.{length, drop}
use Rattle.wire.specs.CaptureFormat.{BeginsWithHeader, AreRecords}
use Rattle.wire.proofs.capture_reader.capture_of.Given as goal

abbrev pub invariant-records : goal.invariant-records
invariant-records l = record {
  header : BeginsWithHeader l.bytes;
  records : AreRecords (drop 24 l.bytes) l.records.items l.rest;
}

abbrev pub decreases-records : goal.decreases-records
decreases-records l = length l.rest
