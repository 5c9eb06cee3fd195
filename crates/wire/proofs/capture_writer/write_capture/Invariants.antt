use Rattle.std.proofs.Common.{◌≡◌, ◌++◌, take}
use Rattle.std.specs.Io.KnownBytes.{append_known}
use Rattle.wire.specs.CaptureFormat.{header_bytes, records_bytes}
use Rattle.wire.proofs.capture_writer.write_capture.Given as goal

abbrev pub invariant-records : goal.invariant-records
invariant-records g l = record {
  held : g.K.Sink.held l.sink ≡ append_known (g.K.Sink.held l.fn.sink) (header_bytes ++ records_bytes (take l.sent-index l.records));
  steady : g.K.Sink.failure_count l.sink ≡ g.K.Sink.failure_count l.fn.sink;
}
