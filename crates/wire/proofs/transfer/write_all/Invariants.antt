use Rattle.std.proofs.Common.{◌≡◌, ◌≤◌, ◌-◌, length, take}
use Rattle.std.specs.Io.KnownBytes.{append_known}
use Rattle.wire.proofs.transfer.write_all.Given as goal

abbrev pub invariant-writing : goal.invariant-writing
invariant-writing g l = record {
  within : l.at ≤ length l.bytes;
  held : g.K.Sink.held l.sink ≡ append_known (g.K.Sink.held l.initial.sink) (take l.at l.bytes);
  steady : g.K.Sink.failure_count l.sink ≡ g.K.Sink.failure_count l.initial.sink;
}

abbrev pub decreases-writing : goal.decreases-writing
decreases-writing g l = length l.bytes - l.at
