use Rattle.std.proofs.Common.{◌≡◌}
use Rattle.std.specs.Io.KnownBytes.{prepend_known}
use Rattle.wire.proofs.transfer.read_all.Given as goal

abbrev pub invariant-reading : goal.invariant-reading
invariant-reading g l = record {
  known : g.S.Source.left l.initial.source ≡ prepend_known l.bytes.items (g.S.Source.left l.source);
  steady : g.S.Source.failure_count l.source ≡ g.S.Source.failure_count l.initial.source;
}

abbrev pub decreases-reading : goal.decreases-reading
decreases-reading g l = g.S.Source.most_left l.source
