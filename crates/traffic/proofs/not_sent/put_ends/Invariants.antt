use Rattle.std.proofs.Common.{◌≡◌, ◌++◌, take, string_bytes}
use Rattle.traffic.specs.Tallies.{counted_ends}
use Rattle.traffic.proofs.not_sent.put_ends.Given as goal

abbrev pub invariant-ends : goal.invariant-ends
invariant-ends l = string_bytes l.text ≡ string_bytes l.fn.text ++ counted_ends l.counts (take l.end-index l.ends)
