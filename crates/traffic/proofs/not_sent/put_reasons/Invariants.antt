use Rattle.std.proofs.Common.{◌≡◌, ◌++◌, take, string_bytes}
use Rattle.traffic.specs.Tallies.{counted_reasons}
use Rattle.traffic.proofs.not_sent.put_reasons.Given as goal

abbrev pub invariant-reasons : goal.invariant-reasons
invariant-reasons l = string_bytes l.text ≡ string_bytes l.fn.text ++ counted_reasons l.counts (take l.reason-index l.reasons)
