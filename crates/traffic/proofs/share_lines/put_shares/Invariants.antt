use Rattle.std.proofs.Common.{◌≡◌, ◌++◌, string_bytes}
use Rattle.traffic.specs.LastShares.{shares_below}
use Rattle.traffic.proofs.share_lines.put_shares.Given as goal

abbrev pub invariant-numbers : goal.invariant-numbers
invariant-numbers l = string_bytes l.lines ≡ string_bytes l.fn.lines ++ shares_below l.words l.records l.number
