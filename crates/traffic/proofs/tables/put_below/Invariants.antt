use Rattle.std.proofs.Common.{◌≡◌, ◌++◌, string_bytes}
use Rattle.traffic.specs.TableText.{lines_below}
use Rattle.traffic.proofs.tables.put_below.Given as goal

abbrev pub invariant-numbers : goal.invariant-numbers
invariant-numbers l = string_bytes l.lines ≡ string_bytes l.fn.lines ++ lines_below l.maps l.number
