use Rattle.std.proofs.Common.{◌≡◌, ◌++◌, take, string_bytes}
use Rattle.traffic.specs.Tallies.{kind_lines}
use Rattle.traffic.proofs.printing.put_kinds.Given as goal

abbrev pub invariant-kinds : goal.invariant-kinds
invariant-kinds l = string_bytes l.text ≡ string_bytes l.fn.text ++ kind_lines l.counts (take l.kind-index l.kinds)
