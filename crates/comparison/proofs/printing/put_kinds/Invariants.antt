use Rattle.std.proofs.Common.{◌≡◌, ◌++◌, take, string_bytes}
use Rattle.comparison.specs.ComparisonText.{kinds_text}
use Rattle.comparison.proofs.printing.put_kinds.Given as goal

abbrev pub invariant-kinds : goal.invariant-kinds
invariant-kinds l = string_bytes l.text ≡ string_bytes l.fn.text ++ kinds_text (take l.kind-index l.kinds)
