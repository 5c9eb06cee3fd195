use Rattle.std.proofs.Common.{◌≡◌, ◌++◌, take, string_bytes}
use Rattle.traffic.specs.SummaryText.{targets_text}
use Rattle.traffic.proofs.printing.put_targets.Given as goal

abbrev pub invariant-targets : goal.invariant-targets
invariant-targets l = string_bytes l.text ≡ string_bytes l.fn.text ++ targets_text (take l.target-index l.targets)
