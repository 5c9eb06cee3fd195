use Rattle.std.proofs.Common.{◌≡◌, map, string_bytes}
use Rattle.flows.specs.FlowRecords.{moved_of}
use Rattle.page.specs.Reasons.{reason_bars}
use Rattle.page.proofs.reasons.reason_bars.Given as goal

abbrev pub invariant-reasons : goal.invariant-reasons
invariant-reasons l = string_bytes l.text ≡ reason_bars (map moved_of l.moves) l.highest l.place
