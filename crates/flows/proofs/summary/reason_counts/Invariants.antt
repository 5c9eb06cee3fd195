use Rattle.std.proofs.Common.{◌≡◌, string_bytes, map}
use Rattle.flows.specs.FlowRecords.{moved_of}
use Rattle.flows.specs.SummaryText.{reason_counts}
use Rattle.flows.proofs.summary.reason_counts.Given as goal

abbrev pub invariant-reasons : goal.invariant-reasons
invariant-reasons l = string_bytes l.text ≡ reason_counts (map moved_of l.moves) l.place
