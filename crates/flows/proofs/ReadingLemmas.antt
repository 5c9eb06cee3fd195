-- Why a report is refused.
use Rattle.std.proofs.Common.{ℕ, List, ap, ◌≡◌, ◌∙◌}
use Rattle.comparison.specs.declared.fault.NoRows.{NoRows}
use Rattle.comparison.specs.Rows.{IsUnread}
use Rattle.comparison.specs.Rows.IsUnread.{is_json, is_no_report, no_memory}
use Rattle.flows.specs.declared.fault.NoFlows.{NoFlows}
use Rattle.flows.specs.Reports.{AreFlowsRefused, refusal_of}
use Rattle.flows.specs.Reports.AreFlowsRefused.{is_json as json_refused, is_no_report as no_report_refused, no_memory as memory_refused}

pub refused_as : (bytes : List ℕ) (none : NoRows) (refusal : NoFlows) → IsUnread bytes none → refusal ≡ refusal_of none
    → AreFlowsRefused bytes refusal
refused_as bytes none refusal (is_json begins is) same = json_refused begins (same ∙ ap refusal_of is)
refused_as bytes none refusal (is_no_report not_json no_report) same = no_report_refused none not_json no_report same
refused_as bytes none refusal (no_memory is) same = memory_refused (same ∙ ap refusal_of is)
