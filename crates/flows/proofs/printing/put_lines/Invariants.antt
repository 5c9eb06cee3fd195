use Rattle.std.proofs.Common.{◌≡◌, ◌++◌, take, string_bytes}
use Rattle.std.specs.List.{flat_map}
use Rattle.flows.specs.FlowRecords.{story_of}
use Rattle.flows.specs.TableText.{flow_line}
use Rattle.flows.proofs.printing.put_lines.Given as goal

abbrev pub invariant-flows : goal.invariant-flows
invariant-flows l = string_bytes l.text ≡ string_bytes l.fn.text ++ flat_map (λ flow. flow_line (story_of flow)) (take l.flow-index l.flows)
