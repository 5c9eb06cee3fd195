use Rattle.std.proofs.Common.{◌∙◌, ◌++◌, ℕ, List, ap, sym}
use Rattle.std.proofs.lemmas.List.Folds.{flat_map-map}
use Rattle.std.specs.List.{flat_map}
use Rattle.flows.specs.FlowRecords.{story_of}
use Rattle.flows.specs.TableText.{flow_line, table_head}
use Rattle.flows.proofs.printing.table_text.Goals as goal

pub returns : goal.returns
returns c =
    c.in_ok-put_lines.ensures
    ∙ (ap (λ (it : List ℕ). it ++ flat_map (λ flow. flow_line (story_of flow)) c.args.flows.now) c.in_ok-text.ensures
    ∙ ap (λ (it : List ℕ). table_head ++ it) (sym (flat_map-map flow_line story_of c.args.flows.now)))
