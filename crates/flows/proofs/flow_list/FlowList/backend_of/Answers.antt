use Rattle.std.proofs.Common.{◌∙◌, ℕ, List, ap}
use Rattle.std.specs.Prelude.{Option}
use Rattle.flows.specs.FlowRecords.{stories_in}
use Rattle.flows.specs.Telling.{backend_in, backend_of_story, story_at}
use Rattle.flows.proofs.flow_list.FlowList.backend_of.Goals as goal

pub returns : goal.returns
returns c =
    c.backend_at.ensures
    ∙ (ap (λ (it : Option ℕ). backend_of_story (story_at (stories_in c.args.self.now) it))
    (c.place_of.ensures ∙ c.requires c.flow_of.result.now)
    ∙ ap (λ (it : List ℕ). backend_in it (stories_in c.args.self.now)) c.flow_of.ensures)
