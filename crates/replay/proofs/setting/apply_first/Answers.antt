use Rattle.std.proofs.Common.{refl, ◌∙◌}
use Rattle.replay.proofs.PartLemmas.{numbers_next}
use Rattle.replay.proofs.setting.apply_first.Goals as goal

pub commands-preserved : goal.commands-preserved
commands-preserved g c =
    let i = c.commands.invariant in
    let noted = c.in_ok-apply.ensures.noted in
    let same = c.in_ok-apply.ensures.same in
    record {
      applied = numbers_next c.commands.commander.noted c.apply.new.self.noted (record { command = c.commands.number; fault = noted.0 }) c.commands.number
          i.applied refl noted.1;
      script = same.0 ∙ i.script;
      maps = same.1 ∙ i.maps;
      options = same.2 ∙ i.options;
      size = same.3 ∙ i.size;
      updates = same.4 ∙ i.updates;
    }
