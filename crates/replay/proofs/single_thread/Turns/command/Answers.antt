use Rattle.std.proofs.Common.{◌∷◌, ◌++◌, [], List, refl, ap, ◌∙◌}
use Rattle.actors.specs.declared.outcome.Applied.{Applied}
use Rattle.replay.proofs.single_thread.Turns.command.Goals as goal

pub returns-clause-turn : goal.returns-clause-turn
returns-clause-turn c =
    let fault = c.apply_to-fault.result in
    let noted : Applied = record { command = c.args.number; fault = fault } in
    record {
      command = c.command_at-line.result.now;
      known = c.command_at-line.ensures;
      fault = fault;
      did = c.apply_to-fault.ensures.did;
      first = c.apply_to-fault.ensures.first;
      noted = c.push_reserved.ensures.items ∙ ap (λ (list : List Applied). list ++ noted ∷ []) c.reserve.ensures.items;
      counts = refl;
      sent = refl;
      ends = refl;
    }

pub returns-clause-same : goal.returns-clause-same
returns-clause-same c = record {
  maps = c.apply_to-fault.ensures.maps;
  options = c.apply_to-fault.ensures.options;
  size = c.apply_to-fault.ensures.size;
}
