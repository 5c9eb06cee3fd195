use Rattle.std.proofs.Common.{rules, ◌≡◌, false, subst}
use Rattle.std.specs.Prelude.{All}
use Rattle.std.proofs.lemmas.List.{take_all}
use Rattle.std.proofs.lemmas.List.Elements.{All-more}
use Rattle.map_updates.specs.declared.update.MapUpdate.{MapUpdate}
use Rattle.command_line.specs.Commanded.{is_of_commands}
use Rattle.command_line.proofs.commanded.first_of_commands.Goals as goal

pub updates-preserved : goal.updates-preserved
updates-preserved c =
    All-more (λ (update : MapUpdate). is_of_commands update.map ≡ false) c.args.updates.now c.updates.place c.index-updates-place.result (search rules)
    c.updates.invariant (search rules)

pub returns-clause-none : goal.returns-clause-none
returns-clause-none c =
    subst (All (λ (update : MapUpdate). is_of_commands update.map ≡ false)) (take_all c.updates.place c.args.updates.now c.updates-test.false) c.updates.invariant
