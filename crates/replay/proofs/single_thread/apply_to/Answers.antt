use Rattle.replay.proofs.TurnLemmas.{none_first, some_first}
use Rattle.replay.proofs.TurnUpdates.{carried_kind, left_kind}
use Rattle.replay.proofs.single_thread.apply_to.Goals as goal

pub returns-in-Ok-clause-first : goal.returns-in-Ok-clause-first
returns-in-Ok-clause-first c = none_first c.args.controller.now c.args.command.now.action c.in-Ok.field-0 c.in-Ok.ensures.first

pub returns-in-Err-clause-first : goal.returns-in-Err-clause-first
returns-in-Err-clause-first c = some_first c.args.controller.now c.args.command.now.action c.in-Err.fault c.in-Err.ensures.first

pub returns-in-Ok-clause-maps : goal.returns-in-Ok-clause-maps
returns-in-Ok-clause-maps c = (carried_kind _ _ _ _ _ _ c.in-Ok.ensures.done).0

pub returns-in-Ok-clause-options : goal.returns-in-Ok-clause-options
returns-in-Ok-clause-options c = (carried_kind _ _ _ _ _ _ c.in-Ok.ensures.done).1

pub returns-in-Err-clause-maps : goal.returns-in-Err-clause-maps
returns-in-Err-clause-maps c =
    (left_kind c.args.controller.now c.args.all.now c.args.command.now.action c.apply.new.self c.apply.new.port c.in-Err.fault c.in-Err.ensures.left).0

pub returns-in-Err-clause-options : goal.returns-in-Err-clause-options
returns-in-Err-clause-options c =
    (left_kind c.args.controller.now c.args.all.now c.args.command.now.action c.apply.new.self c.apply.new.port c.in-Err.fault c.in-Err.ensures.left).1
