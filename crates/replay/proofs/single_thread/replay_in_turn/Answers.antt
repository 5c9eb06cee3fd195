use Rattle.std.proofs.Common.{[]}
use Rattle.machine.specs.Running.{program_of}
use Rattle.semantics.specs.ShardPlan.{recorded}
use Rattle.replay.proofs.PieceLemmas.{in_turn_too}
use Rattle.replay.proofs.single_thread.replay_in_turn.Goals as goal

pub returns-clause-one_list : goal.returns-clause-one_list
returns-clause-one_list g c =
    let under = c.in_ok-replay.ensures.underway in
    let options = recorded c.args.recording c.args.options in
    let records = c.args.capture.now.records.items in
    let sent = c.in_ok-done.done.sent.items in
    let ends = c.in_ok-done.done.ends.items in
    let program = program_of c.args.verified.now c.args.options.shards in
    let done = c.in_ok-rest.ensures.replayed program options records sent ends
    (c.in_ok-done.ensures.underway options c.args.updates.now [] [] [] under) in
    c.events_come_in_turns.ensures c.args.script.now options records c.with_records.result under.options_fit
    c.all_are_captured.ensures c.commands_fit.ensures
    (in_turn_too program c.args.script.now options records sent ends c.in_ok-rest.rest done.whole c.with_records.result done.is_whole
    c.with_records.ensures.whole done.exact.in_order.turns)

pub returns-clause-headline : goal.returns-clause-headline
returns-clause-headline g c = (returns-clause-one_list g c).listed.kept.headline
