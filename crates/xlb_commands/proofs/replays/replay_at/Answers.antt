use Rattle.xlb_commands.proofs.Outcomes.{made, made_exact, given_up, not_both}
use Rattle.xlb_commands.proofs.replays.replay_at.Goals as goal

pub returns-then-asked-clause-made : goal.returns-then-asked-clause-made
returns-then-asked-clause-made g c =
    made_exact c.args.asked c.args.capture.now.records.items c.replay_in_turn.result c.replay_in_turn.ensures.one_list c.replay_in_turn.ensures.updates

pub returns-then-asked-clause-given_up : goal.returns-then-asked-clause-given_up
returns-then-asked-clause-given_up g c =
    given_up c.args.asked.exact c.args.asked.verified.now.maps c.args.asked.updates.now c.args.asked.script.now c.args.asked.options c.args.asked.recording
    c.replay_in_turn.result c.replay_in_turn.ensures.bad_options (λ is. c.replay_in_turn.ensures.no_thread) c.replay_in_turn.ensures.refused

pub returns-else-asked-clause-made : goal.returns-else-asked-clause-made
returns-else-asked-clause-made g c =
    made c.args.asked c.args.capture.now.records.items c.replay.result c.if-asked.false c.replay.ensures.accounted c.replay.ensures.one_list
    c.replay.ensures.updates

pub returns-else-asked-clause-given_up : goal.returns-else-asked-clause-given_up
returns-else-asked-clause-given_up g c =
    given_up c.args.asked.exact c.args.asked.verified.now.maps c.args.asked.updates.now c.args.asked.script.now c.args.asked.options c.args.asked.recording
    c.replay.result c.replay.ensures.bad_options (λ is. absurd (not_both c.args.asked.exact is c.if-asked.false))
    c.replay.ensures.refused
