use Rattle.xlb_commands.proofs.Outcomes.{given_up_in_turn, had_good}
use Rattle.xlb_commands.proofs.in_pieces.opened.Goals as goal

pub returns-in-Err-clause-refused : goal.returns-in-Err-clause-refused
returns-in-Err-clause-refused c = (
  c.in-Err.fault,
  c.given_up.ensures,
  given_up_in_turn c.args.asked.verified.now.maps c.args.asked.updates.now c.args.asked.script.now c.args.asked.options c.args.asked.recording
      c.open.result c.in-Err.fault c.in-Err.is c.open.ensures.bad_options c.open.ensures.no_thread c.in-Err.ensures.refused,
)

pub returns-in-Ok-clause-good : goal.returns-in-Ok-clause-good
returns-in-Ok-clause-good c =
    had_good c.args.asked.verified.now.maps c.args.asked.script.now c.args.asked.options c.open.result c.in-Ok.replay c.in-Ok.is c.open.ensures.bad_options
