use Rattle.guarantees.proofs.TurnEvents.{replays_in_turns}
use Rattle.guarantees.proofs.replays_in_turns_are_listed.Goals as goal

pub returns : goal.returns
returns c =
    replays_in_turns c.runs_are_of_the_system.ensures c.stopped_runs_are_of_the_system.ensures c.args.verified.now c.accepted_images_are_safe.ensures
