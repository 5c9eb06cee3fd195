use Rattle.guarantees.proofs.OneReplay.{replays_keep_headline}
use Rattle.guarantees.proofs.headline.Goals as goal

pub returns : goal.returns
returns c =
    replays_keep_headline c.runs_are_of_the_system.ensures c.stopped_runs_are_of_the_system.ensures c.args.verified.now c.accepted_images_are_safe.ensures
