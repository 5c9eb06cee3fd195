use Rattle.xlb_commands.proofs.SameFiles.{exact_replays_write_the_same}
use Rattle.xlb_commands.proofs.laws.exact_replays_write_the_same.Goals as goal

pub returns : goal.returns
returns c = exact_replays_write_the_same c.exact_replays_agree.ensures
