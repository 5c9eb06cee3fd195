use Rattle.std.proofs.Common.{[]}
use Rattle.traffic.proofs.frame_tally.summary.Goals as goal

pub returns : goal.returns
returns c =
    c.in_ok-text.ensures c.args.captured.now c.args.sent.now (c.in_ok-note.ensures.tally [] [] c.in_ok-tally.ensures)
