use Rattle.page.proofs.svg.all_bars.Goals as goal

pub returns : goal.returns
returns c = c.bars_of.ensures
