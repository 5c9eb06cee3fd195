use Rattle.std.proofs.Common.{◌-◌, arith}
use Rattle.epochs.specs.EpochCounts.{part_at}
use Rattle.epochs.proofs.Counting.{left_among, changed_all, none_ahead_left}
use Rattle.epochs.proofs.book.EpochBook.leave.Goals as goal

pub invariant_of-self : goal.invariant_of-self
invariant_of-self c = none_ahead_left c.self.inside.present c.args.epoch c.self.inside.parts _ c.self.invariant (left_among c.self.inside.parts c.part_of-at.result c.part_of-at.ensures.within c.args.epoch c.part_of-at.ensures.some c.part_of-at.ensures.epoch)

pub returns-clause-runs : goal.returns-clause-runs
returns-clause-runs c = rw (← c.self.view_is) (left_among c.self.inside.parts c.part_of-at.result c.part_of-at.ensures.within c.args.epoch c.part_of-at.ensures.some c.part_of-at.ensures.epoch)

pub returns-clause-count : goal.returns-clause-count
returns-clause-count c =
    let changed = changed_all c.self.inside.parts c.part_of-at.result (record { epoch = c.args.epoch; runs = (part_at c.self.inside.parts c.part_of-at.result).runs - 1 }) c.part_of-at.ensures.within in
    rw (← c.self.view_is) (omega (arith, changed, c.part_of-at.ensures.some))
