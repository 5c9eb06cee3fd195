use Rattle.std.proofs.Common.{◌<◌, ◌+◌, arith}
use Rattle.epochs.specs.EpochCounts.{all_runs, part_at}
use Rattle.epochs.proofs.Counting.{part_counts, entered_among, changed_all, none_ahead_entered}
use Rattle.epochs.proofs.book.EpochBook.enter.Goals as goal

pub overflow_add-runs : goal.overflow_add-runs
overflow_add-runs c =
    let few : all_runs c.self.inside.parts < 8 = rw (← c.self.view_is) at c.requires in
    let part = part_counts c.self.inside.parts c.part_for-at.result c.part_for-at.ensures.within in
    omega (arith, few, part)

pub invariant_of-self : goal.invariant_of-self
invariant_of-self c = none_ahead_entered c.self.inside.present c.self.inside.parts _ c.self.invariant (entered_among c.self.inside.parts c.part_for-at.result c.part_for-at.ensures.within c.self.inside.present c.part_for-at.ensures.fits)

pub returns-clause-runs : goal.returns-clause-runs
returns-clause-runs c = rw (← c.self.view_is) (entered_among c.self.inside.parts c.part_for-at.result c.part_for-at.ensures.within c.self.inside.present c.part_for-at.ensures.fits)

pub returns-clause-count : goal.returns-clause-count
returns-clause-count c =
    let changed = changed_all c.self.inside.parts c.part_for-at.result (record { epoch = c.self.inside.present; runs = (part_at c.self.inside.parts c.part_for-at.result).runs + 1 }) c.part_for-at.ensures.within in
    rw (← c.self.view_is) (omega (arith, changed))
