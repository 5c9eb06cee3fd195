use Rattle.std.proofs.Common.{sym, ◌∙◌, arith}
use Rattle.map_cells.proofs.Freeing.{freed_step, freed_stop, filter_shorter}
use Rattle.map_cells.proofs.table.Cells.free.Goals as goal

pub overflow_add-count : goal.overflow_add-count
overflow_add-count c =
    let step = (freed_step c.args.floor c.loop-stamp.self c.in-Some.stamp c.in-Some.ensures.stamp (c.may_be_held.ensures.free c.if-may_be_held.false)).0 in
    let most = filter_shorter c.args.floor c.args.self.now.retired in
    grind (arith, step, most, c.loop-stamp.invariant.count, c.waiting-most.ensures, c.waiting-most.type_inv)

pub loop-stamp-preserved : goal.loop-stamp-preserved
loop-stamp-preserved c =
    let step = freed_step c.args.floor c.loop-stamp.self c.in-Some.stamp c.in-Some.ensures.stamp (c.may_be_held.ensures.free c.if-may_be_held.false) in
    rw c.free_oldest.ensures (record {
      count = omega (arith, step.0, c.loop-stamp.invariant.count);
      table = step.1 ∙ c.loop-stamp.invariant.table;
    })

pub returns-then-may_be_held-clause-count : goal.returns-then-may_be_held-clause-count
returns-then-may_be_held-clause-count c =
    let stop = (freed_stop c.args.floor c.loop-stamp.self c.in-Some.stamp c.in-Some.ensures.lowest (c.may_be_held.ensures.held c.if-may_be_held.true)).0 in
    omega (arith, stop, c.loop-stamp.invariant.count)

pub returns-then-may_be_held-clause-table : goal.returns-then-may_be_held-clause-table
returns-then-may_be_held-clause-table c =
    let stop = (freed_stop c.args.floor c.loop-stamp.self c.in-Some.stamp c.in-Some.ensures.lowest (c.may_be_held.ensures.held c.if-may_be_held.true)).1 in
    sym stop ∙ c.loop-stamp.invariant.table
