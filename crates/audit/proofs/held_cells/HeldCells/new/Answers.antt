use Rattle.std.proofs.Common.{rules}
use Rattle.audit.proofs.HeldLemmas.{more_told}
use Rattle.audit.proofs.held_cells.HeldCells.new.Goals as goal

pub numbers-preserved : goal.numbers-preserved
numbers-preserved c = record {
  counted = search rules;
  each = more_told c.numbers.workers.items c.push.new.self.items c.new.result (search rules) c.new.ensures c.numbers.invariant.each;
}
