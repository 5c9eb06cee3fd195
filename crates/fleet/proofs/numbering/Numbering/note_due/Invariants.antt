use Rattle.std.proofs.Common.{◌≡◌, ◌-◌, List, length}
use Rattle.wire.specs.declared.records.Sent.{Sent}
use Rattle.fleet.specs.Numbers.{AreNumbered}
use Rattle.fleet.proofs.numbering.Numbering.note_due.Given as goal

abbrev pub invariant-commands : goal.invariant-commands
invariant-commands l = record {
  each : (past : List Sent) → AreNumbered l.frames past l.fn.self → AreNumbered l.frames past l.self;
  part : l.self.part ≡ l.fn.self.part;
  passed : l.self.passed ≡ l.fn.self.passed;
}

abbrev pub decreases-commands : goal.decreases-commands
decreases-commands l = length l.frames - length l.self.numbers.items
