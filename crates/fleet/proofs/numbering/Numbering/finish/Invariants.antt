use Rattle.std.proofs.Common.{◌≡◌, ◌≤◌, List, length, map, take}
use Rattle.wire.specs.declared.records.Sent.{Sent}
use Rattle.fleet.specs.Parts.{number_in_part}
use Rattle.fleet.specs.Numbers.{AreNumbered}
use Rattle.fleet.proofs.numbering.Numbering.finish.Given as goal

abbrev pub invariant-left : goal.invariant-left
invariant-left l = record {
  from : length l.fn.self.numbers.items ≤ l.place;
  numbers : (past : List Sent) → AreNumbered l.frames past l.fn.self
      → l.numbers.items ≡ map (number_in_part l.fn.self.part.of l.fn.self.part.lost l.fn.self.part.number past) (take l.place l.frames);
}
