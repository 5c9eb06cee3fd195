use Rattle.std.proofs.Common.{◌≡◌, take}
use Rattle.fleet.specs.Numbers.{AreNumbered}
use Rattle.fleet.proofs.numbering.numbers_in_part.Given as goal

abbrev pub invariant-records : goal.invariant-records
invariant-records l = record {
  numbered : AreNumbered l.frames (take l.place l.records) l.numbering;
  part : l.numbering.part ≡ l.fn.part;
}
