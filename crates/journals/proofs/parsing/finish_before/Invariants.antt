use Rattle.std.proofs.Common.{◌≤◌, ◌-◌, List, length}
use Rattle.semantics.specs.declared.call.Entry.{Entry}
use Rattle.journals.specs.JournalReading.{AreDivided}
use Rattle.journals.proofs.parsing.finish_before.Given as goal

abbrev pub invariant-numbers : goal.invariant-numbers
invariant-numbers l = record {
  within : length l.done.items ≤ l.number;
  divided : (entries : List Entry) → AreDivided entries l.initial.done.items l.initial.present → AreDivided entries l.done.items l.present;
}

abbrev pub decreases-numbers : goal.decreases-numbers
decreases-numbers l = l.number - length l.done.items
