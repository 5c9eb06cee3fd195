use Rattle.std.proofs.Common.{◌≡◌, ◌≤◌, ◌*◌, ◌-◌, map, take}
use Rattle.std.specs.List.{sum_by}
use Rattle.source_form.specs.SourceText.{slots_of}
use Rattle.source_form.proofs.labels.slot_at.Given as goal

abbrev pub invariant-lines : goal.invariant-lines
invariant-lines l = record {
  inside : l.line ≤ l.place;
  few : l.slot ≤ 2 * l.line;
  slot : l.slot ≡ sum_by slots_of (map (λ s. s.now) (take l.line l.statements));
}

abbrev pub decreases-lines : goal.decreases-lines
decreases-lines l = l.place - l.line
