use Rattle.std.proofs.Common.{◌≡◌, ◌≤◌, ◌-◌, [], map, drop, length}
use Rattle.source_form.specs.SlotLines.{label_above}
use denote.Text.{Utf8}
use denote.Shadow.{shadow}
use Rattle.source_form.proofs.slot_notes.label_above.Given as goal

abbrev pub invariant-lines : goal.invariant-lines
invariant-lines l = record {
  inside : l.place ≤ length l.statements;
  text : shadow (Utf8 l.last);
  goes : label_above l.last l.left (drop l.place (map (λ s. s.now) l.statements)) ≡ label_above [] l.fn.slot (map (λ s. s.now) l.statements);
}

abbrev pub decreases-lines : goal.decreases-lines
decreases-lines l = length l.statements - l.place
