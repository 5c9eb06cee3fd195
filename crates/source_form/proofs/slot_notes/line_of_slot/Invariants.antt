use Rattle.std.proofs.Common.{◌≡◌, ◌≤◌, ◌-◌, map, drop, length}
use Rattle.source_form.specs.SlotLines.{line_of_slot}
use Rattle.source_form.proofs.slot_notes.line_of_slot.Given as goal

abbrev pub invariant-lines : goal.invariant-lines
invariant-lines l = record {
  inside : l.place ≤ length l.statements;
  goes : line_of_slot l.place l.left (drop l.place (map (λ s. s.now) l.statements)) ≡ line_of_slot 0 l.fn.slot (map (λ s. s.now) l.statements);
}

abbrev pub decreases-lines : goal.decreases-lines
decreases-lines l = length l.statements - l.place
