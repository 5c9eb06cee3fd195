use Rattle.std.proofs.Common.{◌≡◌, ◌≤◌, ◌-◌, map, drop, length}
use Rattle.source_form.specs.SourceText.{line_of_text}
use Rattle.source_form.proofs.assembling.line_of_text.Given as goal

abbrev pub invariant-lines : goal.invariant-lines
invariant-lines l = record {
  inside : l.place ≤ length l.statements;
  goes : line_of_text l.place l.left (drop l.place (map (λ s. s.now) l.statements)) ≡ line_of_text 0 l.fn.number (map (λ s. s.now) l.statements);
}

abbrev pub decreases-lines : goal.decreases-lines
decreases-lines l = length l.statements - l.place
