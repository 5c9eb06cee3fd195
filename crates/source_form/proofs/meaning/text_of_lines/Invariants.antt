use Rattle.std.proofs.Common.{◌≡◌, ◌≤◌, ◌-◌, [], map, drop, length, string_bytes}
use Rattle.source_form.specs.SourceText.{meaning_from}
use Rattle.source_form.proofs.meaning.text_of_lines.Given as goal

abbrev pub invariant-lines : goal.invariant-lines
invariant-lines l = record {
  inside : l.place ≤ length l.statements;
  goes : meaning_from (map (λ s. s.now) l.statements) l.place (string_bytes l.out) (drop l.place (map (λ s. s.now) l.statements))
      ≡ meaning_from (map (λ s. s.now) l.statements) 0 [] (map (λ s. s.now) l.statements);
}

abbrev pub decreases-lines : goal.decreases-lines
decreases-lines l = length l.statements - l.place
