use Rattle.std.proofs.Common.{◌≡◌, map, take}
use Rattle.source_form.specs.SourceText.{statement}
use Rattle.source_form.proofs.lines.statements_of.Given as goal

abbrev pub invariant-loop-line : goal.invariant-loop-line
invariant-loop-line l = map (λ s. s.now) l.statements.items ≡ map statement (map (λ s. s.now) (take l.line-index l.line-items))
