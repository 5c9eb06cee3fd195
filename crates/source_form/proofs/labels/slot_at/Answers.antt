use Rattle.std.proofs.Common.{◌≡◌, ◌∙◌, ℕ, List, sym, ap, arith}
use Rattle.std.specs.List.{sum_by}
use Rattle.std.proofs.lemmas.List.{take-map}
use Rattle.source_form.specs.SourceText.{slots_of}
use Rattle.source_form.proofs.labels.slot_at.Goals as goal

pub returns-clause-slot : goal.returns-clause-slot
returns-clause-slot c =
    let same : c.lines.line ≡ c.args.place = omega (arith, c.lines.invariant.inside, c.lines-test.false) in
    c.lines.invariant.slot ∙ rw same (ap (λ (xs : List (List ℕ)). sum_by slots_of xs) (sym (take-map (λ s. s.now) c.args.place c.args.statements.now)))
