use Rattle.std.proofs.Common.{◌≡◌, ◌∙◌, ◌-◌, ℕ, ap, refl, rules, sym}
use Rattle.fleet.specs.declared.part.Part.{Part}
use Rattle.fleet.specs.Parts.{is_in_part, records_left}
use Rattle.fleet.proofs.RetainLemmas.{filtered_at, one_less}
use Rattle.fleet.specs.contracts.part.fn.Part.taken_from.retain as closure
use Rattle.fleet.proofs.part.Part.taken_from.Goals as goal

pub returns : goal.returns
returns c = filtered_at _ (is_in_part c.args.self.of c.args.self.lost c.args.self.number)
    (λ place f. let l = closure.captures f in (l.self ≡ c.args.self) × (l.left ≡ records_left c.args.self.lost place))
    (λ place f x b f' at step.
    let self = (closure.captures f).self in
    let same : (closure.captures f').self ≡ self = search rules in
    let left : (closure.captures f').left ≡ (closure.captures f).left - 1 = search rules in
    let has : (here : ℕ) → (closure.captures f).left ≡ records_left self.lost here → b ≡ is_in_part self.of self.lost self.number here x = search rules in (
      has place (at.1 ∙ ap (λ (part : Part). records_left part.lost place) (sym at.0))
          ∙ ap (λ (part : Part). is_in_part part.of part.lost part.number place x) at.0,
      (same ∙ at.0, left ∙ ap (λ (n : ℕ). n - 1) at.1 ∙ one_less c.args.self.lost place),
    ))
    _ (refl, c.left_behind-left.ensures) _ _ c.retain.ensures.filtered
