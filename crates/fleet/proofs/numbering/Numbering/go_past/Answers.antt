use Rattle.std.proofs.Common.{◌≡◌, ◌∙◌, ◌+◌, ℕ, Bool, true, false, ap, cond, refl}
use mir.Val.{bool_byte}
use Rattle.fleet.proofs.NumberLemmas.{gone_past_one}
use Rattle.fleet.proofs.numbering.Numbering.go_past.Goals as goal

one_or_none : (has : Bool) → bool_byte has ≡ cond has 1 0
one_or_none true = refl
one_or_none false = refl

pub returns-clause-past : goal.returns-clause-past
returns-clause-past c = λ frames past sent same are late.
    gone_past_one frames past sent c.args.self.now _ c.has-has.result are late (c.has-has.ensures sent same) refl refl refl
    (ap (λ (n : ℕ). c.args.self.now.taken + n) (c.from.ensures ∙ one_or_none c.has-has.result))
