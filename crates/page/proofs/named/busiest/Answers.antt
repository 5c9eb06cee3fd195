use Rattle.std.proofs.Common.{◌∙◌, ℕ, add-one, ap, sym}
use Rattle.page.specs.Named.{busier, busiest}
use Rattle.page.proofs.named.busiest.Goals as goal

pub keys-preserved : goal.keys-preserved
keys-preserved c =
    c.busier-best.ensures
    ∙ (ap (λ (it : ℕ). busier c.args.counts.now c.args.named.now it c.keys.key) c.keys.invariant
    ∙ sym (ap (λ (n : ℕ). busiest c.args.counts.now c.args.named.now n) (add-one c.keys.key)))
