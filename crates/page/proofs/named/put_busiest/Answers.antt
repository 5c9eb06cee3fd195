use Rattle.std.proofs.Common.{◌∙◌, ℕ, List, add-one, ap, sym}
use Rattle.page.specs.Named.{busiest, with_busiest, with_key}
use Rattle.page.proofs.named.put_busiest.Goals as goal

pub times-preserved : goal.times-preserved
times-preserved c =
    c.in_ok-put_key.ensures
    ∙ (ap (λ (it : ℕ). with_key 32 c.times.named.items it)
    (c.busiest-key.ensures ∙ ap (λ (it : List ℕ). busiest c.args.counts.now it 257) c.deref.ensures.value)
    ∙ (ap (λ (it : List ℕ). with_key 32 it (busiest c.args.counts.now it 257)) c.times.invariant
    ∙ sym (ap (λ (n : ℕ). with_busiest c.args.counts.now c.args.named.now.items n) (add-one c.times._time))))
