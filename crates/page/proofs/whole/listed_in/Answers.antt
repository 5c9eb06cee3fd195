use Rattle.std.proofs.Common.{◌≡◌, ◌∙◌, ℕ, IfOk, List, subst}
use Rattle.page.specs.Named.{listed_keys}
use Rattle.page.proofs.whole.listed_in.Goals as goal

pub returns : goal.returns
returns c =
    subst (λ (it : List ℕ). IfOk c.listed_keys.result (λ listed. listed.items ≡ listed_keys c.args.later.now it))
    (c.deref.ensures.value ∙ c.in_ok-keys.ensures) c.listed_keys.ensures
