use Rattle.std.proofs.Common.{◌≤◌, ◌∙◌, ap, sym, subst, length, drop, ℕ, List}
use Rattle.folders.proofs.WindowLemmas.{skipped}
use Rattle.folders.proofs.window.Window.skip.Goals as goal

pub returns : goal.returns
returns c =
    let count = c.args.count in
    let P : List ℕ → Type 0 = λ xs. count ≤ length xs in
    skipped c.self.inside.bytes.items c.self.inside.at c.self.inside.end count (subst P (sym c.self.view_is) c.requires)
    ∙ ap (λ xs. drop count xs) c.self.view_is
