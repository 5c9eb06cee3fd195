use Rattle.std.proofs.Common.{arith, ◌≡◌, ◌∙◌, ◌-◌, ℕ, List, Bor, ap, length, map, sym, take}
use Rattle.std.proofs.lemmas.List.{length-map, take-map}
use Rattle.comparison.proofs.rows.drop_last.Goals as goal

pub returns : goal.returns
returns c =
    let now : Bor (List ℕ) → List ℕ = λ line. line.now in
    let end : c.saturating_sub.result ≡ length (map now c.args.lines.now.items) - 1 =
    omega (arith, c.saturating_sub.ensures, c.len.ensures, c.args.lines.now.ok.0, length-map c.args.lines.now.items now) in
    ap (λ (it : List (Bor (List ℕ))). map now it) c.truncate.ensures.items
    ∙ (sym (take-map now c.saturating_sub.result c.args.lines.now.items) ∙ ap (λ (n : ℕ). take n (map now c.args.lines.now.items)) end)
