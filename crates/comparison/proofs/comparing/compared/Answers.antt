use Rattle.std.proofs.Common.{◌≡◌, ◌∙◌, ◌==◌, ℕ, List, Bor, String, Global, ap, length, map, not, subst, sym}
use Rattle.std.proofs.lemmas.List.{length-map}
use Rattle.comparison.specs.Changes.{changed_until}
use Rattle.comparison.specs.Comparing.{changed_in}
use Rattle.comparison.specs.ComparisonText.{comparison_text}
use Rattle.comparison.specs.Kinds.{AreKindsOf}
use Rattle.comparison.proofs.comparing.compared.Goals as goal

pub returns : goal.returns
returns c =
    let now : Bor (List ℕ) → List ℕ = λ row. row.now in
    let first : List (List ℕ) = map now c.args.first.now in
    let second : List (List ℕ) = map now c.args.second.now in
    let changed_are : c.in_ok-changed.changed.items ≡ changed_in first second =
    c.in_ok-changed.ensures ∙ ap (λ (n : ℕ). changed_until first second n) (sym (length-map c.args.first.now now)) in
    record {
      kinds = c.in_ok-kinds.kinds.items;
      kinds_are = subst (λ (it : List ℕ). AreKindsOf first second it c.in_ok-kinds.kinds.items) (c.deref.ensures.value ∙ changed_are) c.in_ok-kinds.ensures;
      text_is =
          c.in_ok-text.ensures
          ∙ (ap (λ (it : List ℕ). comparison_text first second it c.deref-3.result.now) (c.deref-2.ensures.value ∙ changed_are)
          ∙ ap (λ (it : List (String Global × ℕ)). comparison_text first second (changed_in first second) it) c.deref-3.ensures.value);
      differs_is = ap not (c.is_empty-differs.ensures ∙ ap (λ (n : ℕ). n == 0) (c.in_ok-changed.changed.ok.0 ∙ ap length changed_are));
    }
