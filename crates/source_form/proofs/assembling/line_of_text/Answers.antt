use Rattle.std.proofs.Common.{◌≡◌, ◌∙◌, ◌≤◌, ◌<◌, ◌+◌, ◌-◌, ℕ, true, false, List, ◌∷◌, length, map, drop, get_or, sym, ap, refl, arith}
use Rattle.std.specs.Prelude.{nat_lt}
use Rattle.std.proofs.lemmas.Bool.Decides.{nat_tests}
use Rattle.source_form.specs.SourceText.{has_text, line_of_text}
use Rattle.source_form.proofs.LineSteps.{rest_from, none_from}
use Rattle.source_form.proofs.assembling.line_of_text.Goals as goal

few : (n : ℕ) → n ≤ 1 → nat_lt 1 n ≡ false
few n le = grind (arith, nat_tests)

many : (n : ℕ) → 1 < n → nat_lt 1 n ≡ true
many n lt = grind (arith, nat_tests)

skips : (place left : ℕ) (s : List ℕ) (more : List (List ℕ)) → has_text s ≡ false → line_of_text place left (s ∷ more) ≡ line_of_text (place + 1) left more
unfolding line_of_text
skips place left s more e = rw e refl

stops : (place left : ℕ) (s : List ℕ) (more : List (List ℕ)) → has_text s ≡ true → left ≤ 1 → line_of_text place left (s ∷ more) ≡ place + 1
unfolding line_of_text
stops place left s more e le = rw (e, few left le) refl

counts : (place left : ℕ) (s : List ℕ) (more : List (List ℕ)) → has_text s ≡ true → 1 < left → line_of_text place left (s ∷ more) ≡ line_of_text (place + 1) (left - 1) more
unfolding line_of_text
counts place left s more e lt = rw (e, many left lt) refl

-- what is from a place on
at : {X : Type 0} (f : X → List ℕ) (xs : List X) (place left : ℕ) (d : X) → place < length xs
    → line_of_text place left (drop place (map f xs)) ≡ line_of_text place left (f (get_or xs place d) ∷ drop (place + 1) (map f xs))
at f xs place left d lt = ap (λ (lines : List (List ℕ)). line_of_text place left lines) (rest_from f xs place d lt)

last : {X : Type 0} (f : X → List ℕ) (xs : List X) (place left : ℕ) → length xs ≡ place → line_of_text place left (drop place (map f xs)) ≡ 1
unfolding line_of_text
last f xs place left e = rw (none_from f xs place e) refl

pub returns-then-left-le1 : goal.returns-then-left-le1
returns-then-left-le1 c =
    sym (sym c.lines.invariant.goes ∙ at (λ s. s.now) c.args.statements.now c.lines.place c.lines.left _ c.lines-test.true ∙ stops _ _ _ _ (sym c.has_text.ensures ∙ c.if-not-has_text.false) c.if-left-le1.true)

pub lines-preserved-then-not-has_text : goal.lines-preserved-then-not-has_text
lines-preserved-then-not-has_text c = record {
  inside = omega (arith, c.lines-test.true);
  goes = sym (at (λ s. s.now) c.args.statements.now c.lines.place c.lines.left _ c.lines-test.true ∙ skips _ _ _ _ (sym c.has_text.ensures ∙ c.if-not-has_text.true)) ∙ c.lines.invariant.goes;
}

pub lines-preserved : goal.lines-preserved
lines-preserved c = record {
  inside = omega (arith, c.lines-test.true);
  goes = sym (at (λ s. s.now) c.args.statements.now c.lines.place c.lines.left _ c.lines-test.true ∙ counts _ _ _ _ (sym c.has_text.ensures ∙ c.if-not-has_text.false) c.if-left-le1.false) ∙ c.lines.invariant.goes;
}

pub returns : goal.returns
returns c = sym (sym c.lines.invariant.goes ∙ last (λ s. s.now) c.args.statements.now c.lines.place c.lines.left (omega (arith, c.lines-test.false, c.lines.invariant.inside)))
