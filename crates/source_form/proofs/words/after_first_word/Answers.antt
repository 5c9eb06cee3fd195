use Rattle.std.proofs.Common.{◌≡◌, ◌++◌, ℕ, zero, suc, List, [], ◌∷◌, length, take, drop, refl, ap, true, false}
use Rattle.std.proofs.lemmas.Str.Pattern.{starts_text}
use Rattle.std.proofs.lemmas.Slice.Eq.{starts_is}
use Rattle.std.proofs.lemmas.Bool.Decides.{Decides-eqb}
use Rattle.source_form.specs.SourceText.{first_word}
use Rattle.source_form.proofs.words.after_first_word.Goals as goal

front : (i j : ℕ) (s : List ℕ) → s ≡ take i (take j s) ++ drop (length (take i (take j s))) s
front zero j s = refl
front (suc i) zero s = refl
front (suc i) (suc j) [] = refl
front (suc i) (suc j) (x ∷ s) = ap (λ (xs : List ℕ). x ∷ xs) (front i j s)

begins : (s : List ℕ) → s ≡ first_word s ++ drop (length (first_word s)) s
begins s = front _ _ s

pub returns-in-None : goal.returns-in-None
returns-in-None c =
    let none = starts_text false c.first_word.result.now c.args.statement.now (rw c.in-None.is at c.strip_prefix.ensures.cases) in
    let apart = starts_is Decides-eqb c.args.statement.now c.first_word.result.now false none in
    absurd (no_true (apart.1 (drop (length (first_word c.args.statement.now)) c.args.statement.now) (rw c.first_word.ensures (begins c.args.statement.now)))) where
      no_true : false ≡ true → ⊥
      no_true e = cc
