-- Texts that are put together.
use Rattle.std.proofs.Common.{◌≡◌, ◌∙◌, ◌++◌, List, ℕ, String, Global, ap, string_bytes, subst}
use Rattle.std.specs.Prelude.{IfOk, Result}

-- a text and a piece behind it
pub next_text : (old piece new text more : List ℕ) → old ≡ text → piece ≡ more → new ≡ old ++ piece → new ≡ text ++ more
next_text old piece new text more a b c = c ∙ (ap (λ (it : List ℕ). it ++ piece) a ∙ ap (λ (it : List ℕ). text ++ it) b)

-- a made text is the text that is wanted
pub of_same : {E : Type 0} (r : Result (String Global) E) (made wanted : List ℕ) → IfOk r (λ text. string_bytes text ≡ made) → made ≡ wanted
    → IfOk r (λ text. string_bytes text ≡ wanted)
of_same r made wanted is same = subst (λ (it : List ℕ). IfOk r (λ text. string_bytes text ≡ it)) same is

pub same_three : (f : List ℕ → List ℕ → List ℕ → List ℕ) (a p b q c r : List ℕ) → a ≡ p → b ≡ q → c ≡ r → f a b c ≡ f p q r
same_three f a p b q c r one two three =
    ap (λ (it : List ℕ). f it b c) one ∙ (ap (λ (it : List ℕ). f p it c) two ∙ ap (λ (it : List ℕ). f p q it) three)

pub same_six : (f : List ℕ → List ℕ → List ℕ → List ℕ → List ℕ → List ℕ → List ℕ) (a p b q c r d s e t g u : List ℕ)
    → a ≡ p → b ≡ q → c ≡ r → d ≡ s → e ≡ t → g ≡ u → f a b c d e g ≡ f p q r s t u
same_six f a p b q c r d s e t g u one two three four five six =
    same_three (λ x y z. f x y z d e g) _ _ _ _ _ _ one two three ∙ same_three (λ x y z. f p q r x y z) _ _ _ _ _ _ four five six
