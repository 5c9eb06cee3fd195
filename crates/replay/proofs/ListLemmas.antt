-- What is kept for each member of a list, while the list grows.
use Rattle.std.proofs.Common.{◌≡◌, ℕ, ◌+◌, List, [], ◌∷◌, ◌++◌, length, sym, ap, ◌∙◌, subst, length-append, true≢false}
use Rattle.std.specs.Prelude.{Vec, Option, Some, None, IfSome, IsSome}
use Rattle.semantics.specs.Each.{Each}
use Rattle.semantics.proofs.shared.EachLemmas.{each_push}

-- one was kept for each
pub each_more : {A G : Type 0} (P : ℕ → A → Type 0) (k : ℕ) (all : Option (Vec A G)) (one : Option A) (now : Option (Vec A G))
    → IfSome all (λ v. (length v.items ≡ k) × Each P 0 v.items) → IfSome one (λ d. P k d)
    → IfSome now (λ v. IfSome all (λ a. IfSome one (λ d. v.items ≡ a.items ++ d ∷ [])) × IsSome all × IsSome one)
    → IfSome now (λ v. (length v.items ≡ k + 1) × Each P 0 v.items)
each_more P k all one None were is t = tt
each_more P k None one (Some v) were is t = absurd (true≢false (sym t.1))
each_more P k (Some a) None (Some v) were is t = absurd (true≢false (sym t.2))
each_more {A} P k (Some a) (Some d) (Some v) were is t = (
  ap (λ l. length l) t.0 ∙ length-append a.items (d ∷ []) ∙ ap (λ n. n + 1) were.0,
  subst (λ (l : List A). Each P 0 l) (sym t.0) (each_push P a.items k d were.0 were.1 is),
)

pub if_some : {A : Type 0} (P Q : A → Type 0) → ((x : A) → P x → Q x) → (o : Option A) → IfSome o P → IfSome o Q
if_some P Q f None h = tt
if_some P Q f (Some x) h = f x h
