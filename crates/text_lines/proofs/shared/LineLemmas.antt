-- A text is cut at a mark, and into lines, in one way.
use Rattle.std.proofs.Common.{◌≡◌, ℕ, suc, ◌+◌, List, [], ◌∷◌, ◌++◌, length, drop, get_or, refl, sym, ap, ◌∙◌, arith, append_assoc, length-append}
use Rattle.std.proofs.Math.Seq.{get_or-append_seam}
use Rattle.text_lines.specs.Lines.{Lacks, ended}

-- ---- marks

pub lacks_mid : (c : ℕ) (text xs ys : List ℕ) → Lacks c text → text ≡ xs ++ c ∷ ys → ⊥
lacks_mid c text xs ys lacks is =
    let long : length text ≡ length xs + length (c ∷ ys) = ap length is ∙ length-append xs (c ∷ ys) in
    lacks (length xs) (omega arith) (ap (λ (zs : List ℕ). get_or zs (length xs) 0) is ∙ get_or-append_seam xs c ys 0)

lacks_tail : (c x : ℕ) (xs : List ℕ) → Lacks c (x ∷ xs) → Lacks c xs
lacks_tail c x xs lacks i lt = lacks (suc i) (omega arith)

lacks_head : (c x : ℕ) (xs : List ℕ) → Lacks c (x ∷ xs) → x ≡ c → ⊥
lacks_head c x xs lacks is = lacks 0 (omega arith) is

pub same_front : (c : ℕ) (xs ys us vs : List ℕ) → Lacks c xs → Lacks c us → xs ++ c ∷ ys ≡ us ++ c ∷ vs → (xs ≡ us) × (ys ≡ vs)
same_front c [] ys [] vs a b e = (refl, ap (drop 1) e)
same_front c [] ys (u ∷ us) vs a b e = absurd (lacks_head c u us b (sym (ap (λ (zs : List ℕ). get_or zs 0 0) e)))
same_front c (x ∷ xs) ys [] vs a b e = absurd (lacks_head c x xs a (ap (λ (zs : List ℕ). get_or zs 0 0) e))
same_front c (x ∷ xs) ys (u ∷ us) vs a b e =
    let first : x ≡ u = ap (λ (zs : List ℕ). get_or zs 0 0) e in
    let others = same_front c xs ys us vs (lacks_tail c x xs a) (lacks_tail c u us b) (ap (drop 1) e) in
    (rw (first, others.0) refl, others.1)

-- a line feed after a line
pub one_line : (line rest : List ℕ) → ended line ++ rest ≡ line ++ 10 ∷ rest
one_line line rest = simp append_assoc refl

pub more_lines : (line others rest : List ℕ) → (ended line ++ others) ++ rest ≡ line ++ 10 ∷ (others ++ rest)
more_lines line others rest = simp append_assoc refl

pub no_empty_line : (line rest : List ℕ) → line ++ 10 ∷ rest ≡ [] → ⊥
no_empty_line line rest e =
    let long : length (line ++ 10 ∷ rest) ≡ 0 = ap length e in
    absurd (omega (arith, length-append line (10 ∷ rest)))
