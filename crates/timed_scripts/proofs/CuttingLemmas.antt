-- Texts are cut as their definition says.
use Rattle.std.proofs.Common.{◌≡◌, ℕ, zero, suc, List, [], ◌∷◌, ◌++◌, Option, Some, None, false, eqb, refl, sym, ap, ◌∙◌, arith, eq-eqb, ne_eqb, Bor}
use Rattle.std.specs.Prelude.{◌≢◌}
use Rattle.std.specs.Option.{MatchOption}
use Rattle.std.specs.Prelude.{option_map, cond}
use Rattle.std.proofs.Common.{inl, inr}
use Rattle.std.proofs.lemmas.Bool.{and_right, cases_Bool, eqb-true, eqb-false}
use Rattle.text_lines.specs.Lines.{Lacks}
use Rattle.timed_scripts.specs.Cutting.{cut_at, without_end_blanks}

lacks_tail : (c x : ℕ) (xs : List ℕ) → Lacks c (x ∷ xs) → Lacks c xs
lacks_tail c x xs lacks i lt = lacks (suc i) (omega arith)

lacks_head : (c x : ℕ) (xs : List ℕ) → Lacks c (x ∷ xs) → x ≢ c
lacks_head c x xs lacks is = lacks 0 (omega arith) is

pub cut_there : (c : ℕ) (xs ys : List ℕ) → Lacks c xs → cut_at c (xs ++ c ∷ ys) ≡ Some (xs, ys)
cut_there c [] ys lacks = rw (eq-eqb c c refl) refl
cut_there c (x ∷ xs) ys lacks = rw (ne_eqb x c (lacks_head c x xs lacks), cut_there c xs ys (lacks_tail c x xs lacks)) refl

pub no_cut : (c : ℕ) (xs : List ℕ) → Lacks c xs → cut_at c xs ≡ None
no_cut c [] lacks = refl
no_cut c (x ∷ xs) lacks = rw (ne_eqb x c (lacks_head c x xs lacks), no_cut c xs (lacks_tail c x xs lacks)) refl

pub cut_is : (c : ℕ) (text : List ℕ) (r : Option (Bor (List ℕ) × Bor (List ℕ)))
    → MatchOption r (Lacks c text) (λ x. (text ≡ x.0.now ++ (c ∷ x.1.now)) × Lacks c x.0.now)
    → MatchOption r (cut_at c text ≡ None) (λ parts. cut_at c text ≡ Some (parts.0.now, parts.1.now))
cut_is c text None lacks = no_cut c text lacks
cut_is c text (Some x) parts = rw parts.0 (cut_there c x.0.now x.1.now parts.1)

-- ---- blanks at the end

pub one_blank : (xs : List ℕ) → without_end_blanks (xs ++ 32 ∷ []) ≡ without_end_blanks xs
one_blank [] = refl
one_blank (x ∷ xs) = rw (one_blank xs) refl

pub no_blank : (xs : List ℕ) → ((front : List ℕ) → xs ≢ front ++ 32 ∷ []) → without_end_blanks xs ≡ xs
no_blank [] none = refl
no_blank (x ∷ []) none = rw (ne_eqb x 32 (λ e. none [] (ap (λ (l : ℕ). l ∷ []) e))) refl
no_blank (x ∷ y ∷ ys) none =
    let rest = no_blank (y ∷ ys) (λ front e. none (x ∷ front) (ap (λ (l : List ℕ). x ∷ l) e)) in
    rw (rest, and_right (eqb x 32) false refl) refl

-- ---- what was cut

abbrev pub fst_of : List ℕ → Option (List ℕ × List ℕ) → List ℕ
fst_of d None = d
fst_of d (Some p) = p.0

abbrev pub snd_of : List ℕ → Option (List ℕ × List ℕ) → List ℕ
snd_of d None = d
snd_of d (Some p) = p.1

pub cut_once : (c : ℕ) (text xs ys us vs : List ℕ) → cut_at c text ≡ Some (xs, ys) → cut_at c text ≡ Some (us, vs) → (xs ≡ us) × (ys ≡ vs)
cut_once c text xs ys us vs a b = (ap (fst_of []) (sym a ∙ b), ap (snd_of []) (sym a ∙ b))

abbrev put_before : ℕ → List ℕ × List ℕ → List ℕ × List ℕ
put_before x parts = (x ∷ parts.0, parts.1)

lacks_more : (c x : ℕ) (xs : List ℕ) → x ≢ c → Lacks c xs → Lacks c (x ∷ xs)
lacks_more c x xs apart lacks zero lt = apart
lacks_more c x xs apart lacks (suc i) lt = lacks i (omega (arith, lt))

at_mark : (c x : ℕ) (text xs ys : List ℕ) → x ≡ c → ◌≡◌ {A = Option (List ℕ × List ℕ)} (Some ([], text)) (Some (xs, ys)) → (x ∷ text ≡ xs ++ c ∷ ys) × Lacks c xs
at_mark c x text xs ys is e =
    let front : [] ≡ xs = ap (fst_of []) e in
    let back : text ≡ ys = ap (snd_of []) e in
    (rw (sym front, sym back, is) refl, rw (sym front) (λ i lt. absurd (omega (arith, lt))))

behind_mark : (c x : ℕ) (text xs ys : List ℕ) → x ≢ c → ((us vs : List ℕ) → cut_at c text ≡ Some (us, vs) → (text ≡ us ++ c ∷ vs) × Lacks c us) → (r : Option (List ℕ × List ℕ))
    → cut_at c text ≡ r → option_map (put_before x) r ≡ Some (xs, ys) → (x ∷ text ≡ xs ++ c ∷ ys) × Lacks c xs
behind_mark c x text xs ys apart inner None is e = absurd cc
behind_mark c x text xs ys apart inner (Some p) is e =
    let parts = inner p.0 p.1 is in
    let front : x ∷ p.0 ≡ xs = ap (fst_of []) e in
    let back : p.1 ≡ ys = ap (snd_of []) e in
    (rw (sym front, sym back) (ap (λ (l : List ℕ). x ∷ l) parts.0), rw (sym front) (lacks_more c x p.0 apart parts.1))

-- a text that is cut is its two parts with the mark between them
pub cut_parts : (c : ℕ) (text xs ys : List ℕ) → cut_at c text ≡ Some (xs, ys) → (text ≡ xs ++ c ∷ ys) × Lacks c xs
cut_parts c [] xs ys e = absurd cc
cut_parts c (x ∷ text) xs ys e = elim (cases_Bool (eqb x c)) [
  | inl yes' ↦ at_mark c x text xs ys (eqb-true x c yes') (sym (ap (λ b. cond b (Some ([], text)) (option_map (put_before x) (cut_at c text))) yes') ∙ e)
  | inr no' ↦ behind_mark c x text xs ys (eqb-false x c no') (cut_parts c text) (cut_at c text) refl (sym (ap (λ b. cond b (Some ([], text)) (option_map (put_before x) (cut_at c text))) no') ∙ e)
]
