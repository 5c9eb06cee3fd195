-- Lines for people, one more; and what comes before the first line feed.
use Rattle.std.proofs.Common.{◌≡◌, ◌⊎◌, inl, inr, ℕ, zero, suc, ◌+◌, ◌≤◌, ◌==◌, Bool, true, false, List, [], ◌∷◌, ◌++◌, length, refl, sym, ap, subst, arith, ◌∙◌, append_assoc, length-append}
use Rattle.std.specs.List.{AllByRecursion}
use Rattle.std.proofs.lemmas.Bool.{eqb-true, eqb-false}
use Rattle.std.proofs.lemmas.Grind.{flat_map-append}
use Rattle.std.proofs.lemmas.List.{append-nil}
use Rattle.text_lines.specs.Lines.{Lacks}
use Rattle.mistakes.specs.Notes.{IsSaid, note_line, notes_text, AreFewNotes}

pub nothing : AreFewNotes 0 []
nothing = record { lines = []; few = omega arith; each = tt; text_is = refl }

all_more : (P : List ℕ → Type 0) (lines : List (List ℕ)) (words : List ℕ) → AllByRecursion P lines → P words → AllByRecursion P (lines ++ words ∷ [])
all_more P [] words all last = (last, tt)
all_more P (line ∷ lines) words all last = (all.0, all_more P lines words all.1 last)

pub more : (most : ℕ) (text words : List ℕ) → AreFewNotes most text → IsSaid words → AreFewNotes (most + 1) (text ++ note_line words)
more most text words notes said = record {
  lines = notes.lines ++ words ∷ [];
  few = (let long : length (notes.lines ++ words ∷ []) ≡ length notes.lines + length (words ∷ []) = length-append notes.lines (words ∷ []) in
      let few : length notes.lines ≤ most = notes.few in omega (arith, long, few));
  each = all_more IsSaid notes.lines words notes.each said;
  text_is = ap (λ (t : List ℕ). t ++ note_line words) notes.text_is
      ∙ ap (λ (t : List ℕ). notes_text notes.lines ++ t) (sym (append-nil (note_line words)))
      ∙ sym (flat_map-append note_line notes.lines (words ∷ []));
}

-- the same bytes, as they are put together
pub put_together : (most : ℕ) (text words : List ℕ) → AreFewNotes most text → IsSaid words →
    AreFewNotes (most + 1) (text ++ 32 ∷ 32 ∷ [] ++ words ++ 10 ∷ [])
put_together most text words notes said = subst (AreFewNotes (most + 1)) (simp append_assoc refl) (more most text words notes said)

pub no_more : (most : ℕ) (text : List ℕ) → AreFewNotes most text → AreFewNotes (most + 1) text
no_more most text notes = record {
  lines = notes.lines;
  few = (let few : length notes.lines ≤ most = notes.few in omega (arith, few));
  each = notes.each;
  text_is = notes.text_is;
}

-- ---- the first line feed

lacks_more : (c x : ℕ) (xs : List ℕ) → (x ≡ c → ⊥) → Lacks c xs → Lacks c (x ∷ xs)
lacks_more c x xs not_mark lacks zero within is = not_mark is
lacks_more c x xs not_mark lacks (suc i) within is = lacks i (omega arith) is

-- a text with the mark, up to the first one
pub record IsMarked (c : ℕ) (text : List ℕ) : Type 0 where
  pub front : List ℕ
  pub back : List ℕ
  pub text_is : text ≡ front ++ c ∷ back
  pub lacks : Lacks c front

pub marked_or_not : (c : ℕ) (text : List ℕ) → Lacks c text ⊎ IsMarked c text
marked_or_not c [] = inl (λ i within is. omega arith)
marked_or_not c (x ∷ xs) = by (x == c) refl (marked_or_not c xs)
  where
    by : (test : Bool) → (x == c) ≡ test → Lacks c xs ⊎ IsMarked c xs → Lacks c (x ∷ xs) ⊎ IsMarked c (x ∷ xs)
    by true is rest = inr (record { front = []; back = xs; text_is = ap (λ (y : ℕ). y ∷ xs) (eqb-true x c is); lacks = λ i within same. omega arith })
    by false is (inl lacks) = inl (lacks_more c x xs (eqb-false x c is) lacks)
    by false is (inr marked) = inr (record {
      front = x ∷ marked.front;
      back = marked.back;
      text_is = ap (λ (ys : List ℕ). x ∷ ys) marked.text_is;
      lacks = lacks_more c x marked.front (eqb-false x c is) marked.lacks;
    })

-- what is before the first mark, if there is one, lacks it
pub front_lacks : (text front rest : List ℕ) →
    ((xs ys : List ℕ) → text ≡ xs ++ 10 ∷ ys → Lacks 10 xs → (front ≡ xs) × (rest ≡ ys)) →
    (Lacks 10 text → (front ≡ text) × (rest ≡ [])) → Lacks 10 front
front_lacks text front rest both whole = by (marked_or_not 10 text)
  where
    by : Lacks 10 text ⊎ IsMarked 10 text → Lacks 10 front
    by (inl lacks) = subst (Lacks 10) (sym (whole lacks).0) lacks
    by (inr marked) = subst (Lacks 10) (sym (both marked.front marked.back marked.text_is marked.lacks).0) marked.lacks
