-- Texts of the items of a list, item by item.
use Rattle.std.proofs.Common.{◌≡◌, ℕ, zero, suc, ◌+◌, ◌<◌, Bool, false, List, [], ◌∷◌, ◌++◌, length, take, drop, get_or, Option, refl, sym, ap, ◌∙◌, arith, append_assoc}
use Rattle.std.specs.Prelude.{◌||◌}
use Rattle.std.proofs.lemmas.List.{append-nil}
use Rattle.ebpf_decode.specs.declared.insn.Insn.{Insn}
use Rattle.abstract_state.specs.declared.state.State.{State}
use Rattle.verifier.specs.Dataflow.{known_at}
use Rattle.verifier.specs.Surveys.{slot_of_index}
use Rattle.reasons.specs.Annotations.{indexed_text, is_any, entry_text, indexed_entry}

take_suc : {A : Type 0} (x : A) (xs : List A) (i : ℕ) → take (suc i + 1) (x ∷ xs) ≡ x ∷ take (i + 1) xs
take_suc x xs i = let e : suc i + 1 ≡ suc (i + 1) = omega arith in rw e refl

indexed_from : {A : Type 0} (f : ℕ → A → List ℕ) (n : ℕ) (xs : List A) (i : ℕ) (d : A) → i < length xs →
    indexed_text f n (take (i + 1) xs) ≡ indexed_text f n (take i xs) ++ f (n + i) (get_or xs i d)
indexed_from f n [] i d h = absurd (omega arith)
indexed_from f n (x ∷ xs) zero d h =
    let e : n + 0 ≡ n = omega arith in rw e (append-nil (f n x))
indexed_from f n (x ∷ xs) (suc i) d h =
    let e : n + suc i ≡ (n + 1) + i = omega arith
    in ap (indexed_text f n) (take_suc x xs i)
    ∙ ap (λ rest. f n x ++ rest) (indexed_from f (n + 1) xs i d (omega arith))
    ∙ sym (append_assoc (f n x) (indexed_text f (n + 1) (take i xs)) (f ((n + 1) + i) (get_or xs i d)))
    ∙ ap (λ k. (f n x ++ indexed_text f (n + 1) (take i xs)) ++ f k (get_or xs i d)) (sym e)

-- one more item
pub indexed_more : {A : Type 0} (f : ℕ → A → List ℕ) (xs : List A) (i : ℕ) (d : A) → i < length xs →
    indexed_text f 0 (take (i + 1) xs) ≡ indexed_text f 0 (take i xs) ++ f i (get_or xs i d)
indexed_more f xs i d h = let e : 0 + i ≡ i = omega arith in indexed_from f 0 xs i d h ∙ ap (λ k. indexed_text f 0 (take i xs) ++ f k (get_or xs i d)) e

-- what was written so far, and one more item
pub written_more : {A : Type 0} (f : ℕ → A → List ℕ) (xs : List A) (i : ℕ) (d : A) (old before after : List ℕ) → i < length xs →
    before ≡ old ++ indexed_text f 0 (take i xs) → after ≡ before ++ f i (get_or xs i d) →
    after ≡ old ++ indexed_text f 0 (take (i + 1) xs)
written_more f xs i d old before after h first second =
    second ∙ ap (λ text. text ++ f i (get_or xs i d)) first
    ∙ append_assoc old (indexed_text f 0 (take i xs)) (f i (get_or xs i d))
    ∙ ap (λ text. old ++ text) (sym (indexed_more f xs i d h))

pub any_next : (set : List Bool) (i : ℕ) → i < length set → is_any (drop i set) ≡ (get_or set i false || is_any (drop (i + 1) set))
any_next [] i h = absurd (omega arith)
any_next (x ∷ set) zero h = refl
any_next (x ∷ set) (suc i) h =
    let e : suc i + 1 ≡ suc (i + 1) = omega arith
    in any_next set i (omega arith) ∙ ap (λ k. get_or set i false || is_any (drop k (x ∷ set))) (sym e)

-- the text of an instruction is that of its index
pub entry_here : (states : List (Option State)) (code : List Insn) (index slot : ℕ) (insn : Insn) (known : Option State) (old new : List ℕ) →
    slot ≡ slot_of_index code index → known ≡ known_at states (slot_of_index code index) → new ≡ old ++ entry_text slot insn known →
    new ≡ old ++ indexed_entry states code index insn
entry_here states code index slot insn known old new at is written =
    written ∙ ap (λ k. old ++ entry_text k insn known) at ∙ ap (λ state. old ++ entry_text (slot_of_index code index) insn state) is
