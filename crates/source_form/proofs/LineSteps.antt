-- One line after the other.
use Rattle.std.proofs.Common.{◌≡◌, ◌∙◌, ℕ, zero, suc, ◌+◌, ◌<◌, List, [], ◌∷◌, ◌++◌, length, map, drop, get_or, refl, ap, sym, arith}
use Rattle.std.specs.Prelude.{Result, Ok}
use Rattle.source_form.specs.declared.fault.Problem.{Problem}
use Rattle.source_form.specs.declared.fault.LineFault.{LineFault}
use Rattle.source_form.specs.declared.fault.LineFault.TheVariants as line_faults
use Rattle.source_form.specs.declared.fault.SourceFault.{SourceFault}
use Rattle.source_form.specs.SourceText.{line_meaning, on_line, meaning_from}
use Rattle.source_form.specs.Told.{IsToldBy, IsToldOf, line_fault_at}

from : {X Y : Type 0} (f : X → Y) (xs : List X) (i : ℕ) (d : X) → i < length xs → drop i (map f xs) ≡ f (get_or xs i d) ∷ drop (suc i) (map f xs)
from f [] i d lt = absurd (omega (arith, lt))
from f (x ∷ xs) zero d lt = refl
from f (x ∷ xs) (suc i) d lt = from f xs i d (omega (arith, lt))

pub rest_from : {X Y : Type 0} (f : X → Y) (xs : List X) (place : ℕ) (d : X) → place < length xs → drop place (map f xs) ≡ f (get_or xs place d) ∷ drop (place + 1) (map f xs)
rest_from f xs place d lt =
    let next : suc place ≡ place + 1 = omega arith in
    from f xs place d lt ∙ ap (λ (n : ℕ). f (get_or xs place d) ∷ drop n (map f xs)) next

-- the line at a place and those after it
pub goes : {X : Type 0} (f : X → List ℕ) (xs : List X) (place : ℕ) (d : X) (so_far : List ℕ) → place < length xs
    → meaning_from (map f xs) place so_far (drop place (map f xs))
    ≡ on_line (place + 1) (line_meaning (map f xs) place (f (get_or xs place d))) (λ text. meaning_from (map f xs) (place + 1) (so_far ++ text) (drop (place + 1) (map f xs)))
unfolding meaning_from
goes f xs place d so_far lt = ap (λ (lines : List (List ℕ)). meaning_from (map f xs) place so_far lines) (rest_from f xs place d lt)

after_all : {X : Type 0} (xs : List X) (i : ℕ) → length xs ≡ i → drop i xs ≡ []
after_all [] zero e = refl
after_all [] (suc i) e = refl
after_all (x ∷ xs) zero e = absurd (omega (arith, e))
after_all (x ∷ xs) (suc i) e = after_all xs i (omega (arith, e))

length-map : {X Y : Type 0} (f : X → Y) (xs : List X) → length (map f xs) ≡ length xs
length-map f [] = refl
length-map f (x ∷ xs) = rw (length-map f xs) refl

pub none_from : {X Y : Type 0} (f : X → Y) (xs : List X) (place : ℕ) → length xs ≡ place → drop place (map f xs) ≡ []
none_from f xs place e = after_all (map f xs) place (length-map f xs ∙ e)

pub ends : {X : Type 0} (f : X → List ℕ) (xs : List X) (place : ℕ) (so_far : List ℕ) → length xs ≡ place → meaning_from (map f xs) place so_far (drop place (map f xs)) ≡ Ok so_far
unfolding meaning_from
ends f xs place so_far e = rw (none_from f xs place e) refl

pub line_ok : (line : ℕ) (m : Result (List ℕ) Problem) (text : List ℕ) (next : List ℕ → Result (List ℕ) SourceFault) → m ≡ Ok text → on_line line m next ≡ next text
line_ok line m text next e = ap (λ (r : Result (List ℕ) Problem). on_line line r next) e

pub line_err : (place : ℕ) (m : Result (List ℕ) Problem) (whole : Result (List ℕ) SourceFault) (fault : LineFault) (next : List ℕ → Result (List ℕ) SourceFault)
    → whole ≡ on_line (place + 1) m next → IsToldBy m fault → IsToldOf whole (line_fault_at place fault)
line_err place m whole (line_faults.Bad problem) next is told = is ∙ ap (λ (r : Result (List ℕ) Problem). on_line (place + 1) r next) told
line_err place m whole line_faults.Memory next is told = tt

-- a line that has a text
pub kept : {X : Type 0} (f : X → List ℕ) (xs : List X) (place : ℕ) (d : X) (so_far text so_far' : List ℕ) (whole : Result (List ℕ) SourceFault) → place < length xs
    → line_meaning (map f xs) place (f (get_or xs place d)) ≡ Ok text → so_far' ≡ so_far ++ text → meaning_from (map f xs) place so_far (drop place (map f xs)) ≡ whole
    → meaning_from (map f xs) (place + 1) so_far' (drop (place + 1) (map f xs)) ≡ whole
kept f xs place d so_far text so_far' whole lt told grown is =
    rw grown (sym (goes f xs place d so_far lt ∙ line_ok (place + 1) _ text _ told) ∙ is)

-- a line that has a problem
pub stopped : {X : Type 0} (f : X → List ℕ) (xs : List X) (place : ℕ) (d : X) (so_far : List ℕ) (fault : LineFault) (whole : Result (List ℕ) SourceFault) → place < length xs
    → IsToldBy (line_meaning (map f xs) place (f (get_or xs place d))) fault → meaning_from (map f xs) place so_far (drop place (map f xs)) ≡ whole → IsToldOf whole (line_fault_at place fault)
stopped f xs place d so_far fault whole lt told is = line_err place _ whole fault _ (sym is ∙ goes f xs place d so_far lt) told
