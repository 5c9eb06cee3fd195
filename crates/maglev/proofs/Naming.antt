-- The pass that puts numbers in place of places.
use Rattle.std.proofs.Common.{◌≡◌, ℕ, ◌+◌, ◌-◌, ◌<◌, List, ◌++◌, length, get_or, set, take, drop, ap, ◌∙◌, arith}
use Rattle.std.specs.Prelude.{All}
use Rattle.std.proofs.lemmas.List.{get_or_read, get_or_default, get_or-append_right, get_or-drop, length-take-le, length-map}
use Rattle.std.proofs.lemmas.List.Edits.{map_over_more}
use Rattle.maglev.specs.declared.preference.Preference.{Preference}
use Rattle.maglev.specs.Turns.{preference_at, owners_of}
use Rattle.maglev.specs.Population.{no_backend}

-- one more place becomes a number
pub owners_of-more : (backends : List Preference) (xs ys : List ℕ) (i : ℕ) (backend : Preference) → i < length xs → i < length ys
    → All (λ place. place < length backends) xs → ys ≡ owners_of backends (take i xs) ++ drop i xs
    → backend ≡ get_or backends (get_or ys i 0) backend
    → set ys i backend.number ≡ owners_of backends (take (i + 1) xs) ++ drop (i + 1) xs
owners_of-more backends xs ys i backend below below_too places so_far read =
    let number_at : ℕ → ℕ = λ place. (preference_at backends place).number in
    let front : List ℕ = owners_of backends (take i xs) in
    let front_long : length front ≡ i = length-map (take i xs) number_at ∙ length-take-le i xs (omega arith) in
    let at_rest : get_or (front ++ drop i xs) i 0 ≡ get_or (drop i xs) (i - i) 0 = get_or-append_right front (drop i xs) i i 0 front_long (omega arith) in
    let unread : get_or ys i 0 ≡ get_or xs i 0 =
    ap (λ z. get_or z i 0) so_far ∙ at_rest ∙ get_or-drop i xs (i - i) 0 ∙ ap (λ k. get_or xs k 0) (omega arith) in
    let inside : get_or ys i 0 < length backends = rw unread (places i 0 below) in
    let named : backend ≡ preference_at backends (get_or ys i 0) = get_or_read backends (get_or ys i 0) backend inside read no_backend in
    ap (λ z. set ys i z.number) named ∙ map_over_more number_at xs ys i (get_or ys i 0) below so_far (get_or_default ys i 0 (get_or ys i 0) below_too)
