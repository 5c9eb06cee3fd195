-- What one frame more makes of the last targets and of the places of moves.
use Rattle.std.proofs.Common.{◌≡◌, ℕ, ◌+◌, ◌<◌, Bool, true, false, List, [], ◌∷◌, ◌++◌, if◌then◌else◌, length, get_or, take, reverse, Option, Some, None, ap, ◌∙◌, sym, refl, arith}
use Rattle.std.proofs.lemmas.List.{append_assoc, take_more, reverse-append, length-append, length-take-le, length-reverse}
use Rattle.wire.specs.declared.records.Sent.{Sent}
use Rattle.traffic.specs.declared.moves.LastTargets.{LastTargets}
use Rattle.traffic.specs.Counting.{one_if}
use Rattle.traffic.specs.Moving.{Passage, differs, is_moved, last_after, last_in, last_target, moved_places, moved_until, moves_by, moves_in, moves_until, passage_of}
use Rattle.traffic.specs.Tallies.{AreLast}

-- the newest of the frames so far is the next one
newest : (past frames : List Sent) (i : ℕ) (next : Sent) → i < length frames → next ≡ get_or frames i next →
    reverse (past ++ take (i + 1) frames) ≡ next ∷ reverse (past ++ take i frames)
newest past frames i next below is =
    ap (λ (s : List Sent). reverse (past ++ s)) (take_more frames i next below)
    ∙ (ap reverse (sym (append_assoc past (take i frames) (get_or frames i next ∷ [])))
    ∙ (reverse-append (past ++ take i frames) (get_or frames i next ∷ []) ∙ ap (λ s. s ∷ reverse (past ++ take i frames)) (sym is)))

same_moves : (table : LastTargets) (older : List Sent) (passage : Option Passage) →
    ((flow : ℕ) → last_in table flow ≡ last_target flow older) → moves_by table passage ≡ is_moved passage older
same_moves table older None same = refl
same_moves table older (Some passage) same = ap (differs passage.1) (same passage.0)

-- as many older frames as the place of the next one
as_many : (past frames : List Sent) (i : ℕ) → i < length frames → length past + i ≡ length (reverse (past ++ take i frames))
as_many past frames i below =
    sym (length-reverse (past ++ take i frames)
    ∙ (length-append past (take i frames) ∙ ap (λ (n : ℕ). length past + n) (length-take-le i frames (omega (arith, below)))))

pub next_last : (table after : LastTargets) (past frames : List Sent) (i : ℕ) (sent : Sent) → i < length frames → sent ≡ get_or frames i sent
    → AreLast (past ++ take i frames) table → ((flow : ℕ) → last_in after flow ≡ last_after table (passage_of sent.bytes.items) flow)
    → AreLast (past ++ take (i + 1) frames) after
next_last table after past frames i sent below is known last = λ flow.
    rw (newest past frames i sent below is) (last flow ∙ rw (known flow) refl)

pub next_places : (table : LastTargets) (past frames : List Sent) (i : ℕ) (sent : Sent) → i < length frames → sent ≡ get_or frames i sent
    → AreLast (past ++ take i frames) table → (moved : Bool) (place : ℕ) (before places : List ℕ)
    → moved ≡ moves_by table (passage_of sent.bytes.items) → place ≡ length past + i
    → moved_places (past ++ take i frames) ≡ moved_places past ++ before → places ≡ before ++ (if moved then place ∷ [] else [])
    → moved_places (past ++ take (i + 1) frames) ≡ moved_places past ++ places
next_places table past frames i sent below is known moved place before places moves at same put =
    let older = reverse (past ++ take i frames) in
    let here : place ≡ length older = at ∙ as_many past frames i below in
    let also : moved ≡ is_moved (passage_of sent.bytes.items) older = moves ∙ same_moves table older (passage_of sent.bytes.items) known in
    ap moved_until (newest past frames i sent below is)
    ∙ (ap (λ (list : List ℕ). list ++ (if is_moved (passage_of sent.bytes.items) older then length older ∷ [] else [])) same
    ∙ (append_assoc (moved_places past) before (if is_moved (passage_of sent.bytes.items) older then length older ∷ [] else [])
    ∙ ap (λ (list : List ℕ). moved_places past ++ list)
    (ap (λ (n : ℕ). before ++ (if is_moved (passage_of sent.bytes.items) older then n ∷ [] else [])) (sym here)
    ∙ (ap (λ (b : Bool). before ++ (if b then place ∷ [] else [])) (sym also) ∙ sym put))))

one_or_none : (moved : Bool) (place : ℕ) → one_if moved ≡ length (if moved then place ∷ [] else [])
one_or_none true place = refl
one_or_none false place = refl

count_until : (frames : List Sent) → moves_until frames ≡ length (moved_until frames)
count_until [] = refl
count_until (sent ∷ older) =
    ap (λ (n : ℕ). n + one_if (is_moved (passage_of sent.bytes.items) older)) (count_until older)
    ∙ (ap (λ (n : ℕ). length (moved_until older) + n) (one_or_none (is_moved (passage_of sent.bytes.items) older) (length older))
    ∙ sym (length-append (moved_until older) (if is_moved (passage_of sent.bytes.items) older then length older ∷ [] else [])))

-- there are as many moves as places of moves
pub count_of : (frames : List Sent) → moves_in frames ≡ length (moved_places frames)
count_of frames = count_until (reverse frames)
