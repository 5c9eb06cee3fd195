-- What the newest entry of a part of a journal says.
use Rattle.std.proofs.Common.{◌≡◌, ℕ, zero, suc, ◌+◌, ◌<◌, true, false, List, [], ◌∷◌, reverse, length, take, get_or, Some, arith, refl, ◌∙◌, ap}
use Rattle.std.specs.Prelude.{slice_get}
use Rattle.std.proofs.lemmas.List.{take_more, reverse-append}
use Rattle.semantics.specs.declared.call.Entry.{Entry}
use Rattle.semantics.specs.Reclamation.{is_worker, held_by, holds}

there : (entries : List Entry) (place : ℕ) (entry : Entry) → slice_get entries place ≡ Some entry → (place < length entries) × (get_or entries place entry ≡ entry)
there [] place entry is = absurd cc
there (one ∷ rest) zero entry is = (omega arith, let same : one ≡ entry = cc in same)
there (one ∷ rest) (suc place) entry is = let later = there rest place entry is in (omega (arith, later.0), later.1)

pub newest_at : (entries : List Entry) (place : ℕ) (entry : Entry) → slice_get entries place ≡ Some entry → reverse (take (place + 1) entries) ≡ entry ∷ reverse (take place entries)
newest_at entries place entry is =
    let here = there entries place entry is in
    ap reverse (take_more entries place entry here.0) ∙ reverse-append (take place entries) (get_or entries place entry ∷ [])
    ∙ ap (λ one. one ∷ reverse (take place entries)) here.1

pub own_newest : (worker cell place : ℕ) (entries : List Entry) (entry : Entry) → slice_get entries place ≡ Some entry → is_worker worker entry.who ≡ true
    → holds worker cell (reverse (take (place + 1) entries)) ≡ held_by entry.call entry.reply cell (holds worker cell (reverse (take place entries)))
own_newest worker cell place entries entry is own = rw (newest_at entries place entry is, own) refl

pub other_newest : (worker cell place : ℕ) (entries : List Entry) (entry : Entry) → slice_get entries place ≡ Some entry → is_worker worker entry.who ≡ false
    → holds worker cell (reverse (take (place + 1) entries)) ≡ holds worker cell (reverse (take place entries))
other_newest worker cell place entries entry is other = rw (newest_at entries place entry is, other) refl
