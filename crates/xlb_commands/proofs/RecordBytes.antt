-- The records of sent frames, some and then others.
use Rattle.std.proofs.Common.{◌≡◌, ◌∙◌, ◌++◌, ◌∷◌, ℕ, List, [], append_assoc, ap, refl, subst, sym}
use Rattle.wire.specs.CaptureFormat.{record_bytes, records_bytes}
use Rattle.wire.specs.declared.records.Sent.{Sent}
use Rattle.xlb_commands.specs.Files.{FileBytes}
use Rattle.xlb_commands.specs.InPieces.{AreAdded}

-- the records of a list and of another, one after another
pub records_bytes-append : (xs ys : List Sent) → records_bytes (xs ++ ys) ≡ records_bytes xs ++ records_bytes ys
records_bytes-append [] ys = refl
records_bytes-append (x ∷ xs) ys =
    ap (λ (bytes : List ℕ). record_bytes x ++ bytes) (records_bytes-append xs ys)
    ∙ sym (append_assoc (record_bytes x) (records_bytes xs) (records_bytes ys))

-- bytes are added to a file, and then others
pub added_both : (a b c : FileBytes) (name more later : List ℕ) → AreAdded a b name more → AreAdded b c name later → AreAdded a c name (more ++ later)
added_both a b c name more later first second = λ bytes begun.
    subst (λ (them : List ℕ). c name them) (append_assoc bytes more later) (second (bytes ++ more) (first bytes begun))
