-- One operand after the other.
use Rattle.std.proofs.Common.{◌≡◌, ◌∙◌, ℕ, ◌<◌, eqb, List, ◌∷◌, ◌++◌, length, map, refl, ap, sym}
use Rattle.std.specs.Prelude.{codes, Result, Ok}
use Rattle.std.specs.List.{position_or_len}
use Rattle.std.specs.Str.{trim}
use Rattle.source_form.specs.declared.fault.Problem.{Problem}
use Rattle.source_form.specs.declared.fault.LineFault.{LineFault}
use Rattle.source_form.specs.declared.fault.LineFault.TheVariants.{Bad, Memory}
use Rattle.source_form.specs.declared.words.Form.{Form}
use Rattle.source_form.specs.SourceText.{parts_at, before_mark, after_mark, early_meaning, last_meaning, then_told, operands_meaning}
use Rattle.source_form.specs.Told.{IsToldBy}
use Rattle.source_form.proofs.Parts.{parts_none, parts_some, part_of, HasPart}

-- what an operand and those after it mean
meets : (statements : List (List ℕ)) (place : ℕ) (form : Form) (so_far operand : List ℕ) (parts : List (List ℕ)) → HasPart parts
    → operands_meaning statements place form so_far (operand ∷ map trim parts) ≡ then_told (early_meaning form operand) (λ text. operands_meaning statements place form ((so_far ++ text) ++ codes ", ") (map trim parts))
unfolding operands_meaning
meets statements place form so_far operand parts has = rw has.is refl

pub goes : (statements : List (List ℕ)) (place : ℕ) (form : Form) (so_far list : List ℕ) → position_or_len (λ b. eqb b 44) list < length list
    → operands_meaning statements place form so_far (map trim (parts_at 44 list))
    ≡ then_told (early_meaning form (trim (before_mark 44 list))) (λ text. operands_meaning statements place form ((so_far ++ text) ++ codes ", ") (map trim (parts_at 44 (after_mark 44 list))))
goes statements place form so_far list lt =
    ap (λ (parts : List (List ℕ)). operands_meaning statements place form so_far (map trim parts)) (parts_some 44 list lt)
    ∙ meets statements place form so_far (trim (before_mark 44 list)) (parts_at 44 (after_mark 44 list)) (part_of 44 (after_mark 44 list))

pub ends : (statements : List (List ℕ)) (place : ℕ) (form : Form) (so_far list : List ℕ) → position_or_len (λ b. eqb b 44) list ≡ length list
    → operands_meaning statements place form so_far (map trim (parts_at 44 list)) ≡ then_told (last_meaning statements place form (trim list)) (λ text. Ok (so_far ++ text))
unfolding operands_meaning
ends statements place form so_far list e =
    ap (λ (parts : List (List ℕ)). operands_meaning statements place form so_far (map trim parts)) (parts_none 44 list e)

-- where the first of two has a text
pub then_ok : (m : Result (List ℕ) Problem) (text : List ℕ) (next : List ℕ → Result (List ℕ) Problem) → m ≡ Ok text → then_told m next ≡ next text
then_ok m text next e = ap (λ (r : Result (List ℕ) Problem). then_told r next) e

-- and where it has a problem
pub then_err : (m whole : Result (List ℕ) Problem) (fault : LineFault) (next : List ℕ → Result (List ℕ) Problem) → whole ≡ then_told m next → IsToldBy m fault → IsToldBy whole fault
then_err m whole (Bad problem) next is told = is ∙ ap (λ (r : Result (List ℕ) Problem). then_told r next) told
then_err m whole Memory next is told = tt

-- an operand that has a text
pub kept : (statements : List (List ℕ)) (place : ℕ) (form : Form) (so_far list operand more trimmed text so_far' : List ℕ) (whole : Result (List ℕ) Problem)
    → (position_or_len (λ b. eqb b 44) list < length list) × (operand ≡ before_mark 44 list) × (more ≡ after_mark 44 list) → trimmed ≡ trim operand → early_meaning form trimmed ≡ Ok text
    → so_far' ≡ (so_far ++ text) ++ codes ", " → operands_meaning statements place form so_far (map trim (parts_at 44 list)) ≡ whole
    → operands_meaning statements place form so_far' (map trim (parts_at 44 more)) ≡ whole
kept statements place form so_far list operand more trimmed text so_far' whole cut is_trimmed told grown is =
    let same : trimmed ≡ trim (before_mark 44 list) = is_trimmed ∙ ap trim cut.1 in
    let read : early_meaning form (trim (before_mark 44 list)) ≡ Ok text = ap (early_meaning form) (sym same) ∙ told in
    rw (grown, cut.2) (sym (goes statements place form so_far list cut.0 ∙ then_ok _ text _ read) ∙ is)

-- one that has a problem
pub stopped : (statements : List (List ℕ)) (place : ℕ) (form : Form) (so_far list operand more trimmed : List ℕ) (fault : LineFault) (whole : Result (List ℕ) Problem)
    → (position_or_len (λ b. eqb b 44) list < length list) × (operand ≡ before_mark 44 list) × (more ≡ after_mark 44 list) → trimmed ≡ trim operand → IsToldBy (early_meaning form trimmed) fault
    → operands_meaning statements place form so_far (map trim (parts_at 44 list)) ≡ whole → IsToldBy whole fault
stopped statements place form so_far list operand more trimmed fault whole cut is_trimmed told is =
    let same : trimmed ≡ trim (before_mark 44 list) = is_trimmed ∙ ap trim cut.1 in
    then_err _ whole fault _ (sym is ∙ goes statements place form so_far list cut.0) (rw same at told)

-- the last that has a text
pub finished : (statements : List (List ℕ)) (place : ℕ) (form : Form) (so_far list trimmed text so_far' : List ℕ) (whole : Result (List ℕ) Problem)
    → position_or_len (λ b. eqb b 44) list ≡ length list → trimmed ≡ trim list → last_meaning statements place form trimmed ≡ Ok text
    → so_far' ≡ so_far ++ text → operands_meaning statements place form so_far (map trim (parts_at 44 list)) ≡ whole → whole ≡ Ok so_far'
finished statements place form so_far list trimmed text so_far' whole all same told grown is =
    let read : last_meaning statements place form (trim list) ≡ Ok text = ap (last_meaning statements place form) (sym same) ∙ told in
    sym is ∙ (ends statements place form so_far list all ∙ then_ok _ text _ read) ∙ ap Ok (sym grown)

-- the last that has a problem
pub spoilt : (statements : List (List ℕ)) (place : ℕ) (form : Form) (so_far list trimmed : List ℕ) (fault : LineFault) (whole : Result (List ℕ) Problem)
    → position_or_len (λ b. eqb b 44) list ≡ length list → trimmed ≡ trim list → IsToldBy (last_meaning statements place form trimmed) fault
    → operands_meaning statements place form so_far (map trim (parts_at 44 list)) ≡ whole → IsToldBy whole fault
spoilt statements place form so_far list trimmed fault whole all same told is =
    then_err _ whole fault _ (sym is ∙ ends statements place form so_far list all) (rw same at told)
