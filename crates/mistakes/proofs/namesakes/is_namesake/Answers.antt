use Rattle.std.proofs.Common.{◌≡◌, ◌∙◌, Bool, true, ℕ, List, ap, sym}
use Rattle.faults.specs.Explanations.{is_fault}
use Rattle.faults.specs.FaultTable.{row_of}
use Rattle.faults.specs.declared.explanation.Explanation.{Explanation}
use Rattle.mistakes.specs.Namesakes.{is_namesake, is_namesake_of}
use Rattle.mistakes.proofs.namesakes.is_namesake.Goals as goal

-- the row of a fault's number has its name
found_is : (about : Explanation) (number number' : ℕ) (name : List ℕ) → is_fault number ≡ true → number' ≡ number → name ≡ (row_of number).name
    → is_namesake_of about true number' name ≡ is_namesake about number
found_is about number number' name fault same named =
    ap (λ (n : ℕ). is_namesake_of about true n name) same
    ∙ (ap (λ (n : List ℕ). is_namesake_of about true number n) named
    ∙ ap (λ (b : Bool). is_namesake_of about b number (row_of number).name) (sym fault))

pub returns-in-Some : goal.returns-in-Some
returns-in-Some c =
    c.is_other.ensures
    ∙ found_is c.args.about.now c.args.number c.in-Some.other.number c.in-Some.other.name.now c.in-Some.ensures.0 c.in-Some.ensures.1.number_is
    c.in-Some.ensures.1.name_is
