-- Which other faults have a fault's name, and what is printed of a fault.
use Rattle.std.specs.Prelude.{ℕ, zero, suc, ◌==◌, ◌++◌, ◌&&◌, not, bytes_eq, Bool, true, false, List, [], ◌∷◌, codes, decimal, if◌then◌else◌}
use Rattle.faults.specs.Explanations.{explanation_text, is_fault}
use Rattle.faults.specs.FaultTable.{row_of}
use Rattle.faults.specs.declared.explanation.Explanation.{Explanation}

-- a fault of this number and name is another one than this, and has its name; a number that is none of a fault is not
abbrev pub is_namesake_of : Explanation → Bool → ℕ → List ℕ → Bool
is_namesake_of about true number name = bytes_eq name about.name.now && not (number == about.number)
is_namesake_of about false number name = false

abbrev pub is_namesake : Explanation → ℕ → Bool
is_namesake about number = is_namesake_of about (is_fault number) number (row_of number).name

-- a number behind a blank, if it is that of a fault that has the name too
abbrev pub namesake_text : Explanation → ℕ → List ℕ
namesake_text about number = if is_namesake about number then codes " " ++ decimal number else []

-- the numbers below this one of other faults that have the name, each behind a blank
unfoldable pub namesakes_below : Explanation → ℕ → List ℕ
namesakes_below about zero = []
namesakes_below about (suc number) = namesakes_below about number ++ namesake_text about number

-- the line of these numbers
abbrev pub numbers_line : List ℕ → List ℕ
numbers_line numbers = codes "Other faults of this name:" ++ (numbers ++ codes "\n")

-- the same, if there are any
abbrev pub namesakes_line : List ℕ → List ℕ
namesakes_line [] = []
namesakes_line (first ∷ rest) = numbers_line (first ∷ rest)

-- what is printed of a fault: its paragraph, and below it the number of each other fault that has its name, rising; each fault has a number
-- below 96
abbrev pub explained_text : Explanation → List ℕ
explained_text about = explanation_text about ++ namesakes_line (namesakes_below about 96)
