-- Which faults have an explanation, and how one is printed.
use Rattle.std.specs.Prelude.{ℕ, ◌==◌, ◌++◌, ◌&&◌, ◌||◌, Bool, nat_le, List, codes, decimal}
use Rattle.faults.specs.declared.explanation.Explanation.{Explanation}

abbrev is_between : ℕ → ℕ → ℕ → Bool
is_between least most number = nat_le least number && nat_le number most

-- the numbers of faults
abbrev pub is_fault : ℕ → Bool
is_fault number =
    is_between 1 23 number || is_between 30 56 number || number == 60 || is_between 70 74 number || is_between 80 83 number
    || is_between 90 95 number

-- the paragraph of a fault
abbrev pub explanation_text : Explanation → List ℕ
explanation_text row =
    codes "fault " ++ (decimal row.number ++ (codes " " ++ (row.name.now ++ (codes "\n" ++ (row.meaning.now
    ++ (codes "\nUsual causes: " ++ (row.causes.now ++ (codes "\nFor example: " ++ (row.example.now ++ codes "\n")))))))))
