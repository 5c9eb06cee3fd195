-- The reports of two replays compared.
use Rattle.std.specs.Prelude.{◌≡◌, ◌≢◌, ℕ, Bool, List, string_bytes}
use Rattle.comparison.specs.Comparing.{AreCompared, IsUnlike}
use Rattle.comparison.specs.Mistakes.{unlike_text}
use Rattle.comparison.specs.declared.fault.Unlike.{Unlike}
use Rattle.comparison.specs.declared.fault.Unlike.TheVariants.{Memory}
use Rattle.xlb_commands.specs.Files.{FileBytes}
use Rattle.xlb_commands.specs.Printable.{in_one_line}
use Rattle.xlb_commands.specs.declared.comparing.ComparisonAnswer.{ComparisonAnswer}
use Rattle.xlb_commands.specs.declared.comparing.ComparisonAnswer.TheVariants as answers

-- the files are reports of the same records, and this is printed of them; and whether a record is treated differently
pub record IsComparison (files : FileBytes) (first second printed : List ℕ) (differs : Bool) : Type 0 where
  pub first_bytes : List ℕ
  pub second_bytes : List ℕ
  pub first_read : files first first_bytes
  pub second_read : files second second_bytes
  pub compared : AreCompared first_bytes second_bytes printed differs

-- the files cannot be compared, and the text says why
pub record IsUnlikeTold (files : FileBytes) (first second text : List ℕ) : Type 0 where
  pub first_bytes : List ℕ
  pub second_bytes : List ℕ
  pub first_read : files first first_bytes
  pub second_read : files second second_bytes
  pub unlike : Unlike
  pub why : IsUnlike first_bytes second_bytes unlike
  pub not_memory : unlike ≢ Memory
  pub text_is : text ≡ unlike_text unlike (in_one_line first) (in_one_line second)

-- what a comparison of the files' bytes comes to
abbrev pub IsAnswerOf : List ℕ → List ℕ → List ℕ → List ℕ → ComparisonAnswer → Type 0
IsAnswerOf first_name second_name first second (answers.Compared text differs) = AreCompared first second (string_bytes text) differs
IsAnswerOf first_name second_name first second (answers.Unlike text) =
    (unlike : Unlike) × IsUnlike first second unlike × (unlike ≢ Memory)
    × (string_bytes text ≡ unlike_text unlike (in_one_line first_name) (in_one_line second_name))

-- what a comparison of two files comes to
abbrev pub IsComparisonAnswer : FileBytes → List ℕ → List ℕ → ComparisonAnswer → Type 0
IsComparisonAnswer files first second (answers.Compared text differs) = IsComparison files first second (string_bytes text) differs
IsComparisonAnswer files first second (answers.Unlike text) = IsUnlikeTold files first second (string_bytes text)
