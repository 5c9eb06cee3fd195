-- Lines for people, which go below the line of a fault: each begins with two spaces and ends with a line feed.
use Rattle.std.specs.Prelude.{◌≡◌, ℕ, ◌≤◌, List, ◌∷◌, length}
use Rattle.std.specs.List.{AllByRecursion, flat_map}
use Rattle.text_lines.specs.Lines.{Lacks, ended}

-- what a line says: it has no line feed, and at most 400 bytes
pub record IsSaid (words : List ℕ) : Type 0 where
  pub one_line : Lacks 10 words
  pub short : length words ≤ 400

abbrev pub note_line : List ℕ → List ℕ
note_line words = 32 ∷ 32 ∷ ended words

abbrev pub notes_text : List (List ℕ) → List ℕ
notes_text lines = flat_map note_line lines

-- at most N such lines
pub record AreFewNotes (most : ℕ) (text : List ℕ) : Type 0 where
  pub lines : List (List ℕ)
  pub few : length lines ≤ most
  pub each : AllByRecursion IsSaid lines
  pub text_is : text ≡ notes_text lines
