-- A text taken apart at its first mark, and what a line has before its comment.
use Rattle.std.specs.Prelude.{ℕ, ◌==◌, ◌&&◌, Bool, true, false, List, [], ◌∷◌, Option, Some, None, option_map, if◌then◌else◌}

-- what comes before the first mark and what comes after it
abbrev pub cut_at : ℕ → List ℕ → Option (List ℕ × List ℕ)
cut_at mark [] = None
cut_at mark (letter ∷ letters) =
    if letter == mark then Some ([], letters) else option_map (λ parts. (letter ∷ parts.0, parts.1)) (cut_at mark letters)

abbrev pub front_or : List ℕ → Option (List ℕ × List ℕ) → List ℕ
front_or text None = text
front_or text (Some parts) = parts.0

abbrev pub is_nothing : List ℕ → Bool
is_nothing [] = true
is_nothing (letter ∷ letters) = false

-- the text without the blanks at its end
abbrev pub without_end_blanks : List ℕ → List ℕ
without_end_blanks [] = []
without_end_blanks (letter ∷ letters) =
    if letter == 32 && is_nothing (without_end_blanks letters) then [] else letter ∷ without_end_blanks letters

-- what a line says: what comes before its first `#`, without blanks at the end
abbrev pub content : List ℕ → List ℕ
content line = without_end_blanks (front_or line (cut_at 35 line))
