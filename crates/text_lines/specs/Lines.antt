-- Lines of a text, and what is before a mark.
use Rattle.std.specs.Prelude.{◌≢◌, ◌==◌, ℕ, ◌<◌, Bool, List, [], ◌∷◌, ◌++◌, length, slice_index}
use Rattle.std.specs.List.{ends_with}

-- no byte is the mark
abbrev pub Lacks : ℕ → List ℕ → Type 0
Lacks mark xs = (i : ℕ) → i < length xs → slice_index xs i ≢ mark

-- a line and its line feed
abbrev pub ended : List ℕ → List ℕ
ended line = line ++ 10 ∷ []

-- the text ends so
abbrev pub finishes : List ℕ → List ℕ → Bool
finishes text end = ends_with (λ a b. a == b) text end
