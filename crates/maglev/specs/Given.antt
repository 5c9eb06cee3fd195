-- Preferences that are given: a backend's number, its offset and its skip.
use Rattle.std.specs.Prelude.{ℕ, List, map}
use Rattle.maglev.specs.declared.preference.Preference.{Preference}

abbrev pub given_preference : ℕ × ℕ × ℕ → Preference
given_preference given = record { number = given.0; offset = given.1; skip = given.2 }

-- the preference lists of a given list, in its order
abbrev pub given_preferences : List (ℕ × ℕ × ℕ) → List Preference
given_preferences given = map given_preference given

-- the numbers of the backends, in the order of the list
abbrev pub given_numbers : List (ℕ × ℕ × ℕ) → List ℕ
given_numbers given = map (λ (backend : ℕ × ℕ × ℕ). backend.0) given
