-- What begins as a source does: behind blanks and comments there is the word of its first line.
use Rattle.std.specs.Prelude.{ℕ, Bool, true, false, not, ◌||◌, ◌==◌, List, [], ◌∷◌, codes, if◌then◌else◌}
use Rattle.source_form.specs.SourceText.{begins_with}

-- white space of ASCII
abbrev pub is_blank : ℕ → Bool
is_blank b = b == 32 || (b == 9 || (b == 13 || b == 10))

-- a byte that is neither blank nor of a comment, by whether a comment has begun before it
abbrev pub is_word_byte : Bool → ℕ → Bool
is_word_byte in_comment b = not (in_comment || (b == 35 || is_blank b))

-- whether the byte behind this one is in a comment
abbrev pub goes_into : Bool → ℕ → Bool
goes_into in_comment b = if in_comment then not (b == 10) else b == 35

-- the first word begins with that of the first line of a source
unfoldable pub begins_behind : List ℕ → Bool → Bool
begins_behind [] in_comment = false
begins_behind (b ∷ more) in_comment =
    if is_word_byte in_comment b then begins_with (b ∷ more) (codes "version") else begins_behind more (goes_into in_comment b)

abbrev pub begins_as_source : List ℕ → Bool
begins_as_source text = begins_behind text false
