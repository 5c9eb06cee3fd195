-- What is printed of a refusal: the fault's line, and below it lines that each begin with two blanks.
use Rattle.std.specs.Prelude.{◌≡◌, ◌==◌, ◌++◌, ◌∷◌, ℕ, Bool, true, false, List, [], not, if◌then◌else◌}
use Rattle.std.specs.List.{filter}
use Rattle.faults.specs.declared.refusal.Place.{Place}
use Rattle.faults.specs.declared.refusal.Place.TheVariants.{LineStart, Blank, Within, Wrong}

-- where the byte after this one is: 10 ends a line, 32 is a blank
abbrev pub next_place : Place → ℕ → Place
next_place LineStart byte = if byte == 32 then Blank else Wrong
next_place Blank byte = if byte == 32 then Within else Wrong
next_place Within byte = if byte == 10 then LineStart else Within
next_place Wrong byte = Wrong

abbrev pub place_after : Place → List ℕ → Place
place_after place [] = place
place_after place (byte ∷ rest) = place_after (next_place place byte) rest

-- lines that each begin with two blanks, the last one ended; or none
abbrev pub AreNotes : List ℕ → Type 0
AreNotes text = place_after LineStart text ≡ LineStart

-- a text without its line feeds
abbrev pub one_line : List ℕ → List ℕ
one_line = filter (λ (byte : ℕ). not (byte == 10))

-- what is before a byte: two blanks at the front of a line
abbrev pub front_of : Bool → List ℕ
front_of true = 32 ∷ 32 ∷ []
front_of false = []

-- what ends the last line, where it is not ended
abbrev pub last_line_end : Bool → List ℕ
last_line_end true = []
last_line_end false = 10 ∷ []

-- notes with two blanks at the front of each line and the last line ended, from the front of a line on or from within one
abbrev pub indented : Bool → List ℕ → List ℕ
indented is_start [] = last_line_end is_start
indented is_start (byte ∷ rest) = front_of is_start ++ byte ∷ indented (byte == 10) rest

abbrev pub is_line_start : Place → Bool
is_line_start LineStart = true
is_line_start Blank = false
is_line_start Within = false
is_line_start Wrong = false

-- the lines that notes become: themselves, where each begins with two blanks already and the last one is ended; or indented
abbrev pub note_lines : List ℕ → List ℕ
note_lines notes = if is_line_start (place_after LineStart notes) then notes else indented true notes

-- the fault in one line, and below it the lines of the notes, in their order
pub record IsRefusalText (fault notes text : List ℕ) : Type 0 where
  pub below : List ℕ
  pub are_notes : AreNotes below
  pub are_of_notes : below ≡ note_lines notes
  pub is : text ≡ one_line fault ++ 10 ∷ below
