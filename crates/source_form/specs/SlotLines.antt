-- Where in a source the instruction of a slot is: its line, and the label above it.
use Rattle.std.specs.Prelude.{ℕ, ◌+◌, ◌-◌, ◌==◌, nat_lt, List, [], ◌∷◌, ◌++◌, length, codes, if◌then◌else◌}
use Rattle.std.specs.Fmt.{decimal}
use Rattle.source_form.specs.SourceText.{has_label, label_of, slots_of, statements_of}

-- the line, counted from 1, of the instruction that takes the slot, of the lines behind the first N; where none takes it, the last line
unfoldable pub line_of_slot : ℕ → ℕ → List (List ℕ) → ℕ
line_of_slot place slot [] = place
line_of_slot place slot (s ∷ more) = if nat_lt slot (slots_of s) then place + 1 else line_of_slot (place + 1) (slot - slots_of s) more

-- the label of the line, or the one above it
abbrev pub label_or : List ℕ → List ℕ → List ℕ
label_or last s = if has_label s then label_of s else last

-- the last label up to that line; none, where nothing is above
unfoldable pub label_above : List ℕ → ℕ → List (List ℕ) → List ℕ
label_above last slot [] = last
label_above last slot (s ∷ more) =
    if nat_lt slot (slots_of s) then label_or last s else label_above (label_or last s) (slot - slots_of s) more

abbrev pub label_text : List ℕ → List ℕ
label_text label = if length label == 0 then [] else codes ", after label \"" ++ (label ++ codes "\"")

-- the line for people below the fault of a slot
abbrev pub slot_note : List ℕ → ℕ → List ℕ
slot_note source slot =
    codes "  line " ++ (decimal (line_of_slot 0 slot (statements_of source)) ++
    (label_text (label_above [] slot (statements_of source)) ++ codes "\n"))
