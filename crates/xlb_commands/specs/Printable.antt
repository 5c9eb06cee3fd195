-- Texts that other people wrote, as a terminal shows them.
use Rattle.std.specs.Prelude.{ℕ, zero, suc, ◌/◌, ◌%◌, ◌==◌, Bool, not, ◌&&◌, ◌||◌, List, [], ◌+◌, ◌∷◌, ◌++◌, chars, codes, flat_map, nat_lt, nat_le, encode_utf8}
use Rattle.std.specs.Prelude.{if◌then◌else◌}

-- a number's digit of base 16
abbrev pub hex_digit : ℕ → ℕ
hex_digit digit = if nat_lt digit 10 then 48 + digit else 87 + digit

abbrev pub is_between : ℕ → ℕ → ℕ → Bool
is_between first last letter = nat_le first letter && nat_le letter last

-- a control character, among them line feed and delete
abbrev pub is_control : ℕ → Bool
is_control letter = nat_lt letter 0x20 || is_between 0x7f 0x9f letter

-- the letter turns the direction of writing, or ends a line where no line feed does
abbrev pub turns : ℕ → Bool
turns letter = (letter == 0x61c) || (is_between 0x200e 0x200f letter || (is_between 0x2028 0x202e letter || is_between 0x2066 0x2069 letter))

-- a terminal shows the letter, and does nothing else
abbrev pub is_shown : ℕ → Bool
is_shown letter = not (is_control letter) && not (turns letter)

-- the last hexadecimal digits of a number, at most so many, without zeros in front
abbrev pub hex_number : ℕ → ℕ → List ℕ
hex_number zero number = []
hex_number (suc most) number =
    if nat_lt number 16 then hex_digit number ∷ [] else hex_number most (number / 16) ++ (hex_digit (number % 16) ∷ [])

-- the letter, or its number as an escape
abbrev pub shown : ℕ → List ℕ
shown letter = if is_shown letter then encode_utf8 letter else codes "\\u{" ++ (hex_number 6 letter ++ codes "}")

-- the text with an escape in place of each letter that a terminal would not show, a line feed among them
abbrev pub in_one_line : List ℕ → List ℕ
in_one_line text = flat_map shown (chars text)
