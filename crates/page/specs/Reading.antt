-- What is read of a row of a report: its moment, what became of its frame, and the backend that got it.
use Rattle.std.specs.Prelude.{ℕ, ◌+◌, ◌-◌, ◌*◌, ◌^◌, ◌==◌, min, List, codes, fold, if◌then◌else◌, length, map}
use Rattle.std.specs.Char.{is_ascii_digit}
use Rattle.std.specs.Str.{bytes_eq}
use Rattle.comparison.specs.Columns.{moment_column, verdict_column, backend_column}
use Rattle.comparison.specs.Rows.{field}

-- ---- numbers

-- the greatest number of 64 bits, which stands for all above it
abbrev pub greatest : ℕ
greatest = 2 ^ 64 - 1

-- a number with one digit more; what is no digit is passed over
abbrev pub with_digit : ℕ → ℕ → ℕ
with_digit value byte = if is_ascii_digit byte then min (min (value * 10) greatest + (byte - 48)) greatest else value

-- the number that the digits of a text write
abbrev pub number_of_digits : List ℕ → ℕ
number_of_digits text = fold with_digit 0 text

-- ---- rows

-- the moment of a row in microseconds: its seconds have six digits behind the point
abbrev pub micros_of_row : List ℕ → ℕ
micros_of_row row = number_of_digits (field moment_column row)

abbrev pub moments_of : List (List ℕ) → List ℕ
moments_of rows = map micros_of_row rows

-- what became of a frame, by the word of its verdict: sent, passed, dropped, aborted, stopped, short; anything else is the seventh
abbrev pub fate_of_word : List ℕ → ℕ
fate_of_word word =
    if bytes_eq word (codes "TX") then 0 else (if bytes_eq word (codes "PASS") then 1 else (if bytes_eq word (codes "DROP") then 2 else
    (if bytes_eq word (codes "ABORTED") then 3 else (if bytes_eq word (codes "STOPPED") then 4 else
    (if bytes_eq word (codes "SHORT") then 5 else 6)))))

abbrev pub fate_of_record : List ℕ → ℕ
fate_of_record row = fate_of_word (field verdict_column row)

abbrev pub fates_of : List (List ℕ) → List ℕ
fates_of rows = map fate_of_record rows

-- the key of a backend: one more than its number, and 0 for none
abbrev pub key_of_text : List ℕ → ℕ
key_of_text text = if length text == 0 then 0 else 1 + min (number_of_digits text) (2 ^ 32 - 1)

abbrev pub key_of_backend : List ℕ → ℕ
key_of_backend row = key_of_text (field backend_column row)

abbrev pub keys_of : List (List ℕ) → List ℕ
keys_of rows = map key_of_backend rows
