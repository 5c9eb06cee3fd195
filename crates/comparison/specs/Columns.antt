-- What the fourteen columns of a report may say: numbers, moments, words and addresses, each of a bounded length. So a field that is printed has
-- no letter that does more to a terminal than to be shown, and is short.
use Rattle.std.specs.Prelude.{ℕ, ◌==◌, ◌&&◌, ◌||◌, not, nat_le, Bool, List, codes, count_by, if◌then◌else◌, length}
use Rattle.std.specs.Char.{is_ascii_digit, is_ascii_lowercase, is_ascii_uppercase}
use Rattle.std.specs.List.{after_first, before_first}

-- ---- the columns of a report, counted from 0

abbrev pub number_column : ℕ
number_column = 0

abbrev pub moment_column : ℕ
moment_column = 1

abbrev pub worker_column : ℕ
worker_column = 2

abbrev pub verdict_column : ℕ
verdict_column = 3

abbrev pub steps_column : ℕ
steps_column = 4

abbrev pub case_column : ℕ
case_column = 5

abbrev pub backend_column : ℕ
backend_column = 6

abbrev pub address_column : ℕ
address_column = 7

abbrev pub source_column : ℕ
source_column = 8

abbrev pub source_port_column : ℕ
source_port_column = 9

abbrev pub destination_column : ℕ
destination_column = 10

abbrev pub destination_port_column : ℕ
destination_port_column = 11

abbrev pub protocol_column : ℕ
protocol_column = 12

abbrev pub choice_column : ℕ
choice_column = 13

-- so many there are
abbrev pub column_count : ℕ
column_count = 14

-- ---- what a field may be

-- so many bytes at most, and one at least
abbrev pub is_short : ℕ → List ℕ → Bool
is_short most text = not (length text == 0) && nat_le (length text) most

-- a decimal number
abbrev pub is_number : List ℕ → Bool
is_number text = is_short 20 text && count_by (λ b. not (is_ascii_digit b)) text == 0

abbrev pub is_known_number : List ℕ → Bool
is_known_number text = length text == 0 || is_number text

-- what is before the first point, or all; and what comes after it
abbrev pub before_point : List ℕ → List ℕ
before_point text = before_first (λ b. b == 46) text

abbrev pub after_point : List ℕ → List ℕ
after_point text = after_first (λ b. b == 46) text

-- seconds of 12 digits at most, a point, and six digits
abbrev pub is_moment : List ℕ → Bool
is_moment text =
    nat_le (length (before_point text)) 12
    && (is_number (before_point text) && (length (after_point text) == 6 && is_number (after_point text)))

-- a word of capital letters
abbrev pub is_verdict : List ℕ → Bool
is_verdict text = is_short 32 text && count_by (λ b. not (is_ascii_uppercase b)) text == 0

-- a word of small letters, digits and dashes, or nothing
abbrev pub is_word_letter : ℕ → Bool
is_word_letter byte = is_ascii_lowercase byte || (is_ascii_digit byte || byte == 45)

abbrev pub is_known_word : List ℕ → Bool
is_known_word text = length text == 0 || (is_short 32 text && count_by (λ b. not (is_word_letter b)) text == 0)

-- four numbers with points between them, as far as its bytes show, or nothing
abbrev pub is_address_letter : ℕ → Bool
is_address_letter byte = is_ascii_digit byte || byte == 46

abbrev pub is_known_address : List ℕ → Bool
is_known_address text =
    length text == 0
    || (is_short 15 text && (count_by (λ b. not (is_address_letter b)) text == 0 && count_by (λ b. b == 46) text == 3))

-- ---- columns

-- the field in this column is what the column says; what may be unknown may be nothing
abbrev pub is_field : ℕ → List ℕ → Bool
is_field column text =
    if column == number_column then is_number text else (if column == moment_column then is_moment text else
    (if column == verdict_column then is_verdict text else
    (if column == case_column || (column == protocol_column || column == choice_column) then is_known_word text else
    (if column == address_column || (column == source_column || column == destination_column) then is_known_address text
    else is_known_number text))))

-- the names of columns
abbrev pub column_name : ℕ → List ℕ
column_name column =
    if column == number_column then codes "number" else (if column == moment_column then codes "moment" else
    (if column == worker_column then codes "worker" else (if column == verdict_column then codes "verdict" else
    (if column == steps_column then codes "steps" else (if column == case_column then codes "case" else
    (if column == backend_column then codes "backend" else (if column == address_column then codes "address" else
    (if column == source_column then codes "source" else (if column == source_port_column then codes "source_port" else
    (if column == destination_column then codes "destination" else (if column == destination_port_column then codes "destination_port" else
    (if column == protocol_column then codes "protocol" else codes "choice"))))))))))))
