-- Moments, in nanoseconds since the start of 1970, and how a timed script spells them.
use Rattle.std.specs.Prelude.{ℕ, ◌+◌, ◌-◌, ◌*◌, ◌==◌, ◌&&◌, nat_lt, ℤ, pos, ◌+ℤ◌, ◌*ℤ◌, int_lt, List, [], ◌∷◌, length}
use Rattle.std.specs.Prelude.{Option, Some, None, Result, Ok, Err, suc, if◌then◌else◌}
use Rattle.std.specs.Option.{option_and_then}
use Rattle.std.specs.Char.{is_ascii_digit}
use Rattle.jiff_core.specs.declared.error.Error.{Error}
use Rattle.jiff_fmt.specs.Temporal.{parse_timestamp}
use Rattle.wire.specs.declared.records.Sent.{Sent}
use Rattle.timed_scripts.specs.Cutting.{cut_at, is_nothing}

-- ---- numbers

-- the number below 10^12 that these digits write behind those of another one
abbrev pub number_after : ℕ → List ℕ → Option ℕ
number_after value [] = Some value
number_after value (digit ∷ digits) =
    if is_ascii_digit digit && nat_lt value 100_000_000_000 then number_after (value * 10 + (digit - 48)) digits else None

-- the number below 10^12 that one decimal digit or more write
abbrev pub written_number : List ℕ → Option ℕ
written_number [] = None
written_number (digit ∷ digits) = number_after 0 (digit ∷ digits)

-- so many millionths are this number of parts, where it has so many digits behind the point
abbrev pub millionths : ℕ → ℕ → Option ℕ
millionths digits value =
    if digits == 1 then Some (value * 100_000)
    else (if digits == 2 then Some (value * 10_000)
    else (if digits == 3 then Some (value * 1_000)
    else (if digits == 4 then Some (value * 100)
    else (if digits == 5 then Some (value * 10)
    else (if digits == 6 then Some value else None)))))

-- ---- seconds with up to six digits behind the point, in nanoseconds

abbrev pub fraction_of : List ℕ → Option ℕ
fraction_of digits = option_and_then (λ value. millionths (length digits) value) (written_number digits)

abbrev pub with_fraction : ℕ → Option ℕ → Option ℤ
with_fraction whole None = None
with_fraction whole (Some micros) = Some (pos whole *ℤ pos 1_000_000_000 +ℤ pos micros *ℤ pos 1_000)

abbrev pub seconds_in : List ℕ → Option (List ℕ × List ℕ) → Option ℤ
seconds_in text None = option_and_then (λ whole. with_fraction whole (Some 0)) (written_number text)
seconds_in text (Some parts) = option_and_then (λ whole. with_fraction whole (fraction_of parts.1)) (written_number parts.0)

-- the seconds that a text says, as `1764324180` or `1764324180.25`
abbrev pub seconds_of : List ℕ → Option ℤ
seconds_of text = seconds_in text (cut_at 46 text)

-- ---- moments

-- the moment of a record
abbrev pub record_moment : Sent → ℕ
record_moment sent = (sent.seconds * 1_000_000 + sent.micros) * 1_000

abbrev pub first_moment : List Sent → Option ℕ
first_moment [] = None
first_moment (sent ∷ sents) = Some (record_moment sent)

abbrev pub later_than : ℕ → Option ℤ → Option ℤ
later_than first None = None
later_than first (Some seconds) = Some (pos first +ℤ seconds)

-- so many seconds behind the first record: a number and `s`, and nothing behind it
abbrev pub since : Option ℕ → Option (List ℕ × List ℕ) → Option ℤ
since None parts = None
since (Some first) None = None
since (Some first) (Some parts) = if is_nothing parts.1 then later_than first (seconds_of parts.0) else None

abbrev pub moment_read : Result ℤ Error → Option ℤ
moment_read (Ok moment) = Some moment
moment_read (Err error) = None

abbrev pub first_known : Option ℤ → Option ℤ → Option ℤ
first_known (Some one) other = Some one
first_known None other = other

-- seconds since the start of 1970, or else a date and a time of RFC 3339 as jiff reads them
abbrev pub fixed_moment : List ℕ → Option ℤ
fixed_moment word = first_known (seconds_of word) (moment_read (parse_timestamp word))

-- the moment that a word says: `+180s` and `+0.5s` are from the first record on
abbrev pub moment_said : Option ℕ → List ℕ → Option ℤ
moment_said first [] = fixed_moment []
moment_said first (letter ∷ letters) = if letter == 43 then since first (cut_at 115 letters) else fixed_moment (letter ∷ letters)

-- ---- records before a moment

-- how many records come before the first one that is not earlier
abbrev pub records_before : ℤ → List Sent → ℕ
records_before moment [] = 0
records_before moment (sent ∷ sents) = if int_lt (pos (record_moment sent)) moment then suc (records_before moment sents) else 0
